-- Where lists of numbers lack one, and where they have it.
use Rattle.std.proofs.Common.{◌≡◌, ℕ, zero, suc, ◌<◌, List, [], ◌∷◌, ◌++◌, length, refl, arith}
use Rattle.std.specs.Prelude.{Contains, slice_index_or}

abbrev pub Lacks : ℕ → List ℕ → Type 0
Lacks n [] = Unit {0}
Lacks n (m ∷ ms) = (m ≡ n → ⊥) × Lacks n ms

pub both_lack : (n : ℕ) (xs ys : List ℕ) → Lacks n xs → Lacks n ys → Lacks n (xs ++ ys)
both_lack n [] ys v w = w
both_lack n (x ∷ xs) ys v w = (v.0, both_lack n xs ys v.1 w)

pub lacks_not : (n : ℕ) (xs : List ℕ) → Lacks n xs → (k : ℕ) → k < length xs → slice_index_or xs k n ≡ n → ⊥
lacks_not n [] w k h e = absurd (omega (arith, h))
lacks_not n (x ∷ xs) w zero h e = w.0 e
lacks_not n (x ∷ xs) w (suc k) h e = lacks_not n xs w.1 k (omega (arith, h)) e

pub behind_first : (xs ys : List ℕ) (n : ℕ) → Contains (xs ++ n ∷ ys) n
behind_first [] ys n = (0, omega arith, refl)
behind_first (x ∷ xs) ys n = let w = behind_first xs ys n in (suc w.0, omega (arith, w.1), w.2)
