-- The front of a label as one number.
use Rattle.std.specs.Prelude.{◌≡◌, ◌<◌, ◌+◌, ◌*◌, ℕ, zero, suc, List, [], ◌∷◌}

-- 256 to this power
abbrev pub worth : ℕ → ℕ
worth zero = 1
worth (suc n) = 256 * worth n

-- the first n bytes as the digits of a number; zeros stand behind a shorter text
abbrev pub digits : ℕ → List ℕ → ℕ
digits zero bs = 0
digits (suc n) [] = 0
digits (suc n) (b ∷ bs) = b * worth n + digits n bs

-- and they are bytes
abbrev pub AreBytes : ℕ → List ℕ → Type 0
AreBytes zero bs = Unit {0}
AreBytes (suc n) [] = Unit {0}
AreBytes (suc n) (b ∷ bs) = (b < 256) × AreBytes n bs

-- the number that stands for the first eight bytes of a text
abbrev pub IsFrontOf : List ℕ → ℕ → Type 0
IsFrontOf bs front = (front ≡ digits 8 bs) × AreBytes 8 bs
