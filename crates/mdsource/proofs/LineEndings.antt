-- A byte of a few stands in a text if the first place of one lies before its end.
use Rattle.std.proofs.Common.{◌≡◌, ℕ, Bool, true, false, cond, nat_lt, not, ◌+◌, suc, List, [], ◌∷◌, length, refl, ap, ◌∙◌, ◌||◌, ◌==◌, arith}
use Rattle.std.proofs.lemmas.Bool.Decides.{nat_tests}
use Rattle.std.specs.List.{position_or_len, list_any}

one_less : (n m : ℕ) → nat_lt (1 + n) (suc m) ≡ nat_lt n m
one_less n m = grind (arith, nat_tests)

any-first : (b : Bool) (n m : ℕ) (rest : Bool) → nat_lt n m ≡ rest → nat_lt (cond (not b) (1 + n) 0) (suc m) ≡ (b || rest)
any-first true n m rest h = grind (arith, nat_tests)
any-first false n m rest h = one_less n m ∙ h

pub any-placed : (p : ℕ → Bool) (xs : List ℕ) → nat_lt (position_or_len p xs) (length xs) ≡ list_any p xs
any-placed p [] = refl
any-placed p (x ∷ xs) = any-first (p x) (position_or_len p xs) (length xs) (list_any p xs) (any-placed p xs)

two : (b c : Bool) → (b || (c || false)) ≡ (b || c)
two true c = refl
two false true = refl
two false false = refl

any-two : (a c : ℕ) (xs : List ℕ) → list_any (λ x. list_any (λ b. x == b) (a ∷ c ∷ [])) xs ≡ list_any (λ x. (x == a) || (x == c)) xs
any-two a c [] = refl
any-two a c (x ∷ xs) = ap (λ b. b || list_any (λ y. list_any (λ b. y == b) (a ∷ c ∷ [])) xs) (two (x == a) (x == c)) ∙ ap (λ r. ((x == a) || (x == c)) || r) (any-two a c xs)

-- of two bytes
pub stands : (a c : ℕ) (xs : List ℕ) → nat_lt (position_or_len (λ x. list_any (λ b. x == b) (a ∷ c ∷ [])) xs) (length xs) ≡ list_any (λ x. (x == a) || (x == c)) xs
stands a c xs = any-placed (λ x. list_any (λ b. x == b) (a ∷ c ∷ [])) xs ∙ any-two a c xs
