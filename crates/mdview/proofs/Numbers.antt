-- Whether a number is in a list of numbers that rise.
use Rattle.std.proofs.Common.{◌≡◌, ◌≤◌, ◌<◌, ℕ, zero, suc, Bool, true, false, ◌||◌, List, [], ◌∷◌, Some, length, map, get_or, nat_lt, refl, ap, arith}
use Rattle.std.specs.Prelude.{nat_eq, slice_get}
use Rattle.std.specs.List.{list_any}
use Rattle.std.specs.List.Sorted.{IsNonDecreasing, IsNonDecreasingBy}
use Rattle.std.proofs.Math.ListN.{get_or-map}
use Rattle.std.proofs.lemmas.Bool.Decides.{nat_tests}
use Rattle.std.proofs.lemmas.List.{length-map}
use Rattle.std.proofs.lemmas.List.Elements.{All-from_get_or}
use Rattle.std.proofs.lemmas.List.Folds.{list_any_none}
use Rattle.std.proofs.lemmas.List.Sorted.{IsNonDecreasingBy-from_default}

pub number_there : (xs : List ℕ) (i n : ℕ) → slice_get xs i ≡ Some n → list_any (nat_eq n) xs ≡ true
number_there [] i n h = cc
number_there (x ∷ xs) zero n h =
    let same : x ≡ n = cc in
    let found : nat_eq n x ≡ true = grind (arith, nat_tests, same) in
    ap (λ t. t || list_any (nat_eq n) xs) found
number_there (x ∷ xs) (suc i) n h = by (nat_eq n x) (number_there xs i n h)
  where
    by : (t : Bool) → list_any (nat_eq n) xs ≡ true → (t || list_any (nat_eq n) xs) ≡ true
    by true k = refl
    by false k = k

pub number_not : (xs : List ℕ) (place n : ℕ) → ((i : ℕ) → i < place → i < length xs → get_or xs i 0 < n) → ((i : ℕ) → place ≤ i → i < length xs → n < get_or xs i 0) → list_any (nat_eq n) xs ≡ false
number_not xs place n front behind =
    list_any_none (nat_eq n) xs (All-from_get_or (λ x. nat_eq n x ≡ false) xs 0 (λ i below. by i below (nat_lt i place) refl))
  where
    by : (i : ℕ) → i < length xs → (t : Bool) → nat_lt i place ≡ t → nat_eq n (get_or xs i 0) ≡ false
    by i below true h = let less = front i (grind (arith, nat_tests, h)) below in grind (arith, nat_tests, less)
    by i below false h = let more = behind i (grind (arith, nat_tests, h)) below in grind (arith, nat_tests, more)

-- the numbers of members rise where a list of them does
pub rise_by : {A : Type 0} (f : A → ℕ) (xs : List A) (d : A) → IsNonDecreasing (map f xs) → IsNonDecreasingBy f xs
rise_by f xs d h =
    IsNonDecreasingBy-from_default f xs d
    (λ i j order below.
    let many = length-map xs f in
    let rises = h i j (f d) order (omega (arith, below, many)) in
    let a = get_or-map f xs i d in
    let b = get_or-map f xs j d in
    omega (arith, rises, a, b))
