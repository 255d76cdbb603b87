-- What pieces a patch brings.
use Rattle.std.proofs.Common.{◌≡◌, ℕ, zero, suc, ◌+◌, ◌-◌, ◌<◌, ◌≤◌, ◌==◌, Bool, true, false, get_or, nat_lt, List, [], ◌∷◌, ap, drop, length, refl, sym, ◌∙◌, arith}
use Rattle.std.proofs.lemmas.Bool.Decides.{nat_tests}
use Rattle.std.proofs.lemmas.List.{length-drop}
use Rattle.std.proofs.lemmas.List.Elements.{All-from_get_or}
use Rattle.std.proofs.lemmas.List.Folds.{list_any_none}
use Rattle.std.specs.List.{list_any}
use Rattle.mdsource.specs.ChangedPieces.{ChangedPieces}
use Rattle.mdsource.specs.Patch.{brings, brought}

module _ {A : Type 0} where
  -- patches that bring pieces of the same numbers
  pub brought_alike : (p q : ChangedPieces) → ((k : ℕ) → brings p k ≡ brings q k) → (i : ℕ) (xs : List A) → brought p i xs ≡ brought q i xs
  brought_alike p q same i [] = refl
  brought_alike p q same i (x ∷ xs) = rw (same i, brought_alike p q same (i + 1) xs) refl

  -- those in front of the next one that it brings are passed
  pub brought_ahead : (p : ChangedPieces) (i n : ℕ) (xs : List A) → ((k : ℕ) → i ≤ k → k < i + n → brings p k ≡ false) → brought p i xs ≡ brought p (i + n) (drop n xs)
  brought_ahead p i zero xs none = let same : i ≡ i + 0 = omega arith in ap (λ k. brought p k xs) same
  brought_ahead p i (suc n) [] none = refl
  brought_ahead p i (suc n) (x ∷ xs) none =
      let here : brings p i ≡ false = none i (omega arith) (omega arith) in
      let on : (i + 1) + n ≡ i + suc n = omega arith in
      rw here (brought_ahead p (i + 1) n xs (λ k low high. none k (omega (arith, low)) (omega (arith, high))) ∙ ap (λ k. brought p k (drop n xs)) on)

  -- so the next one that it brings is the first
  pub brought_next : (p : ChangedPieces) (from number : ℕ) (xs : List A) (x : A) (rest : List A) → from ≤ number
      → ((k : ℕ) → from ≤ k → k < number → brings p k ≡ false) → (number < from + length xs → brings p number ≡ true) → drop (number - from) xs ≡ x ∷ rest
      → brought p from xs ≡ (number, x) ∷ brought p (number + 1) rest
  brought_next p from number xs x rest low before there left =
      let size : length xs - (number - from) ≡ suc (length rest) = sym (length-drop (number - from) xs) ∙ ap length left in
      let here : brings p number ≡ true = there (omega (arith, low, size)) in
      let on : from + (number - from) ≡ number = omega (arith, low) in
      brought_ahead p from (number - from) xs (λ k least high. before k least (omega (arith, high, on)))
      ∙ ap (λ k. brought p k (drop (number - from) xs)) on ∙ ap (brought p number) left ∙ rw here refl

  -- and there is none where nothing is left
  pub brought_last : (p : ChangedPieces) (from number : ℕ) (xs : List A) → from ≤ number
      → ((k : ℕ) → from ≤ k → k < number → brings p k ≡ false) → drop (number - from) xs ≡ [] → brought p from xs ≡ []
  brought_last p from number xs low before left =
      let on : from + (number - from) ≡ number = omega (arith, low) in
      brought_ahead p from (number - from) xs (λ k least high. before k least (omega (arith, high, on))) ∙ ap (brought p (from + (number - from))) left

-- of numbers those in front of a place are less, and those from it on no less than another one
pub none_listed : (numbers : List ℕ) (place from least k : ℕ) → ((i : ℕ) → i < place → get_or numbers i 0 < from)
    → ((i : ℕ) → place ≤ i → i < length numbers → least ≤ get_or numbers i 0) → from ≤ k → k < least → list_any (λ j. j == k) numbers ≡ false
none_listed numbers place from least k front behind low high =
    list_any_none (λ j. j == k) numbers (All-from_get_or (λ j. (j == k) ≡ false) numbers 0 (λ i below. by i below (nat_lt i place) refl))
  where
    by : (i : ℕ) → i < length numbers → (b : Bool) → nat_lt i place ≡ b → (get_or numbers i 0 == k) ≡ false
    by i below true h = let less = front i (grind (arith, nat_tests, h)) in grind (arith, nat_tests, less, low)
    by i below false h = let more = behind i (grind (arith, nat_tests, h)) below in grind (arith, nat_tests, more, high)
