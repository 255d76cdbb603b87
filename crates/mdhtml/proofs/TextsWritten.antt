-- The texts of a unit, one after the other: their HTML, and whether one is too deep.
use Rattle.std.proofs.Common.{◌≡◌, ◌<◌, ◌≤◌, ◌+◌, ◌||◌, ℕ, suc, Bool, false, true, List, [], ◌∷◌, ◌++◌, String, Global, string_bytes, map, drop, get_or, length, sym, ap, ◌∙◌, add-one, append_assoc, append-nil, drop-cons}
use Rattle.std.proofs.lemmas.List.{map-append, drop_all}
use Rattle.std.specs.List.{list_any}

module _ (shown : List ℕ → List ℕ) (texts : List (String Global)) where
  -- the HTML of the texts from a place on
  abbrev pub rest : ℕ → List (List ℕ)
  rest i = map shown (map string_bytes (drop i texts))

  pub none_yet : (done : List (String Global)) → done ≡ [] → map string_bytes done ++ rest 0 ≡ rest 0
  none_yet done e = ap (λ xs. map string_bytes xs ++ rest 0) e

  pub text_more : (i : ℕ) (text html : String Global) (done new : List (String Global)) → i < length texts → text ≡ get_or texts i text
      → new ≡ done ++ html ∷ [] → string_bytes html ≡ shown (string_bytes text) → map string_bytes done ++ rest i ≡ rest 0 → map string_bytes new ++ rest (i + 1) ≡ rest 0
  text_more i text html done new lt is pushed e h =
      ap (λ xs. map string_bytes xs ++ rest (i + 1)) pushed
      ∙ ap (λ xs. xs ++ rest (i + 1)) (map-append string_bytes done (html ∷ []))
      ∙ append_assoc (map string_bytes done) (string_bytes html ∷ []) (rest (i + 1))
      ∙ ap (λ x. map string_bytes done ++ x ∷ rest (i + 1)) e
      ∙ ap (λ k. map string_bytes done ++ shown (string_bytes text) ∷ rest k) (add-one i)
      ∙ ap (λ t. map string_bytes done ++ shown (string_bytes t) ∷ rest (suc i)) is
      ∙ ap (λ xs. map string_bytes done ++ map shown (map string_bytes xs)) (sym (drop-cons texts i text lt)) ∙ h

  pub all_texts : (i : ℕ) (done : List (String Global)) → length texts ≤ i → map string_bytes done ++ rest i ≡ rest 0 → map string_bytes done ≡ rest 0
  all_texts i done past h = sym (append-nil (map string_bytes done)) ∙ sym (ap (λ xs. map string_bytes done ++ map shown (map string_bytes xs)) (drop_all i texts past)) ∙ h

module _ (deep : List ℕ → Bool) (texts : List (String Global)) where
  -- whether one of the texts from a place on is too deep
  abbrev pub deep_from : ℕ → Bool
  deep_from i = list_any deep (map string_bytes (drop i texts))

  next_deep : (i : ℕ) (text : String Global) → i < length texts → text ≡ get_or texts i text → deep_from i ≡ (deep (string_bytes text) || deep_from (i + 1))
  next_deep i text lt is =
      ap (λ xs. list_any deep (map string_bytes xs)) (drop-cons texts i text lt)
      ∙ ap (λ t. deep (string_bytes t) || deep_from (suc i)) (sym is)
      ∙ ap (λ k. deep (string_bytes text) || deep_from k) (sym (add-one i))

  pub fits_more : (i : ℕ) (text : String Global) → i < length texts → text ≡ get_or texts i text → deep (string_bytes text) ≡ false → deep_from i ≡ deep_from 0
      → deep_from (i + 1) ≡ deep_from 0
  fits_more i text lt is fits h = ap (λ b. b || deep_from (i + 1)) (sym fits) ∙ sym (next_deep i text lt is) ∙ h

  pub one_too_deep : (i : ℕ) (text : String Global) → i < length texts → text ≡ get_or texts i text → deep (string_bytes text) ≡ true → deep_from i ≡ deep_from 0
      → deep_from 0 ≡ true
  one_too_deep i text lt is over h = sym h ∙ next_deep i text lt is ∙ ap (λ b. b || deep_from (i + 1)) over

  pub all_fit : (i : ℕ) → length texts ≤ i → deep_from i ≡ deep_from 0 → deep_from 0 ≡ false
  all_fit i past h = sym h ∙ ap (λ xs. list_any deep (map string_bytes xs)) (drop_all i texts past)
