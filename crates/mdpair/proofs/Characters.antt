-- The character that a text ends with.
use Rattle.std.proofs.Common.{◌≡◌, ℕ, ◌-◌, ◌+◌, ◌/◌, ◌%◌, ◌<◌, ◌≤◌, Bool, true, false, cond, ltb, List, [], ◌∷◌, ◌++◌, length, Option, Some, None, MatchOption, refl, sym, ap, ◌∙◌, subst, arith, get_or}
use Rattle.std.specs.Prelude.{slice_get}
use Rattle.std.specs.Str.{chars, IsUtf8, IsCharBoundary}
use Rattle.std.proofs.Math.Utf8.{encode}
use Rattle.std.proofs.lemmas.Str.{chars-append, chars_past_char, chars-nil, IsUtf8-drop, IsUtf8-take}
use Rattle.std.proofs.lemmas.Option.{slice_get-get_or}
use Rattle.std.proofs.lemmas.List.{length-append, nil_from_length, append-nil, get_or-append-add}
use Rattle.std.proofs.lemmas.Bool.Decides.{nat_tests}
use Rattle.std.proofs.Math.Seq.{get_or-append_seam, take-append_seam, drop-append_seam}

get_last : (xs : List ℕ) (c : ℕ) → slice_get (xs ++ c ∷ []) (length (xs ++ c ∷ []) - 1) ≡ Some c
get_last xs c =
    let n : length (xs ++ c ∷ []) - 1 ≡ length xs = omega (arith, length-append xs (c ∷ [])) in
    ap (slice_get (xs ++ c ∷ [])) n ∙ slice_get-get_or (xs ++ c ∷ []) (length xs) c (omega (arith, length-append xs (c ∷ [])))
    ∙ ap Some (get_or-append_seam xs c [] c)

-- a character's first byte is no continuation byte
abbrev IsLead : List ℕ → Type 0
IsLead bs = (0 < length bs) × (128 ≤ get_or bs 0 0 → 192 ≤ get_or bs 0 0)

lead_of : (c : ℕ) (xs : List ℕ) → 192 ≤ c → IsLead (c ∷ xs)
lead_of c xs h = (omega arith, λ _. h)

encode_lead : (c : ℕ) → IsLead (encode c)
unfolding encode
encode_lead c = at (ltb c 128) (ltb c 2048) (ltb c 65536) refl
  where
    at : (x y z : Bool) → ltb c 128 ≡ x →
        IsLead (cond x (c ∷ []) (cond y ((192 + c / 64) ∷ (128 + c % 64) ∷ []) (cond z ((224 + c / 4096) ∷ (128 + c / 64 % 64) ∷ (128 + c % 64) ∷ []) ((240 + c / 262144) ∷ (128 + c / 4096 % 64) ∷ (128 + c / 64 % 64) ∷ (128 + c % 64) ∷ []))))
    at true y z e = let low : c < 128 = grind (arith, nat_tests) in (omega arith, λ h. absurd (omega arith))
    at false true z e = lead_of (192 + c / 64) ((128 + c % 64) ∷ []) (omega arith)
    at false false true e = lead_of (224 + c / 4096) ((128 + c / 64 % 64) ∷ (128 + c % 64) ∷ []) (omega arith)
    at false false false e = lead_of (240 + c / 262144) ((128 + c / 4096 % 64) ∷ (128 + c / 64 % 64) ∷ (128 + c % 64) ∷ []) (omega arith)

ends_with : (t : List ℕ) (c : ℕ) → IsUtf8 (t ++ encode c) → slice_get (chars (t ++ encode c)) (length (chars (t ++ encode c)) - 1) ≡ Some c
ends_with t c u =
    let lead = encode_lead c in
    let len = length-append t (encode c) in
    let first : get_or (t ++ encode c) (length t) 0 ≡ get_or (encode c) 0 0 =
    ap (λ n. get_or (t ++ encode c) n 0) (sym (let z : length t + 0 ≡ length t = omega arith in z)) ∙ get_or-append-add t (encode c) 0 0 in
    let cut : IsCharBoundary (t ++ encode c) (length t) =
    (omega (arith, len), λ lt h. subst (λ n. 192 ≤ n) (sym first) (lead.1 (subst (λ n. 128 ≤ n) first h))) in
    let front : IsUtf8 t = subst IsUtf8 (take-append_seam t (encode c)) (IsUtf8-take (t ++ encode c) (length t) u cut) in
    let last : IsUtf8 (encode c) = subst IsUtf8 (drop-append_seam t (encode c)) (IsUtf8-drop (t ++ encode c) (length t) u cut) in
    let one : chars (encode c) ≡ c ∷ [] = chars_past_char (encode c) [] c last (sym (append-nil (encode c))) ∙ ap (λ cs. c ∷ cs) chars-nil in
    let all : chars (t ++ encode c) ≡ chars t ++ c ∷ [] = chars-append t (encode c) front ∙ ap (λ cs. chars t ++ cs) one in
    subst (λ cs. slice_get cs (length cs - 1) ≡ Some c) (sym all) (get_last (chars t) c)

pub last_char_is : (front t : List ℕ) (r : Option ℕ) (P : Type 0) → IsUtf8 front → MatchOption r ((length front ≡ 0) × P) (λ c. front ≡ t ++ encode c) →
    r ≡ slice_get (chars front) (length (chars front) - 1)
last_char_is front t None P u h =
    let none : chars front ≡ [] = ap chars (nil_from_length front h.0) ∙ chars-nil in
    subst (λ cs. ◌≡◌ {A = Option ℕ} None (slice_get cs (length cs - 1))) (sym none) refl
last_char_is front t (Some c) P u h =
    sym (subst (λ bs. slice_get (chars bs) (length (chars bs) - 1) ≡ Some c) (sym h) (ends_with t c (subst IsUtf8 h u)))
