-- The first place of one of a few bytes.
use Rattle.std.proofs.Common.{◌≡◌, ℕ, Bool, true, false, List, [], ◌∷◌, Option, None, Some, zero, suc, length, take, get_or, ◌+◌, ◌<◌, ◌≤◌, ◌++◌, cond, eqb, length-append, unwrap_or, refl, ap, sym, subst, ◌∙◌, arith, ◌||◌}
use Rattle.std.specs.List.{position_or_len, list_any}
use Rattle.std.specs.Prelude.{slice_index}
use Rattle.std.proofs.Math.Seq.{take-length}
use Rattle.mdtext.specs.Lines.{clean_byte, without_nul}
use Rattle.mdtext.proofs.PlainRuns.{front_plain, run_stays}
use Rattle.mdtext.proofs.Specials.{replaces_nul}
use Rattle.std.proofs.lemmas.List.{append-nil}
use Rattle.std.proofs.lemmas.List.Sums.{position_or_len_is}
use Rattle.memchr.specs.Find.{IsFirstByte, is_byte}
use Rattle.mdtext.specs.ByteClass.{in_class}

fails : (b : Bool) → ¬ (b ≡ true) → b ≡ false
fails true h = absurd (h refl)
fails false h = refl

first_place : (class : List ℕ) (test : ℕ → Bool) → ((x : ℕ) → in_class class x ≡ test x) → (bs : List ℕ) (r : Option ℕ) → IsFirstByte test bs r
    → unwrap_or r (length bs) ≡ position_or_len (in_class class) bs
first_place class test same bs None h =
    sym (position_or_len_is (in_class class) bs (length bs) 0 (omega arith) (λ k l. same _ ∙ fails _ (h k (omega arith) l)) (λ l. absurd (omega arith)))
first_place class test same bs (Some k) h =
    sym (position_or_len_is (in_class class) bs k 0 (omega (arith, h.0.high)) (λ j l. same _ ∙ fails _ (h.0.before j (omega arith) l)) (λ l. same _ ∙ h.1))

one : (b c : Bool) → b ≡ c → (b || false) ≡ c
one true c h = h
one false c h = h

pub first_of_one : (a : ℕ) (bs : List ℕ) (r : Option ℕ) → IsFirstByte (is_byte a) bs r → unwrap_or r (length bs) ≡ position_or_len (in_class (a ∷ [])) bs
first_of_one a bs r h = first_place (a ∷ []) (is_byte a) (λ x. one _ _ refl) bs r h

-- the items of short lists
pub only : (xs : List ℕ) → length xs ≡ 1 → get_or xs 0 0 ∷ [] ≡ xs
only [] h = absurd (omega arith)
only (x ∷ []) h = refl
only (x ∷ y ∷ xs) h = absurd (omega arith)

pub both : (xs : List ℕ) → length xs ≡ 2 → get_or xs 0 0 ∷ get_or xs 1 0 ∷ [] ≡ xs
both [] h = absurd (omega arith)
both (x ∷ []) h = absurd (omega arith)
both (x ∷ y ∷ []) h = refl
both (x ∷ y ∷ z ∷ xs) h = absurd (omega arith)

-- a line with no NUL stays
pub stays : (bs : List ℕ) → IsFirstByte (is_byte 0) bs None → without_nul bs ≡ bs
stays bs h =
    let end : length bs ≡ position_or_len (in_class (0 ∷ [])) bs = first_of_one 0 bs None h in
    let plain : list_any (in_class (0 ∷ [])) bs ≡ false = ap (λ l. list_any (in_class (0 ∷ [])) l) (sym (ap (λ n. take n bs) (sym end) ∙ take-length bs)) ∙ front_plain (in_class (0 ∷ [])) bs in
    ap without_nul (sym (append-nil bs)) ∙ run_stays (0 ∷ []) clean_byte replaces_nul bs [] plain ∙ append-nil bs

grown_byte_by : (t : Bool) (b : ℕ) → 1 ≤ length (cond t (0xEF ∷ 0xBF ∷ 0xBD ∷ []) (b ∷ []))
grown_byte_by true b = omega arith
grown_byte_by false b = omega arith

grown_byte : (b : ℕ) → 1 ≤ length (clean_byte b)
grown_byte b = grown_byte_by (eqb b 0) b

no_shorter : (bs : List ℕ) → length bs ≤ length (without_nul bs)
no_shorter [] = omega arith
no_shorter (b ∷ bs) = omega (arith, grown_byte b, no_shorter bs, length-append (clean_byte b) (without_nul bs))

longer_by : (t : Bool) (b : ℕ) (bs : List ℕ) → t ≡ true → length bs + 1 < length (cond t (0xEF ∷ 0xBF ∷ 0xBD ∷ []) (b ∷ []) ++ without_nul bs)
longer_by t b bs nul = subst (λ t. length bs + 1 < length (cond t (0xEF ∷ 0xBF ∷ 0xBD ∷ []) (b ∷ []) ++ without_nul bs)) (sym nul) (omega (arith, no_shorter bs))

-- a line with a NUL gets longer
longer : (bs : List ℕ) (k : ℕ) → k < length bs → is_byte 0 (slice_index bs k) ≡ true → length bs < length (without_nul bs)
longer [] k less nul = absurd (omega (arith, less))
longer (b ∷ bs) zero less nul = omega (arith, longer_by (eqb b 0) b bs nul)
longer (b ∷ bs) (suc k) less nul = omega (arith, grown_byte b, longer bs k (omega (arith, less)) nul, length-append (clean_byte b) (without_nul bs))

pub grows : (bs : List ℕ) (k : ℕ) → IsFirstByte (is_byte 0) bs (Some k) → length bs < length (without_nul bs)
grows bs k h = longer bs k h.0.high h.1
