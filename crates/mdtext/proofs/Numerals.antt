-- The digits of a numeric reference.
use Rattle.std.proofs.Common.{◌≡◌, ℕ, zero, suc, ◌==◌, ◌+◌, ◌^◌, ◌<◌, ◌≤◌, Bool, true, false, List, [], ◌∷◌, length, take, drop, refl, ap, sym, ◌∙◌, arith, subst, cond, eqb, nat_lt, nat_le, ◌&&◌, ◌||◌}
use Rattle.std.proofs.lemmas.Bool.{eqb-true}
use Rattle.std.proofs.lemmas.Bool.Decides.{nat_tests}
use Rattle.std.proofs.lemmas.Int.Digits.{digits_value-lt}
use Rattle.std.proofs.lemmas.List.Sums.{prefix_len-le-length}
use Rattle.std.proofs.lemmas.Str.{IsCharBoundary-after_ascii}
use Rattle.std.proofs.Math.Nat.{pow-le-pow_left, pow-le-pow_right}
use Rattle.std.specs.Char.{is_digit, digit_value}
use Rattle.std.specs.List.{prefix_len, slice_range, slice_index}
use Rattle.std.specs.Str.{IsUtf8, IsCharBoundary}
use Rattle.std.specs.Str.Parse.{AllDigits, IsNumeral, digits_value, without_leading_plus}
use Rattle.mdtext.specs.EntityTable.{EntityTable}
use Rattle.mdtext.specs.CharacterReferences.{is_closed, named, numeric, reference}
use Rattle.std.proofs.lemmas.List.{length-take-le}

no_plus : (base d : ℕ) (ds : List ℕ) (t : Bool) → eqb d 43 ≡ t → base ≤ 16 → digit_value d < base → drop (cond t 1 0) (d ∷ ds) ≡ d ∷ ds
no_plus base d ds true e least h =
    let plus : d ≡ 43 = eqb-true d 43 e in
    let large : digit_value d ≡ 36 = ap digit_value plus in
    absurd (omega (arith, large, least, h))
no_plus base d ds false e least h = refl

-- a numeral begins with no sign
without_plus : (base : ℕ) (ds : List ℕ) → base ≤ 16 → IsNumeral base ds → without_leading_plus ds ≡ ds
without_plus base [] least h = refl
without_plus base (d ∷ ds) least h = no_plus base d ds _ refl least h.1.0

-- at most 7 digits fit 32 bits
small : (base : ℕ) (ds : List ℕ) → base ≤ 16 → length ds ≤ 7 → AllDigits base ds → digits_value base ds < 2 ^ 32
small base ds least few all =
    let by_digits : digits_value base ds < base ^ length ds = digits_value-lt base ds all in
    let by_base : base ^ length ds ≤ 16 ^ length ds = pow-le-pow_left least (length ds) in
    let by_length : 16 ^ length ds ≤ 16 ^ 7 = pow-le-pow_right {n = 16} (omega arith) few in
    let most : 16 ^ 7 < 2 ^ 32 = omega arith in
    omega (arith, by_digits, by_base, by_length, most)

pub parses : (base : ℕ) (ds : List ℕ) → base ≤ 16 → length ds ≤ 7 → IsNumeral base ds → IsNumeral base (without_leading_plus ds) × (digits_value base (without_leading_plus ds) < 2 ^ 32)
parses base ds least few h = subst (λ l. IsNumeral base l × (digits_value base l < 2 ^ 32)) (sym (without_plus base ds least h)) (h, small base ds least few h.1)

one_digit : (base d n : ℕ) (ds : List ℕ) (t : Bool) → is_digit d base ≡ t → AllDigits base (take n ds) → AllDigits base (take (cond t (1 + n) 0) (d ∷ ds))
one_digit base d n ds true e h =
    let longer : take (1 + n) (d ∷ ds) ≡ d ∷ take n ds = grind arith in
    subst (AllDigits base) (sym longer) (grind (arith, nat_tests, e), h)
one_digit base d n ds false e h = tt

pub all_digits : (base : ℕ) (text : List ℕ) → AllDigits base (take (prefix_len (λ b. is_digit b base) text) text)
all_digits base [] = tt
all_digits base (d ∷ ds) = one_digit base d _ ds _ refl (all_digits base ds)

both_true : (a b : Bool) → (a && b) ≡ true → (a ≡ true) × (b ≡ true)
both_true true true h = (refl, refl)
both_true true false h = cc
both_true false b h = cc

pub numeral_run : (base most digits : ℕ) (run text : List ℕ) → digits ≡ prefix_len (λ b. is_digit b base) text → is_closed digits most text ≡ true → run ≡ slice_range text 0 digits → IsNumeral base run
numeral_run base most digits run text e closed r =
    let within : digits ≤ length text = (let h = prefix_len-le-length (λ b. is_digit b base) text in omega (arith, e, h)) in
    let tests : ((nat_lt 0 digits && nat_le digits most) ≡ true) × ((slice_index text digits == 59) ≡ true) = both_true (nat_lt 0 digits && nat_le digits most) (slice_index text digits == 59) closed in
    let some : 0 < digits = grind (arith, nat_tests, (both_true (nat_lt 0 digits) (nat_le digits most) tests.0).0) in
    let front : slice_range text 0 digits ≡ take digits text = grind arith in
    let long : length (take digits text) ≡ digits = length-take-le digits text within in
    subst (IsNumeral base) (sym (r ∙ front)) (omega (arith, some, long), subst (λ n. AllDigits base (take n text)) (sym e) (all_digits base text))

-- the kinds of references, by the first bytes after `&`
pub at_name : (table : EntityTable) (text : List ℕ) (b : ℕ) → b ≡ slice_index text 0 → (b ≡ 35 → ⊥) → named table text ≡ reference table text
unfolding reference
at_name table text b e other = let no_number : eqb (slice_index text 0) 35 ≡ false = grind (arith, e, other) in rw no_number refl

pub at_hex : (table : EntityTable) (text : List ℕ) (b d : ℕ) → b ≡ slice_index text 0 → b ≡ 35 → d ≡ slice_index text 1 → (eqb d 120 || eqb d 88) ≡ true → numeric 3 16 6 (drop 2 text) ≡ reference table text
unfolding reference
at_hex table text b d e number f h = let number' : eqb (slice_index text 0) 35 ≡ true = grind (arith, e, number) in rw (number', ← f, h) refl

pub at_decimal : (table : EntityTable) (text : List ℕ) (b d : ℕ) → b ≡ slice_index text 0 → b ≡ 35 → d ≡ slice_index text 1 → (eqb d 120 || eqb d 88) ≡ false → numeric 2 10 7 (drop 1 text) ≡ reference table text
unfolding reference
at_decimal table text b d e number f h = let number' : eqb (slice_index text 0) 35 ≡ true = grind (arith, e, number) in rw (number', ← f, h) refl

present : (text : List ℕ) (i : ℕ) → 0 < slice_index text i → i < length text
present [] i h = absurd (omega (arith, h))
present (b ∷ bs) zero h = omega arith
present (b ∷ bs) (suc i) h = let later = present bs i h in omega (arith, later)

-- the text may be cut after an ASCII byte that is there
pub cut_after : (text : List ℕ) (i b : ℕ) → IsUtf8 text → b ≡ slice_index text i → 0 < b → b < 128 → IsCharBoundary text (i + 1)
cut_after text i b u e some ascii =
    IsCharBoundary-after_ascii text i u (present text i (omega (arith, e, some))) (omega (arith, e, ascii))

pub x_bounds : (d : ℕ) → (eqb d 120 || eqb d 88) ≡ true → (0 < d) × (d < 128)
x_bounds d h = (grind (arith, h), grind (arith, h))
