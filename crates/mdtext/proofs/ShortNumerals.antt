-- A number of few digits is in range.
use Rattle.std.proofs.Common.{◌≡◌, ℕ, ◌^◌, ◌<◌, ◌≤◌, List, [], ◌∷◌, ◌++◌, length, get_or, false, Some, IsSome, refl, sym, ap, ◌∙◌, subst, arith, append-nil, lt-ltb, ne_eqb, take}
use Rattle.std.proofs.lemmas.Int.Digits.{digits_value-lt}
use Rattle.std.proofs.lemmas.List.{take_all}
use Rattle.std.proofs.Math.Nat.{pow-le-pow_right}
use Rattle.std.specs.Char.{digit_value, is_digit}
use Rattle.std.specs.List.{prefix_len}
use Rattle.std.specs.Str.Parse.{AllDigits, digits_value}
use Rattle.fast_float.specs.Text.{Parts, scan, IsWellFormed}
use Rattle.fast_float.proofs.Writing.{scan-text_of}
use Rattle.serde_json.specs.Data.{unsigned}
use Rattle.serde_json.specs.Read.{number_of, number_from}
use Rattle.mdtext.proofs.Numerals.{all_digits}

abbrev parts : List ℕ → Parts
parts ds = record { whole = ds; point = false; fraction = []; exponent_negative = false; exponent = []; len = length (ds ++ []) }

no_minus : (ds : List ℕ) → AllDigits 10 ds → 0 < length ds → get_or ds 0 0 ≡ 45 → ⊥
no_minus [] h some e = omega (arith, some)
no_minus (d ∷ ds) h some e = let digit : digit_value d < 10 = h.0 in let is : d ≡ 45 = e in grind arith

scanned : (ds : List ℕ) → AllDigits 10 ds → 0 < length ds → number_of ds ≡ number_from false (parts ds)
unfolding number_of
scanned ds all some =
    let formed : IsWellFormed (parts ds) = record { whole_digits = all; fraction_digits = tt; exponent_digits = tt; no_point = λ _. refl; no_exponent = λ _. refl; len_is = refl } in
    rw (ne_eqb (get_or ds 0 0) 45 (no_minus ds all some)) (ap (λ s. number_from false (scan s)) (sym (append-nil ds)) ∙ ap (number_from false) (scan-text_of (parts ds) formed))

pub short_numeral : (ds : List ℕ) → 0 < length ds → length ds ≤ 19 → prefix_len (λ b. is_digit b 10) ds ≡ length ds → IsSome (number_of ds)
short_numeral ds some few run =
    let all : AllDigits 10 ds = subst (AllDigits 10) (ap (λ n. take n ds) run ∙ take_all (length ds) ds (omega arith)) (all_digits 10 ds) in
    let by_length : 10 ^ length ds ≤ 10 ^ 19 = pow-le-pow_right {n = 10} (omega arith) few in
    let most : 10 ^ 19 < 2 ^ 64 = omega arith in
    let below : digits_value 10 (ds ++ []) < 2 ^ 64 = rw (append-nil ds) (omega (arith, digits_value-lt 10 ds all, by_length, most)) in
    let is : number_of ds ≡ Some (unsigned (digits_value 10 (ds ++ []))) = scanned ds all some ∙ rw (lt-ltb 0 (length ds) some, lt-ltb (digits_value 10 (ds ++ [])) (2 ^ 64) below) refl in
    subst IsSome (sym is) refl
