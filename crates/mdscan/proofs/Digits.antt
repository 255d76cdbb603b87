-- Numbers of at most nine digits.
use Rattle.std.proofs.Common.{◌≡◌, ℕ, ◌+◌, ◌*◌, ◌^◌, ◌<◌, ◌≤◌, Bool, true, false, List, [], ◌∷◌, length, take, get_or, arith, refl, cond, suc, lit≤}
use Rattle.std.specs.Char.{is_ascii_digit, digit_value}
use Rattle.std.specs.Int.{IsInRange}
use Rattle.std.specs.List.{prefix_len}
use Rattle.std.specs.Str.Parse.{AllDigits, digits_value}
use Rattle.std.proofs.lemmas.Int.Digits.{digits_value_more}
use Rattle.std.proofs.lemmas.Str.{digit_value_digit}
use Rattle.std.proofs.lemmas.Str.Parse.{digit_at, digits_value_short, digits_value-take-le, numerals_by_value, tells_digits}
use Rattle.std.proofs.lemmas.Bool.Decides.{nat_tests}

-- one more digit leaves the number below a thousand million
pub room : (ds : List ℕ) (i value : ℕ) → AllDigits 10 ds → length ds ≤ 9 → i < length ds → value ≡ digits_value 10 (take i ds) → value * 10 + digit_value (get_or ds i 0) < 10 ^ 9
room ds i value all few inside e =
    let whole = digits_value_short (numerals_by_value (AllDigits 10) tells_digits) ds 9 all few in
    let part = digits_value-take-le 10 ds (i + 1) (lit≤ tt) in
    omega (arith, digits_value_more 10 ds i inside)

-- a digit stands for its code less that of `0`
pub digit_code : (ds : List ℕ) (i : ℕ) → AllDigits 10 ds → i < length ds → digit_value (get_or ds i 0) + 48 ≡ get_or ds i 0
digit_code ds i all inside = digit_value_digit (get_or ds i 0) (digit_at ds i all inside)

digit_small : (c : ℕ) → is_ascii_digit c ≡ true → digit_value c < 10
digit_small c h = let inside : IsInRange 48 57 c = grind (arith, nat_tests) in omega (arith, digit_value_digit c inside, inside.0, inside.1)

-- the digits that a text begins with are digits
pub digits_front : (text : List ℕ) → AllDigits 10 (take (prefix_len is_ascii_digit text) text)
digits_front [] = tt
digits_front (c ∷ cs) = front_by c cs (is_ascii_digit c) refl (digits_front cs)
  where
    front_by : (c : ℕ) (cs : List ℕ) (b : Bool) → is_ascii_digit c ≡ b → AllDigits 10 (take (prefix_len is_ascii_digit cs) cs) → AllDigits 10 (take (cond b (1 + prefix_len is_ascii_digit cs) 0) (c ∷ cs))
    front_by c cs true h rest = let e : 1 + prefix_len is_ascii_digit cs ≡ suc (prefix_len is_ascii_digit cs) = omega arith in rw e (digit_small c h, rest)
    front_by c cs false h rest = tt
