-- A run has a character, and the text may be cut behind it.
use Rattle.std.proofs.Common.{◌≡◌, ℕ, suc, ◌+◌, ◌-◌, ◌<◌, ◌≤◌, Bool, true, false, cond, eqb, List, ◌∷◌, length, take, drop, Option, Some, None, refl, sym, ap, subst, arith, get_or, length-drop, drop-cons}
use Rattle.std.specs.Prelude.{slice_get}
use Rattle.std.specs.Option.{option_and_then}
use Rattle.std.specs.Str.{IsUtf8, IsCharBoundary}
use Rattle.std.proofs.lemmas.Str.{IsCharBoundary-after_ascii}
use Rattle.std.proofs.lemmas.Option.{slice_get_within, get_or_from_slice_get}
use Rattle.std.proofs.lemmas.List.{get_or-drop}
use Rattle.std.proofs.lemmas.List.Sums.{prefix_len_passes, prefix_len-le-length}
use Rattle.std.proofs.lemmas.Bool.Decides.{nat_tests}
use Rattle.std.proofs.Math.Seq.{take-length}
use Rattle.mdpair.specs.declared.delimiter_runs.DelimiterChar.{DelimiterChar}
use Rattle.mdpair.specs.declared.delimiter_runs.DelimiterChar.TheVariants.{Asterisk, Underscore, Tilde}
use Rattle.mdpair.specs.Neighbours.{delimiter_of, byte_of, run_length}

is_byte : (x y z : Bool) (b : ℕ) (d : DelimiterChar) → eqb b 42 ≡ x → eqb b 95 ≡ y → eqb b 126 ≡ z →
    cond x (Some Asterisk) (cond y (Some Underscore) (cond z (Some Tilde) None)) ≡ Some d → b ≡ byte_of d
is_byte true y z b Asterisk p q r e = grind (arith, nat_tests)
is_byte false true z b Underscore p q r e = grind (arith, nat_tests)
is_byte false false true b Tilde p q r e = grind (arith, nat_tests)
is_byte true y z b Underscore p q r e = cc
is_byte true y z b Tilde p q r e = cc
is_byte false true z b Asterisk p q r e = cc
is_byte false true z b Tilde p q r e = cc
is_byte false false true b Asterisk p q r e = cc
is_byte false false true b Underscore p q r e = cc
is_byte false false false b d p q r e = cc

byte_at : (o : Option ℕ) (d : DelimiterChar) → option_and_then delimiter_of o ≡ Some d → o ≡ Some (byte_of d)
byte_at None d e = cc
byte_at (Some b) d e = ap Some (is_byte (eqb b 42) (eqb b 95) (eqb b 126) b d refl refl refl e)

is_ascii : (d : DelimiterChar) → byte_of d < 128
is_ascii Asterisk = omega arith
is_ascii Underscore = omega arith
is_ascii Tilde = omega arith

longer : (b : Bool) (n : ℕ) → b ≡ true → 0 < cond b (1 + n) 0
longer true n e = omega arith
longer false n e = cc

same_byte : (a b : ℕ) → a ≡ b → eqb a b ≡ true
same_byte a b e = grind (arith, nat_tests)

pub some_run : (text : List ℕ) (at : ℕ) (d : DelimiterChar) → option_and_then delimiter_of (slice_get text at) ≡ Some d → 0 < run_length d (drop at text)
some_run text at d e =
    let here = byte_at (slice_get text at) d e in
    let front : drop at text ≡ get_or text at 0 ∷ drop (suc at) text = drop-cons text at 0 (slice_get_within text at (byte_of d) here) in
    subst (λ xs. 0 < run_length d xs) (sym front)
    (longer (eqb (get_or text at 0) (byte_of d)) (run_length d (drop (suc at) text)) (same_byte (get_or text at 0) (byte_of d) (get_or_from_slice_get text at (byte_of d) 0 here)))

pub run_end : (text : List ℕ) (at n : ℕ) (d : DelimiterChar) → IsUtf8 text → option_and_then delimiter_of (slice_get text at) ≡ Some d → n ≡ run_length d (drop at text) →
    IsCharBoundary text (at + n)
run_end text at n d utf8 e is =
    let some : 0 < n = omega (arith, is, some_run text at d e) in
    let within : n ≤ length text - at = omega (arith, is, prefix_len-le-length (λ b. eqb b (byte_of d)) (drop at text), length-drop at text) in
    let last : eqb (get_or (drop at text) (n - 1) 0) (byte_of d) ≡ true = prefix_len_passes (λ b. eqb b (byte_of d)) (drop at text) (n - 1) 0 (omega arith) in
    let low : get_or text (at + (n - 1)) 0 < 128 =
    subst (λ b. b < 128) (get_or-drop at text (n - 1) 0) (let same : get_or (drop at text) (n - 1) 0 ≡ byte_of d = grind (arith, nat_tests) in omega (arith, same, is_ascii d)) in
    subst (λ k. IsCharBoundary text k) (let sum : at + (n - 1) + 1 ≡ at + n = omega arith in sum)
    (IsCharBoundary-after_ascii text (at + (n - 1)) utf8 (omega arith) low)

pub rest_of : (text : List ℕ) (at : ℕ) → take (length text - at) (drop at text) ≡ drop at text
rest_of text at = subst (λ n. take n (drop at text) ≡ drop at text) (length-drop at text) (take-length (drop at text))
