use Rattle.std.proofs.Common.{◌<◌, length, ◌∙◌, sym, ap, Some, arith}
use Rattle.std.proofs.lemmas.Bool.Decides.{nat_tests}
use Rattle.std.proofs.lemmas.List.{take_all}
use Rattle.mdwords.proofs.NumberValues.{number_empty, number_long, number_other, number_value}
use Rattle.mdwords.proofs.numbers.number.Goals.{then-is_empty-via-then-is_empty, then-is_empty-via-else-is_empty+then-word-gt-MAX_DIGITS}
use Rattle.mdwords.proofs.numbers.number.Goals as goal

pub returns-then-is_empty : goal.returns-then-is_empty
returns-then-is_empty c = sym (elim c.then-is_empty.branch [
  | then-is_empty-via-then-is_empty w ↦ number_empty c.args.word.now (grind (arith, nat_tests, c.is_empty.ensures, w.if-is_empty))
  | then-is_empty-via-else-is_empty+then-word-gt-MAX_DIGITS w ↦ number_long c.args.word.now (omega (arith, w.if-word-gt-MAX_DIGITS))
])

pub returns-then-not-is_ascii_digit : goal.returns-then-not-is_ascii_digit
returns-then-not-is_ascii_digit c =
    sym (number_other c.args.word.now c.loop-byte.byte-index c.loop-byte-test.true (sym c.is_ascii_digit.ensures.value ∙ c.if-not-is_ascii_digit.true))

pub returns : goal.returns
returns c =
    let all = take_all c.loop-byte.byte-index c.args.word.now c.loop-byte-test.false in
    let some : 0 < length c.args.word.now = grind (arith, nat_tests, c.is_empty.ensures, c.if-is_empty.false) in
    sym (number_value c.args.word.now some (omega arith) (rw all at c.loop-byte.invariant.digits) ∙ ap Some (sym (rw all at c.loop-byte.invariant.value)))
