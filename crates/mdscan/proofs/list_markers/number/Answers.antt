use Rattle.std.proofs.Common.{arith}
use Rattle.std.proofs.lemmas.Int.Digits.{digits_value_more}
use Rattle.mdscan.proofs.Digits.{room, digit_code}
use Rattle.mdscan.proofs.list_markers.number.Goals as goal

pub overflow_mul-value : goal.overflow_mul-value
overflow_mul-value c = omega (arith, room c.args.digits.now c.loop-digit.digit-index c.loop-digit.value c.requires.digits c.requires.few (omega arith) c.loop-digit.invariant)

pub overflow_sub-digit : goal.overflow_sub-digit
overflow_sub-digit c = omega (arith, digit_code c.args.digits.now c.loop-digit.digit-index c.requires.digits (omega arith))

pub overflow_add-value : goal.overflow_add-value
overflow_add-value c = omega (arith, room c.args.digits.now c.loop-digit.digit-index c.loop-digit.value c.requires.digits c.requires.few (omega arith) c.loop-digit.invariant, digit_code c.args.digits.now c.loop-digit.digit-index c.requires.digits (omega arith))

pub loop-digit-preserved : goal.loop-digit-preserved
loop-digit-preserved c = omega (arith, digits_value_more 10 c.args.digits.now c.loop-digit.digit-index (omega arith), digit_code c.args.digits.now c.loop-digit.digit-index c.requires.digits (omega arith))
