use Rattle.std.proofs.Common.{sym}
use Rattle.mdtext.proofs.Numerals.{numeral_run}
use Rattle.mdtext.proofs.character_references.read_number.Goals as goal

pub number-number-requires-clause-numeral : goal.number-number-requires-clause-numeral
number-number-requires-clause-numeral c = numeral_run _ _ _ _ _ c.digit_count-digits.ensures (sym c.if-not-is_closed.ensures) c.range.ensures.value
