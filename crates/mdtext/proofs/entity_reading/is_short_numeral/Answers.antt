use Rattle.std.proofs.Common.{length, sym, ◌∙◌, arith}
use Rattle.std.proofs.lemmas.Bool.{eqb-true}
use Rattle.mdtext.proofs.ShortNumerals.{short_numeral}
use Rattle.mdtext.proofs.entity_reading.is_short_numeral.Goals as goal

pub returns : goal.returns
returns c = λ all. short_numeral c.args.text.now (omega arith) (omega arith) (sym c.digit_count.ensures ∙ eqb-true c.digit_count.result (length c.args.text.now) all)
