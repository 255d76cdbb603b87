use Rattle.std.proofs.Common.{◌∙◌, ap, sym}
use Rattle.std.specs.List.{list_any}
use Rattle.mdhtml.proofs.TextsWritten.{all_fit, fits_more}
use Rattle.mdbatch.specs.GatheredUnits.{closes_bracket}
use Rattle.mdbatch.proofs.gathered.may_ask.Goals as goal

pub loop-text-preserved : goal.loop-text-preserved
loop-text-preserved c =
    fits_more closes_bracket c.texts-texts.result.now c.loop-text.text-index c.text-item.result c.loop-text-test.true c.text-item.is (ap closes_bracket (sym c.as_bytes.ensures.value) ∙ c.closes_bracket.ensures c.if-closes_bracket.false) c.loop-text.invariant

pub returns : goal.returns
returns c = λ none.
    ap (list_any closes_bracket) (sym c.texts-texts.ensures) ∙ all_fit closes_bracket c.texts-texts.result.now c.loop-text.text-index c.loop-text-test.false c.loop-text.invariant
