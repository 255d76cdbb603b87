use Rattle.std.proofs.Common.{◌∙◌, sym, arith}
use Rattle.mdtext.proofs.Lanes.{found_here, not_here}
use Rattle.mdinline.specs.held.PlainText.{is_stop}
use Rattle.mdinline.proofs.PlainTokens.{stop_mark}
use Rattle.mdinline.proofs.stops.first_stop.Goals as goal

pub returns-then-stop-lt16-clause-mark : goal.returns-then-stop-lt16-clause-mark
returns-then-stop-lt16-clause-mark c =
    stop_mark c.args.text.now _
    (sym (found_here is_stop c.args.text.now c.loop-at.at 16 c.first_in_block-stop.result (omega (arith, c.loop-at-test.true)) c.first_in_block-stop.ensures c.if-stop-lt16.true) ∙ c.loop-at.invariant.none_before)

pub returns-then-stop-lt16-clause-value : goal.returns-then-stop-lt16-clause-value
returns-then-stop-lt16-clause-value c =
    sym (found_here is_stop c.args.text.now c.loop-at.at 16 c.first_in_block-stop.result (omega (arith, c.loop-at-test.true)) c.first_in_block-stop.ensures c.if-stop-lt16.true) ∙ c.loop-at.invariant.none_before

pub loop-at-preserved : goal.loop-at-preserved
loop-at-preserved c = record {
  small = c.loop-at.invariant.small;
  within = omega (arith, c.loop-at-test.true);
  none_before = sym (not_here is_stop c.args.text.now c.loop-at.at 16 c.first_in_block-stop.result (omega (arith, c.loop-at-test.true)) c.first_in_block-stop.ensures c.if-stop-lt16.false) ∙ c.loop-at.invariant.none_before;
}
