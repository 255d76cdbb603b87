use Rattle.std.proofs.Common.{◌+◌, ◌<◌, ◌^◌, ◌++◌, [], ap, append_assoc, append-nil, length-take, take, sym, subst, ◌∙◌, arith, rules}
use Rattle.std.proofs.lemmas.List.{take_all, take_more}
use Rattle.mdinline.specs.held.PairedRuns.{ArePaired}
use Rattle.mdinline.proofs.emphasis.take_all.Goals as goal

pub loop-matched-init : goal.loop-matched-init
loop-matched-init c = record {
  paired = λ rs ordered h. h;
  begun = ([], sym (append-nil c.args.begun.now.items));
}

pub loop-matched-preserved : goal.loop-matched-preserved
loop-matched-preserved c =
    let before = c.loop-matched.invariant.begun in
    let more = c.in_ok-take.ensures.begun in
    let i = c.loop-matched.matched-index in
    let ts = c.args.matches.now in
    let front = length-take i ts in
    let long : i + 1 < 2 ^ 64 = search rules in
    record {
      paired = λ rs ordered h.
          subst (λ l. ArePaired c.take.new.begun.items l rs c.take.new.runs.items) (sym (take_more ts i _ c.loop-matched-test.true))
          (c.in_ok-take.ensures.paired (take i ts) rs (ordered i _ c.loop-matched-test.true) (omega (arith, front, long)) (c.loop-matched.invariant.paired rs ordered h));
      begun = (before.0 ++ more.0, more.1 ∙ ap (λ bs. bs ++ more.0) before.1 ∙ append_assoc c.args.begun.now.items before.0 more.0);
    }

pub returns-clause-paired : goal.returns-clause-paired
returns-clause-paired c = λ rs ordered h.
    subst (λ l. ArePaired c.loop-matched.begun.items l rs c.loop-matched.runs.items) (take_all c.loop-matched.matched-index c.args.matches.now c.loop-matched-test.false)
    (c.loop-matched.invariant.paired rs ordered h)
