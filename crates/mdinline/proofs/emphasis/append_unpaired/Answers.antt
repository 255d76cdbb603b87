use Rattle.std.proofs.Common.{[], refl, subst}
use Rattle.std.proofs.lemmas.List.{take_all}
use Rattle.mdinline.specs.held.PairedRuns.{ArePaired}
use Rattle.mdinline.proofs.PairedMatches.{one_fresh}
use Rattle.mdinline.proofs.emphasis.append_unpaired.Goals as goal

pub loop-run-preserved : goal.loop-run-preserved
loop-run-preserved c = λ begun none.
    one_fresh begun c.args.runs.now c.loop-run.paired.items c.push.new.self.items c.loop-run.run-index _ _ c.unpaired_run.result c.loop-run-test.true refl c.in_ok-push.ensures.items (c.unpaired_run.ensures begun)
    (c.loop-run.invariant begun none)

pub returns : goal.returns
returns c = λ begun none.
    subst (λ l. ArePaired begun [] l c.loop-run.paired.items) (take_all c.loop-run.run-index c.args.runs.now c.loop-run-test.false) (c.loop-run.invariant begun none)
