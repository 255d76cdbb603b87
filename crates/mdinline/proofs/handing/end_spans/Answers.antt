use Rattle.std.proofs.Common.{[], ◌∷◌, replicate, subst}
use Rattle.inlinespec.specs.InlineEvents.{Leave}
use Rattle.mdinline.proofs.HandedTokens.{replicate_next}
use Rattle.mdinline.proofs.handing.end_spans.Goals as goal

pub loop-init : goal.loop-init
loop-init g c = g.met.S.InlineSink.takes_none c.args.sink.now

pub loop-preserved : goal.loop-preserved
loop-preserved g c =
    subst (λ es. g.S.InlineSink.takes c.args.sink.now es c.leave.new.self) (replicate_next c.loop.counter Leave)
    (g.met.S.InlineSink.takes_more c.args.sink.now c.loop.sink c.leave.new.self (replicate c.loop.counter Leave) (Leave ∷ []) c.loop.invariant c.in_ok-leave.ensures)
