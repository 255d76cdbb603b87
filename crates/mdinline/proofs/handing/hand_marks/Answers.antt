use Rattle.std.proofs.Common.{[], ◌∷◌, replicate, subst}
use Rattle.inlinespec.specs.InlineEvents.{written}
use Rattle.mdpair.specs.Neighbours.{byte_of}
use Rattle.mdinline.proofs.HandedTokens.{written_next}
use Rattle.mdinline.proofs.handing.hand_marks.Goals as goal

pub loop-init : goal.loop-init
loop-init g c = g.met.S.InlineSink.takes_none c.args.sink.now

pub loop-preserved : goal.loop-preserved
loop-preserved g c =
    let b = byte_of c.args.delimiter in
    subst (λ es. g.S.InlineSink.takes c.args.sink.now es c.plain.new.self) (written_next c.loop.counter b)
    (g.met.S.InlineSink.takes_more c.args.sink.now c.loop.sink c.plain.new.self (written (replicate c.loop.counter b)) (written (b ∷ [])) c.loop.invariant
    (subst (λ t. g.S.InlineSink.takes c.loop.sink (written t) c.plain.new.self) c.text_of.ensures.value c.in_ok-plain.ensures))
