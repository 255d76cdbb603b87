use Rattle.std.proofs.Common.{[], ◌∷◌, refl}
use Rattle.inlinespec.specs.InlineEvents.{HardBreak}
use Rattle.mdinline.proofs.LimitedLeaves.{leaf_within, skipped}
use Rattle.mdinline.proofs.limits.LimitedSinkInlineSink.hard_break.Goals as goal

pub returns-then-self : goal.returns-then-self
returns-then-self g c = skipped g.S.InlineSink.takes c.args.self.now (HardBreak ∷ []) c.if-self.true

pub returns : goal.returns
returns g c = leaf_within g.S.InlineSink.takes c.args.self.now c.hard_break.new.self (HardBreak ∷ []) c.if-self.false refl refl c.in_ok-hard_break.ensures
