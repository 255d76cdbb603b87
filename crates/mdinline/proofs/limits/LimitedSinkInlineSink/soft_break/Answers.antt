use Rattle.std.proofs.Common.{[], ◌∷◌, refl}
use Rattle.inlinespec.specs.InlineEvents.{SoftBreak}
use Rattle.mdinline.proofs.LimitedLeaves.{leaf_within, skipped}
use Rattle.mdinline.proofs.limits.LimitedSinkInlineSink.soft_break.Goals as goal

pub returns-then-self : goal.returns-then-self
returns-then-self g c = skipped g.S.InlineSink.takes c.args.self.now (SoftBreak ∷ []) c.if-self.true

pub returns : goal.returns
returns g c = leaf_within g.S.InlineSink.takes c.args.self.now c.soft_break.new.self (SoftBreak ∷ []) c.if-self.false refl refl c.in_ok-soft_break.ensures
