use Rattle.std.proofs.Common.{[], ◌∷◌}
use Rattle.inlinespec.specs.InlineEvents.{Leave}
use Rattle.mdinline.proofs.LimitedLeaves.{leave_within, skipped}
use Rattle.mdinline.proofs.limits.LimitedSinkInlineSink.leave.Goals as goal

pub returns-then-self : goal.returns-then-self
returns-then-self g c = skipped g.S.InlineSink.takes c.args.self.now (Leave ∷ []) c.if-self.true

pub returns : goal.returns
returns g c = leave_within g.S.InlineSink.takes c.args.self.now c.leave.new.self c.saturating_sub-self.result c.if-self.false c.saturating_sub-self.ensures c.in_ok-leave.ensures
