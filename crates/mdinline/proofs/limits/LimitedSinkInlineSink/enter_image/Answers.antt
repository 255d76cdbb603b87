use Rattle.inlinespec.specs.InlineEvents.{ImageOf}
use Rattle.mdinline.proofs.LimitedLeaves.{enter_refused, enter_within}
use Rattle.mdinline.proofs.limits.LimitedSinkInlineSink.enter_image.Goals as goal

pub returns-then-not-enters : goal.returns-then-not-enters
returns-then-not-enters g c = enter_refused g.S.InlineSink.takes c.args.self.now c.enters.new.self (ImageOf (record { url = c.args.url.now; title = c.args.title.now })) (c.enters.ensures.refused c.if-not-enters.true)

pub returns : goal.returns
returns g c = enter_within g.S.InlineSink.takes c.args.self.now c.enters.new.self c.enter_image.new.self (ImageOf (record { url = c.args.url.now; title = c.args.title.now })) (c.enters.ensures.taken c.if-not-enters.false) c.in_ok-enter_image.ensures
