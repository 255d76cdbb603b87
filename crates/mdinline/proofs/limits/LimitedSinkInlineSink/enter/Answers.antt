use Rattle.mdinline.specs.SpanKinds.{span_of}
use Rattle.mdinline.proofs.LimitedLeaves.{enter_refused, enter_within}
use Rattle.mdinline.proofs.limits.LimitedSinkInlineSink.enter.Goals as goal

pub returns-then-not-enters : goal.returns-then-not-enters
returns-then-not-enters g c = enter_refused g.S.InlineSink.takes c.args.self.now c.enters.new.self (span_of c.args.kind) (c.enters.ensures.refused c.if-not-enters.true)

pub returns : goal.returns
returns g c = enter_within g.S.InlineSink.takes c.args.self.now c.enters.new.self c.enter.new.self (span_of c.args.kind) (c.enters.ensures.taken c.if-not-enters.false) c.in_ok-enter.ensures
