use Rattle.mdinline.specs.SpanKinds.{span_of}
use Rattle.mdinline.specs.held.TreeTakings.{takes_enter}
use Rattle.mdinline.proofs.trees.TreeBuilderInlineSink.enter.Goals as goal

pub returns : goal.returns
returns c = takes_enter c.args.self.now c.begin.new.self (span_of c.args.kind) c.in_ok-begin.ensures.events c.in_ok-begin.ensures.frames c.in_ok-begin.ensures.joined
