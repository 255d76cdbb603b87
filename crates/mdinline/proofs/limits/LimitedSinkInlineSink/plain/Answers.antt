use Rattle.inlinespec.specs.InlineEvents.{written}
use Rattle.mdinline.specs.held.OpenSpans.{bytes_open}
use Rattle.mdinline.proofs.LimitedLeaves.{bytes_flat, leaf_within, skipped}
use Rattle.mdinline.proofs.limits.LimitedSinkInlineSink.plain.Goals as goal

pub returns-then-self : goal.returns-then-self
returns-then-self g c = skipped g.S.InlineSink.takes c.args.self.now (written c.args.text.now) c.if-self.true

pub returns : goal.returns
returns g c = leaf_within g.S.InlineSink.takes c.args.self.now c.plain.new.self (written c.args.text.now) c.if-self.false (bytes_open c.args.self.now.depth c.args.text.now) (bytes_flat c.args.self.now.depth c.args.text.now) c.in_ok-plain.ensures
