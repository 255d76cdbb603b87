use Rattle.std.proofs.Common.{[], ◌∷◌, refl}
use Rattle.inlinespec.specs.CodeSpans.{as_one_line}
use Rattle.inlinespec.specs.InlineEvents.{CodeSpan}
use Rattle.mdinline.proofs.LimitedLeaves.{leaf_within, skipped}
use Rattle.mdinline.proofs.limits.LimitedSinkInlineSink.code_span.Goals as goal

pub returns-then-self : goal.returns-then-self
returns-then-self g c = skipped g.S.InlineSink.takes c.args.self.now (CodeSpan (as_one_line c.args.content.now) ∷ []) c.if-self.true

pub returns : goal.returns
returns g c = leaf_within g.S.InlineSink.takes c.args.self.now c.code_span.new.self (CodeSpan (as_one_line c.args.content.now) ∷ []) c.if-self.false refl refl c.in_ok-code_span.ensures
