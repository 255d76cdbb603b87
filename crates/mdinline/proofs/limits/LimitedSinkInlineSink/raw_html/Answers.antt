use Rattle.std.proofs.Common.{[], ◌∷◌, refl}
use Rattle.inlinespec.specs.InlineEvents.{RawHtml}
use Rattle.mdinline.proofs.LimitedLeaves.{leaf_within, skipped}
use Rattle.mdinline.proofs.limits.LimitedSinkInlineSink.raw_html.Goals as goal

pub returns-then-self : goal.returns-then-self
returns-then-self g c = skipped g.S.InlineSink.takes c.args.self.now (RawHtml c.args.html.now ∷ []) c.if-self.true

pub returns : goal.returns
returns g c = leaf_within g.S.InlineSink.takes c.args.self.now c.raw_html.new.self (RawHtml c.args.html.now ∷ []) c.if-self.false refl refl c.in_ok-raw_html.ensures
