use Rattle.std.proofs.Common.{◌++◌, ◌∷◌, [], ap, ◌∙◌}
use Rattle.inlinespec.specs.InlineEvents.{LinkTo}
use Rattle.mdinline.specs.held.TreeBuilding.{built}
use Rattle.mdinline.specs.held.TreeTakings.{takes_enter}
use Rattle.inlinespec.specs.InlineEvents.{Enter}
use Rattle.mdinline.proofs.trees.TreeBuilderInlineSink.enter_link.Goals as goal

pub returns : goal.returns
returns c =
    takes_enter c.args.self.now c.begin.new.self (LinkTo (record { url = c.args.url.now; title = c.args.title.now }))
    (c.in_ok-begin.ensures.events ∙ ap (λ t. built c.args.self.now ++ Enter (LinkTo t) ∷ []) c.in_ok-target.ensures) c.in_ok-begin.ensures.frames c.in_ok-begin.ensures.joined
