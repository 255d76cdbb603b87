use Rattle.std.proofs.Common.{◌++◌, ◌∷◌, [], refl, ap, ◌∙◌}
use Rattle.inlinespec.specs.InlineEvents.{RawHtml}
use Rattle.mdinline.specs.held.TreeBuilding.{built}
use Rattle.mdinline.specs.held.TreeTakings.{takes_leaf}
use Rattle.mdinline.proofs.SeenInlines.{html_seen}
use Rattle.mdinline.proofs.JoinedRows.{html_apart}
use Rattle.mdinline.proofs.trees.TreeBuilderInlineSink.raw_html.Goals as goal

pub returns : goal.returns
returns c =
    takes_leaf c.args.self.now c.add.new.self (RawHtml c.args.html.now ∷ [])
    (c.in_ok-add.ensures.events ∙ ap (λ es. built c.args.self.now ++ es) (html_seen c.in_ok-html.html ∙ ap (λ t. RawHtml t ∷ []) c.in_ok-html.ensures.ok)) c.in_ok-add.ensures.frames refl
    (c.in_ok-add.ensures.joined (html_apart c.in_ok-html.html))
