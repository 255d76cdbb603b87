use Rattle.std.proofs.Common.{◌++◌, ◌∷◌, [], refl, ap, ◌∙◌}
use Rattle.inlinespec.specs.InlineEvents.{CodeSpan}
use Rattle.mdinline.specs.held.TreeBuilding.{built}
use Rattle.mdinline.specs.held.TreeTakings.{takes_leaf}
use Rattle.mdinline.proofs.SeenInlines.{code_seen}
use Rattle.inlinespec.specs.CodeSpans.{as_one_line}
use Rattle.mdinline.proofs.JoinedRows.{code_apart}
use Rattle.mdinline.proofs.trees.TreeBuilderInlineSink.code_span.Goals as goal

pub returns : goal.returns
returns c =
    takes_leaf c.args.self.now c.add.new.self (CodeSpan (as_one_line c.args.content.now) ∷ [])
    (c.in_ok-add.ensures.events ∙ ap (λ es. built c.args.self.now ++ es) (code_seen c.in_ok-code.code ∙ ap (λ t. CodeSpan t ∷ []) c.in_ok-code.ensures)) c.in_ok-add.ensures.frames refl
    (c.in_ok-add.ensures.joined (code_apart c.in_ok-code.code))
