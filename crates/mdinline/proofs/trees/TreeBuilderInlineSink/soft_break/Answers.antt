use Rattle.std.proofs.Common.{◌++◌, ◌∷◌, [], refl, ap, ◌∙◌}
use Rattle.inlinespec.specs.InlineEvents.{SoftBreak}
use Rattle.mdinline.specs.held.TreeBuilding.{built}
use Rattle.mdinline.specs.held.TreeTakings.{takes_leaf}
use Rattle.mdinline.proofs.SeenInlines.{soft_seen}
use Rattle.mdinline.proofs.JoinedRows.{soft_apart}
use Rattle.mdinline.proofs.trees.TreeBuilderInlineSink.soft_break.Goals as goal

pub returns : goal.returns
returns c =
    takes_leaf c.args.self.now c.add.new.self (SoftBreak ∷ []) (c.in_ok-add.ensures.events ∙ ap (λ es. built c.args.self.now ++ es) soft_seen) c.in_ok-add.ensures.frames refl
    (c.in_ok-add.ensures.joined soft_apart)
