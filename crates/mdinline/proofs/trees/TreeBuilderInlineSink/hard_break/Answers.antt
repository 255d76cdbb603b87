use Rattle.std.proofs.Common.{◌++◌, ◌∷◌, [], refl, ap, ◌∙◌}
use Rattle.inlinespec.specs.InlineEvents.{HardBreak}
use Rattle.mdinline.specs.held.TreeBuilding.{built}
use Rattle.mdinline.specs.held.TreeTakings.{takes_leaf}
use Rattle.mdinline.proofs.SeenInlines.{hard_seen}
use Rattle.mdinline.proofs.JoinedRows.{hard_apart}
use Rattle.mdinline.proofs.trees.TreeBuilderInlineSink.hard_break.Goals as goal

pub returns : goal.returns
returns c =
    takes_leaf c.args.self.now c.add.new.self (HardBreak ∷ []) (c.in_ok-add.ensures.events ∙ ap (λ es. built c.args.self.now ++ es) hard_seen) c.in_ok-add.ensures.frames refl
    (c.in_ok-add.ensures.joined hard_apart)
