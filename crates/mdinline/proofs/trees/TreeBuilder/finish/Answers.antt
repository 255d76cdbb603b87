use Rattle.std.proofs.Common.{Vec, Global, string_bytes, ap, ◌∙◌}
use Rattle.mdinline.specs.declared.trees.Frame.{Frame}
use Rattle.mdinline.specs.held.TreeBuilding.{built}
use Rattle.mdinline.proofs.JoinedRows.{tree_whole}
use Rattle.mdinline.proofs.trees.TreeBuilder.finish.Goals as goal

pub returns-clause-tree : goal.returns-clause-tree
returns-clause-tree c = λ none joined.
    let s = c.end_text.new.self in
    let now = c.in_ok-end_text.ensures in
    c.in_ok-taken.ensures.row
    ∙ tree_whole s.frames.items s.row.items (string_bytes s.text) (built c.args.self) (ap (λ (v : Vec Frame Global). v.items) now.frames ∙ none) now.text now.events (now.joined joined).last
