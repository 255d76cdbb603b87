use Rattle.std.proofs.Common.{◌≡◌, ◌++◌, drop}
use Rattle.mdinline.specs.TreeView.{inlines_view}
use Rattle.mdwalk.specs.TreeEdges.{inlines_edges}
use Rattle.mdwalk.specs.EdgeView.{edges_view}
use Rattle.mdwalk.proofs.inlines.+inline.Given as goal

abbrev pub invariant-push_inlines-loop-inline : goal.invariant-push_inlines-loop-inline
invariant-push_inlines-loop-inline l =
    edges_view l.edges.items ++ inlines_edges (inlines_view (drop l.inline-index l.inlines)) ≡ edges_view l.fn.edges.items ++ inlines_edges (inlines_view l.inlines)
