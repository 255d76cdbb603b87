use Rattle.std.proofs.Common.{◌≡◌, ◌++◌, drop}
use Rattle.mdwalk.specs.TreeEdges.{cells_edges}
use Rattle.mdwalk.specs.EdgeView.{edges_view}
use Rattle.mdwalk.proofs.tables.push_cells.Given as goal

abbrev pub invariant-loop-cell : goal.invariant-loop-cell
invariant-loop-cell l = edges_view l.edges.items ++ cells_edges l.texts (drop l.cell-index l.cells) ≡ edges_view l.fn.edges.items ++ cells_edges l.texts l.cells
