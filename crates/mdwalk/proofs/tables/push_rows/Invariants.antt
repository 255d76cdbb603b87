use Rattle.std.proofs.Common.{◌≡◌, ◌++◌, drop, map}
use Rattle.mdwalk.specs.TreeEdges.{rows_edges}
use Rattle.mdwalk.specs.EdgeView.{edges_view}
use Rattle.mdwalk.proofs.tables.push_rows.Given as goal

abbrev pub invariant-loop-row : goal.invariant-loop-row
invariant-loop-row l =
    edges_view l.edges.items ++ rows_edges l.texts (map (λ row. row.items) (drop l.row-index l.rows)) ≡ edges_view l.fn.edges.items ++ rows_edges l.texts (map (λ row. row.items) l.rows)
