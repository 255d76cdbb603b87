use Rattle.std.proofs.Common.{drop, map}
use Rattle.mdhtml.specs.held.Alike.{RowsAlike}
use Rattle.mdhtml.proofs.lists.same_blocks.same_rows.Given as goal

abbrev pub invariant-loop-row : goal.invariant-loop-row
invariant-loop-row l =
    RowsAlike l.shared (map (λ row. row.items) (drop l.row-index l.rows)) (map (λ row. row.items) l.rest)
    → RowsAlike l.shared (map (λ row. row.items) l.rows) (map (λ row. row.items) l.like)
