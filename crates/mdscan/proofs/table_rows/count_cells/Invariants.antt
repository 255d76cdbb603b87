use Rattle.std.proofs.Common.{◌≡◌, ◌+◌, ◌≤◌, length}
use Rattle.mdscan.specs.TableRow.{bars, row_cells}
use Rattle.mdscan.proofs.table_rows.count_cells.Given as goal

-- the bars that are left make up the number
abbrev pub invariant-loop-at : goal.invariant-loop-at
invariant-loop-at l =
    (l.count ≤ l.at + 1)
    × (l.count + length (bars l.row l.at l.at-end) ≡ length (row_cells l.row))
