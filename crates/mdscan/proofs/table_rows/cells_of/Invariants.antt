use Rattle.std.proofs.Common.{◌≡◌, ◌≤◌, ◌-◌, ◌++◌}
use Rattle.mdscan.specs.TableRow.{row_cells}
use Rattle.mdscan.proofs.Rows.{rest_cells}
use Rattle.mdscan.proofs.table_rows.cells_of.Given as goal

-- the cells so far and those that are left are those of the row
abbrev pub invariant-loop-bar : goal.invariant-loop-bar
invariant-loop-bar l =
    (l.start ≤ l.at) × (l.at ≤ l.inner.end)
    × (l.cells.items ++ rest_cells l.row l.start l.at l.inner.end ≡ row_cells l.row)

abbrev pub decreases-loop-bar : goal.decreases-loop-bar
decreases-loop-bar l = l.inner.end - l.at
