use Rattle.std.proofs.Common.{◌≡◌, ◌≤◌, slice_get}
use Rattle.mdscan.specs.DelimiterRow.{align_of, column_align}
use Rattle.mdscan.proofs.Rows.{rest_cells}
use Rattle.mdscan.proofs.delimiter_rows.align_of.Given as goal

-- the column is so far on in the cells that are left
abbrev pub invariant-loop-at : goal.invariant-loop-at
invariant-loop-at l =
    (l.start ≤ l.at)
    × (align_of l.row (slice_get (rest_cells l.row l.start l.at l.inner.end) l.left) ≡ column_align l.row l.column)
