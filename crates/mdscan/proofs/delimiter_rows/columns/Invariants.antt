use Rattle.std.proofs.Common.{◌≡◌, ◌+◌, ◌≤◌, length}
use Rattle.std.specs.List.{list_all}
use Rattle.mdscan.specs.Spans.{part}
use Rattle.mdscan.specs.TableRow.{row_cells}
use Rattle.mdscan.specs.DelimiterRow.{is_delimiter}
use Rattle.mdscan.proofs.Rows.{rest_cells}
use Rattle.mdscan.proofs.delimiter_rows.columns.Given as goal

-- the cells so far are delimiters, so those that are left decide, and so many are left
abbrev pub invariant-loop-at : goal.invariant-loop-at
invariant-loop-at l =
    (l.start ≤ l.at)
    × (l.columns ≤ l.at)
    × (list_all (λ span. is_delimiter (part l.row span)) (rest_cells l.row l.start l.at l.inner.end) ≡ list_all (λ span. is_delimiter (part l.row span)) (row_cells l.row))
    × (l.columns + length (rest_cells l.row l.start l.at l.inner.end) ≡ length (row_cells l.row))
