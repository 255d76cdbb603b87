use Rattle.std.proofs.Common.{◌≡◌, ◌-◌, ◌++◌, drop, map, string_bytes}
use Rattle.mdleaf.specs.Tables.{filled, row_texts}
use Rattle.mdleaf.proofs.tables.data_row.Given as goal

-- the columns so far and those that are left are those of the row
abbrev pub invariant-loop-column : goal.invariant-loop-column
invariant-loop-column l = map string_bytes l.texts.items ++ filled (l.columns - l.column) (drop l.column (row_texts l.row)) ≡ filled l.columns (row_texts l.row)
