use Rattle.mdscan.specs.TableRow.{IsWholeBetween}
use Rattle.mdscan.proofs.table_rows.bar_from.Given as goal

abbrev pub invariant-loop-at : goal.invariant-loop-at
invariant-loop-at l = IsWholeBetween l.row l.from l.at
