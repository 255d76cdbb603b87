use Rattle.std.proofs.Common.{◌-◌, ◌≤◌, length}
use Rattle.std.specs.BTreeMap.{get}
use Rattle.std.specs.Ordering.{nat_cmp}
use Rattle.mdinline.specs.held.BacktickTable.{HoldsLast}
use Rattle.mdinline.proofs.code_spans.last_runs.Given as goal

abbrev pub invariant-loop-run : goal.invariant-loop-run
invariant-loop-run l = record {
  within : l.at ≤ length l.text;
  held : HoldsLast l.text l.at (get nat_cmp l.last);
}

abbrev pub decreases-loop-run : goal.decreases-loop-run
decreases-loop-run l = length l.text - l.at
