use Rattle.std.proofs.Common.{◌≡◌, ◌++◌, length, map, take, drop}
use Rattle.mdblock.specs.FoundLists.{join_mark}
use Rattle.mdblock.specs.Spliced.{mark_further}
use Rattle.mdblock.proofs.units.insets.joins.move_joins.Given as goal

-- so many are moved
abbrev pub invariant-loop-i : goal.invariant-loop-i
invariant-loop-i l = record {
  size : length l.joins ≡ length l.fn.joins;
  marks : map join_mark l.joins ≡ map (mark_further (join_mark l.from) (join_mark l.to)) (take l.i (map join_mark l.fn.joins)) ++ drop l.i (map join_mark l.fn.joins);
}
