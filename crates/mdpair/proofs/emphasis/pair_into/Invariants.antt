use Rattle.std.proofs.Common.{drop, length, All}
use Rattle.std.specs.List.{AllByRecursion}
use Rattle.mdpair.specs.OpenersBottom.{IsBottomUpTo, Descends}
use Rattle.mdpair.specs.Matches.{whole, onto, stack, Rewrites, IsClear, IsLeft, IsBelow, IsOrdered}
use Rattle.mdpair.proofs.emphasis.pair_into.Given as goal

abbrev pub invariant-loop-place : goal.invariant-loop-place
invariant-loop-place l = record {
  rewrites : Rewrites (whole 0 l.fn.runs) l.found.items (onto (stack l.passed.items) (whole l.place (drop l.place l.fn.runs)));
  clear : IsClear (stack l.passed.items);
  each : AllByRecursion IsLeft (stack l.passed.items);
  low : AllByRecursion (IsBelow l.place) (stack l.passed.items);
  falls : Descends (stack l.passed.items);
  bottoms : All (IsBottomUpTo l.place (stack l.passed.items)) l.bottoms.items;
  ordered : All (IsOrdered (length l.fn.runs)) l.found.items;
}
