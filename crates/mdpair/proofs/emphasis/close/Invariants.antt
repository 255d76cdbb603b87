use Rattle.std.proofs.Common.{◌≡◌, ℕ, ◌<◌, All, List, ◌∷◌, ◌++◌}
use Rattle.std.specs.List.{AllByRecursion}
use Rattle.mdpair.specs.declared.emphasis.Remaining.{Remaining}
use Rattle.mdpair.specs.declared.delimiter_runs.DelimiterRun.{DelimiterRun}
use Rattle.mdpair.specs.OpenersBottom.{IsBottom, Descends}
use Rattle.mdpair.specs.Matches.{onto, stack, left_of, Rewrites, IsClear, IsLeft, IsBelow, IsOrdered}
use Rattle.mdpair.specs.declared.delimiter_runs.DelimiterChar.TheVariants.{Tilde}
use Rattle.mdpair.proofs.emphasis.close.Given as goal

abbrev pub invariant-loop-left : goal.invariant-loop-left
invariant-loop-left l = record {
  rewrites : (start rest : List Remaining) → Rewrites start l.fn.matches.items (onto (stack l.fn.passed.items) (l.fn.closer ∷ rest)) →
      Rewrites start l.matches.items (onto (stack l.passed.items) (left_of l.fn.closer.place l.left l.fn.closer.run ++ rest));
  left : l.fn.closer.run.delimiter ≡ Tilde → 0 < l.left → l.left ≡ l.fn.closer.run.length;
  clear : IsClear (stack l.passed.items);
  each : AllByRecursion IsLeft (stack l.passed.items);
  low : AllByRecursion (IsBelow l.fn.closer.place) (stack l.passed.items);
  falls : Descends (stack l.passed.items);
  bottoms : (b : ℕ) (c : DelimiterRun) → IsBottom b c (stack l.fn.passed.items) → IsBottom b c (stack l.passed.items);
  ordered : (k : ℕ) → l.fn.closer.place < k → All (IsOrdered k) l.fn.matches.items → All (IsOrdered k) l.matches.items;
}

abbrev pub decreases-loop-left : goal.decreases-loop-left
decreases-loop-left l = l.left
