use Rattle.std.proofs.Common.{◌≡◌, ℕ, List}
use Rattle.std.specs.Cmp.Lexicographic.{slice_cmp}
use Rattle.std.specs.List.Sorted.{IsStrictlySortedBy}
use Rattle.std.specs.Map.{keys_of}
use Rattle.std.specs.Option.{option_or}
use Rattle.std.specs.Ordering.{nat_cmp}
use Rattle.mdview.specs.ToldLabels.{said_in, told_in}
use Rattle.mdview.proofs.labels.touched.TouchedLabels.changed.Given as goal

-- the labels to come differ, and what is said of them and of those so far is said of all
abbrev pub invariant-loop-label : goal.invariant-loop-label
invariant-loop-label l = record {
  sorted : IsStrictlySortedBy (slice_cmp nat_cmp) (keys_of l.label-iterator);
  said : (q : List ℕ) → option_or (said_in l.label-iterator l.held l.prelude q) (told_in l.changed.entries q) ≡ said_in l.fn.self.targets.entries l.held l.prelude q;
}
