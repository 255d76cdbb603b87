use Rattle.std.proofs.Common.{◌≡◌, ℕ, List, is_some, true}
use Rattle.std.specs.Cmp.Lexicographic.{slice_cmp}
use Rattle.std.specs.List.Sorted.{IsStrictlySortedBy}
use Rattle.std.specs.Map.{keys_of}
use Rattle.std.specs.Ordering.{nat_cmp}
use Rattle.mdview.specs.LabelTargets.{at, changed, led_after, target_held}
use Rattle.mdview.proofs.labels.changes.LabelChanges.commit.Given as goal

-- the labels to come differ and have room, and with them all lead where they do after the changes
abbrev pub invariant-loop-label : goal.invariant-loop-label
invariant-loop-label l = record {
  sorted : IsStrictlySortedBy (slice_cmp nat_cmp) (keys_of l.label-iterator);
  room : (q : List ℕ) → is_some (at q l.label-iterator) ≡ true → is_some (at q l.held.targets.entries) ≡ true;
  led : (q : List ℕ) → changed (at q l.label-iterator) (target_held l.held q) ≡ led_after l.fn.held l.fn.self q;
}
