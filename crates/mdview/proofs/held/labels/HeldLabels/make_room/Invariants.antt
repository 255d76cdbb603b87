use Rattle.std.proofs.Common.{◌≡◌, ◌||◌, ℕ, List, is_some, true}
use Rattle.std.specs.Cmp.Lexicographic.{slice_cmp}
use Rattle.std.specs.Ordering.{eq_by_cmp, nat_cmp}
use Rattle.std.specs.Set.{is_member}
use Rattle.mdview.specs.LabelTargets.{at, leading, target_held}
use Rattle.mdview.proofs.held.labels.HeldLabels.make_room.Given as goal

-- each label leads where it led, and one that is changed has room or is to come
abbrev pub invariant-loop-label : goal.invariant-loop-label
invariant-loop-label l = record {
  led : leading l.self.targets.entries ≡ leading l.fn.self.targets.entries;
  room : (q : List ℕ) → is_some (at q l.changes.targets.entries) ≡ true
      → (is_some (at q l.self.targets.entries) || is_member (eq_by_cmp (slice_cmp nat_cmp)) l.label-iterator q) ≡ true;
  same : (q : List ℕ) → target_held l.self q ≡ target_held l.fn.self q;
}
