use Rattle.std.proofs.Common.{◌≡◌, ◌≤◌, ◌<◌, ◌-◌, ℕ, List, None, drop, map}
use Rattle.mdview.specs.HeldTexts.{between}
use Rattle.mdview.specs.HeldUnit.{unit_in}
use Rattle.mdview.specs.LabelTargets.{definitions_by}
use Rattle.mdview.specs.ToldLabels.{told, told_by}
use Rattle.mdview.proofs.labels.touched.TouchedLabels.define_held.Given as goal

-- the definitions of the units so far were seen, and those of the others are to be; no label is touched by that
abbrev pub invariant-loop-i : goal.invariant-loop-i
invariant-loop-i l = record {
  low : l.first ≤ l.i;
  high : l.i ≤ l.next;
  ahead : l.i < l.next → l.rest ≡ drop l.i l.fn.units.items;
  seen : (q : List ℕ) → told_by (definitions_by (map unit_in (between l.i l.fn.next l.fn.units.items))) q (told l.self q)
      ≡ told_by (definitions_by (map unit_in (between l.fn.first l.fn.next l.fn.units.items))) q (told l.fn.self q);
  untouched : (q : List ℕ) → told l.fn.self q ≡ None → told l.self q ≡ None;
}

abbrev pub decreases-loop-i : goal.decreases-loop-i
decreases-loop-i l = l.next - l.i
