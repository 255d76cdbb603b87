use Rattle.std.proofs.Common.{◌≡◌, ℕ, List, drop, map}
use Rattle.mdview.specs.HeldTexts.{between}
use Rattle.mdview.specs.HeldUnit.{unit_in}
use Rattle.mdview.specs.ToldLabels.{labels_by, told, touched_by}
use Rattle.mdview.proofs.labels.touched.TouchedLabels.touch_held.Given as goal

-- the labels of the units so far were touched, and those of the others are to be
abbrev pub invariant-loop : goal.invariant-loop
invariant-loop l = record {
  ahead : l.rest ≡ drop l.counter l.fn.units.items;
  touched : (q : List ℕ) → touched_by (labels_by (map unit_in (between l.counter l.fn.next l.fn.units.items))) q (told l.self q)
      ≡ touched_by (labels_by (map unit_in (between l.fn.first l.fn.next l.fn.units.items))) q (told l.fn.self q);
}
