use Rattle.std.proofs.Common.{◌≡◌, ℕ, List, drop, map}
use Rattle.mdview.specs.ToldLabels.{labels_by, told, touched_by}
use Rattle.mdview.proofs.labels.touched.TouchedLabels.touch_found.Given as goal

-- the labels of the units so far were touched, and those of the others are to be
abbrev pub invariant-loop-one : goal.invariant-loop-one
invariant-loop-one l = (q : List ℕ) → touched_by (labels_by (map (λ one. one.unit) (drop l.one-index l.found))) q (told l.self q) ≡ touched_by (labels_by (map (λ one. one.unit) l.found)) q (told l.fn.self q)
