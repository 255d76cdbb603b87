use Rattle.std.proofs.Common.{◌≡◌, ℕ, List, map}
use Rattle.mdview.specs.ToldLabels.{told, touched_by}
use Rattle.mdview.proofs.labels.touched.TouchedLabels.touch_prelude.Given as goal

-- the labels so far were touched, and those to come are to be
abbrev pub invariant-loop-label : goal.invariant-loop-label
invariant-loop-label l = (q : List ℕ) → touched_by l.label-iterator q (told l.self q) ≡ touched_by (map (λ e. e.0) l.fn.prelude.labels) q (told l.fn.self q)
