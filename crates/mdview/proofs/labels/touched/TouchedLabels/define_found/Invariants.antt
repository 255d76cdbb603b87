use Rattle.std.proofs.Common.{◌≡◌, ℕ, List, drop, map}
use Rattle.mdview.specs.LabelTargets.{definitions_by}
use Rattle.mdview.specs.ToldLabels.{told, told_by}
use Rattle.mdview.proofs.labels.touched.TouchedLabels.define_found.Given as goal

-- the definitions of the units so far were seen, and those of the others are to be
abbrev pub invariant-loop-one : goal.invariant-loop-one
invariant-loop-one l = (q : List ℕ) → told_by (definitions_by (map (λ one. one.unit) (drop l.one-index l.found))) q (told l.self q) ≡ told_by (definitions_by (map (λ one. one.unit) l.found)) q (told l.fn.self q)
