use Rattle.std.proofs.Common.{◌≡◌, ℕ, List, drop, map}
use Rattle.mdleaf.specs.DefinedLinks.{definition_of}
use Rattle.mdview.specs.ToldLabels.{labels_in, told, touched_by}
use Rattle.mdview.proofs.labels.touched.TouchedLabels.touch.Given as goal

-- the labels so far were touched, and those to come are to be
abbrev pub invariant-loop-definition : goal.invariant-loop-definition
invariant-loop-definition l = (q : List ℕ) → touched_by (labels_in (map definition_of (drop l.definition-index l.definition-items))) q (told l.self q) ≡ touched_by (labels_in (map definition_of l.definition-items)) q (told l.fn.self q)
