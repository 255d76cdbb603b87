use Rattle.std.proofs.Common.{◌≡◌, ℕ, List, drop, map}
use Rattle.mdleaf.specs.DefinedLinks.{definition_of}
use Rattle.mdview.specs.ToldLabels.{told, told_by}
use Rattle.mdview.proofs.labels.touched.TouchedLabels.define.Given as goal

-- the definitions so far were seen, and those to come are to be
abbrev pub invariant-loop-definition : goal.invariant-loop-definition
invariant-loop-definition l = (q : List ℕ) → told_by (map definition_of (drop l.definition-index l.definition-items)) q (told l.self q) ≡ told_by (map definition_of l.definition-items) q (told l.fn.self q)
