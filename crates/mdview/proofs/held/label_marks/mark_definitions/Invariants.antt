use Rattle.std.proofs.Common.{◌≡◌, drop, map}
use Rattle.mdleaf.specs.DefinedLinks.{definition_of}
use Rattle.mdview.specs.LabelMarks.{marks_after}
use Rattle.mdview.specs.ToldLabels.{labels_in}
use Rattle.mdview.proofs.held.label_marks.mark_definitions.Given as goal

-- the marks so far, and those of the definitions to come
abbrev pub invariant-loop-definition : goal.invariant-loop-definition
invariant-loop-definition l = marks_after l.marks (labels_in (map definition_of (drop l.definition-index l.definitions))) ≡ marks_after 0 (labels_in (map definition_of l.definitions))
