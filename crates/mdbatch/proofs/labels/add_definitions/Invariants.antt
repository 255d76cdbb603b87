use Rattle.std.proofs.Common.{◌≡◌, drop, map}
use Rattle.mdleaf.specs.DefinedLinks.{definition_of}
use Rattle.mdsource.specs.LabelTable.{with_definitions}
use Rattle.mdbatch.proofs.labels.add_definitions.Given as goal

abbrev pub invariant-loop-definition : goal.invariant-loop-definition
invariant-loop-definition l =
    with_definitions l.labels (map definition_of (drop l.definition-index l.definitions)) ≡ with_definitions l.fn.labels (map definition_of l.definitions)
