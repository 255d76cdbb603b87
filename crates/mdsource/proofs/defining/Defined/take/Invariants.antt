use Rattle.std.proofs.Common.{◌≡◌, drop, map}
use Rattle.mdleaf.specs.DefinedLinks.{definition_of}
use Rattle.mdsource.specs.LabelTable.{with_definitions}
use Rattle.mdsource.specs.Defining.{shown}
use Rattle.mdsource.proofs.defining.Defined.take.Given as goal

-- the definitions so far and those to come are all
abbrev pub invariant-loop-definition : goal.invariant-loop-definition
invariant-loop-definition l = record {
  other : l.self.other ≡ l.fn.self.other;
  labels : with_definitions (shown l.self.targets.entries) (map definition_of (drop l.definition-index l.definitions))
      ≡ with_definitions (shown l.fn.self.targets.entries) (map definition_of l.definitions);
}
