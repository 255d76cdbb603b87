use Rattle.std.proofs.Common.{◌≡◌, ◌++◌, drop, map}
use Rattle.mdleaf.specs.DefinedLinks.{definition_of}
use Rattle.mdblock.proofs.copies.push_definitions.Given as goal

abbrev pub invariant-loop-definition : goal.invariant-loop-definition
invariant-loop-definition l = map definition_of l.copied.items ++ map definition_of (drop l.definition-index l.definitions) ≡ map definition_of l.fn.copied.items ++ map definition_of l.definitions
