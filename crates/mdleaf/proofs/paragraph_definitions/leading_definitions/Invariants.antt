use Rattle.std.proofs.Common.{◌≡◌, ◌+◌, ◌-◌, ◌++◌, drop, length, map}
use Rattle.std.specs.Str.{IsCharBoundary}
use Rattle.mdleaf.specs.DefinedLinks.{definition_of}
use Rattle.mdleaf.specs.ParagraphDefinitions.{leading_end, leading_of}
use Rattle.mdleaf.proofs.paragraph_definitions.leading_definitions.Given as goal

-- those so far and those at the front of the rest are all, and end where all do
abbrev pub invariant-loop-def : goal.invariant-loop-def
invariant-loop-def l = record {
  boundary : IsCharBoundary l.text l.end;
  so_far : l.end + leading_end (drop l.end l.text) ≡ leading_end l.text;
  definitions : map definition_of l.definitions.items ++ leading_of l.entities (drop l.end l.text) ≡ leading_of l.entities l.text;
}

abbrev pub decreases-loop-def : goal.decreases-loop-def
decreases-loop-def l = length l.text - l.end
