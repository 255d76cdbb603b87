use denote.Shadow.{shadow}
use denote.Text.{Utf8}
use Rattle.std.proofs.Common.{◌≡◌, ◌++◌, length, string_bytes}
use Rattle.mdleaf.specs.Tables.{cell_text}
use Rattle.mdleaf.proofs.tables.cell_text.Given as goal

-- what is written and the text of the rest are the text of all
abbrev pub invariant-loop-before : goal.invariant-loop-before
invariant-loop-before l = record {
  text : shadow (Utf8 l.rest);
  so_far : string_bytes l.text ++ cell_text l.rest ≡ cell_text l.cell;
}

abbrev pub decreases-loop-before : goal.decreases-loop-before
decreases-loop-before l = length l.rest
