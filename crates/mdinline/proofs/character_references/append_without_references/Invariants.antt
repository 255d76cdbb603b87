use Rattle.std.proofs.Common.{◌≡◌, ◌++◌, length, string_bytes}
use denote.Shadow.{shadow}
use denote.Text.{Utf8}
use Rattle.inlinespec.specs.CharacterReferences.{without_references}
use Rattle.mdinline.proofs.character_references.append_without_references.Given as goal

abbrev pub invariant-loop-plain : goal.invariant-loop-plain
invariant-loop-plain l = record {
  text : shadow (Utf8 l.rest);
  written : string_bytes l.out ++ without_references l.entities 0 l.rest ≡ string_bytes l.fn.out ++ without_references l.entities 0 l.text;
}

abbrev pub decreases-loop-plain : goal.decreases-loop-plain
decreases-loop-plain l = length l.rest
