use Rattle.std.proofs.Common.{sym}
use Rattle.std.proofs.lemmas.Str.{IsCharBoundary-start}
use Rattle.mdtext.proofs.Meanings.{punct_bounds}
use Rattle.mdtext.proofs.Numerals.{cut_after}
use Rattle.mdtext.proofs.unescapes.push_escape.Goals as goal

pub range-requires-clause-end_boundary : goal.range-requires-clause-end_boundary
range-requires-clause-end_boundary c = let b = punct_bounds _ (sym c.if-is_ascii_punctuation.ensures.value) in cut_after _ 0 _ c.utf8.after c.byte_at.ensures b.0 b.1

pub returns-then-is_ascii_punctuation-clause-cut : goal.returns-then-is_ascii_punctuation-clause-cut
returns-then-is_ascii_punctuation-clause-cut c = let b = punct_bounds _ (sym c.if-is_ascii_punctuation.ensures.value) in cut_after _ 0 _ c.utf8.after c.byte_at.ensures b.0 b.1

pub returns-clause-cut : goal.returns-clause-cut
returns-clause-cut c = IsCharBoundary-start _ c.utf8.after
