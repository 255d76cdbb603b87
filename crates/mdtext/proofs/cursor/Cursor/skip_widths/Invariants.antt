use denote.Shadow.{shadow}
use denote.Text.{Utf8}
use Rattle.std.proofs.Common.{◌+◌, length}
use Rattle.mdtext.specs.Columns.{indent_at, skip_from}
use Rattle.mdtext.proofs.Indents.{Walks}
use Rattle.mdtext.proofs.cursor.Cursor.skip_widths.Given as goal

abbrev pub invariant-loop-left : goal.invariant-loop-left
invariant-loop-left l = record {
  text : shadow (Utf8 l.rest);
  walks : Walks l.column l.left l.wanted (l.initial.left + indent_at (l.initial.column + l.initial.left) l.initial.rest) l.initial.wanted l.rest (skip_from l.initial.column l.initial.left l.initial.wanted l.initial.rest);
}

abbrev pub decreases-loop-left : goal.decreases-loop-left
decreases-loop-left l = length l.rest
