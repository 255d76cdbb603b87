use Rattle.std.proofs.Common.{false, ap, ◌∙◌, sym, subst}
use Rattle.mdtext.specs.Columns.{AreMarks}
use Rattle.blockspec.specs.BlockLine.{rest, behind_marker}
use Rattle.mdblock.proofs.Skips.{unindented_line, mark_taken, mark_line}
use Rattle.mdblock.proofs.lines.Line.take_mark.Goals as goal

pub skip_mark-requires : goal.skip_mark-requires
skip_mark-requires c = subst (AreMarks c.args.width) (sym (ap rest c.self.view_is) ∙ unindented_line c.self.inside.cursor) c.requires

pub invariant_of-self : goal.invariant_of-self
invariant_of-self c =
    let marks = subst (AreMarks c.args.width) (sym (ap rest c.self.view_is) ∙ unindented_line c.self.inside.cursor) c.requires in
    mark_taken c.self.inside.cursor _ c.args.width c.skip_mark.ensures marks.0 c.self.invariant

pub returns : goal.returns
returns c =
    ap (λ l. record { line = l; lazy = false }) (mark_line c.self.inside.cursor _ c.args.width c.skip_mark.ensures)
    ∙ ap (λ l. behind_marker l c.args.width) c.self.view_is
