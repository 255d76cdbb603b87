use Rattle.std.proofs.Common.{ap, ◌∙◌, sym}
use Rattle.mdtext.specs.Columns.{indent, line_at}
use Rattle.mdtext.proofs.Indents.{indent_spaces}
use Rattle.mdtext.proofs.cursor.Cursor.indent.Goals as goal

pub returns : goal.returns
returns c =
    c.self.invariant.0 ∙ sym (indent_spaces c.self.inside.column c.self.inside.left c.self.inside.rest.now) ∙ ap (λ p. indent (line_at p)) c.self.view_is
