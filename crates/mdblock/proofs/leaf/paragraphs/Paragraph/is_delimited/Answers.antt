use Rattle.std.proofs.Common.{ap, sym, ◌∙◌}
use Rattle.mdleaf.specs.Tables.{begins_table}
use Rattle.blockspec.specs.Tables.{last_text}
use Rattle.mdblock.specs.held.ParagraphLines.{begins_row}
use Rattle.mdblock.proofs.ParagraphLaws.{last_is}
use Rattle.mdblock.proofs.RowStarts.{not_indented, no_table_without}
use Rattle.mdblock.proofs.leaf.paragraphs.Paragraph.is_delimited.Goals as goal

pub returns-then-may_delimit-clause-lines : goal.returns-then-may_delimit-clause-lines
returns-then-may_delimit-clause-lines c = λ lines h.
    c.begins_table.ensures ∙ ap (λ t. begins_table t c.text-then-may_delimit.result.now) (c.last_line.ensures ∙ last_is lines c.args.self.now h)
    ∙ ap (begins_table (last_text lines)) c.text-then-may_delimit.ensures

pub returns-else-may_delimit-clause-lines : goal.returns-else-may_delimit-clause-lines
returns-else-may_delimit-clause-lines c = λ lines h.
    c.if-may_delimit.false
    ∙ sym (no_table_without (last_text lines) _ (not_indented c.args.line.now.line.text) (ap begins_row (sym c.text.ensures) ∙ sym c.may_delimit.ensures ∙ c.if-may_delimit.false))
