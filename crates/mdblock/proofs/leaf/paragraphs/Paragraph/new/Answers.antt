use Rattle.std.proofs.Common.{◌∙◌}
use Rattle.std.proofs.lemmas.Str.{IsUtf8-string_bytes}
use Rattle.mdblock.proofs.ParagraphLaws.{at_front, first_line}
use Rattle.mdblock.proofs.leaf.paragraphs.Paragraph.new.Goals as goal

pub invariant_of-result : goal.invariant_of-result
invariant_of-result c = at_front _ (IsUtf8-string_bytes c.in_ok-from_str.field-0)

pub returns : goal.returns
returns c = first_line c.args.line.now _ (c.in_ok-from_str.ensures.ok ∙ c.text.ensures)
