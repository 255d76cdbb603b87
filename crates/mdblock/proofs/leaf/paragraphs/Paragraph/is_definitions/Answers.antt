use Rattle.std.proofs.Common.{ap, ◌∙◌}
use Rattle.mdleaf.specs.ParagraphText.{is_definitions_alone}
use Rattle.mdblock.proofs.ParagraphLaws.{trimmed_is}
use Rattle.mdblock.proofs.leaf.paragraphs.Paragraph.is_definitions.Goals as goal

pub returns : goal.returns
returns c =
    let held = c.as_str-text.ensures.value ∙ ap (λ h. h.text) c.self.view_is in
    c.is_only_definitions.ensures ∙ ap is_definitions_alone (trimmed_is c.as_str-text.result.now _ _ c.trimmed_length.result c.trimmed_length.ensures.value c.range.ensures.value held)
