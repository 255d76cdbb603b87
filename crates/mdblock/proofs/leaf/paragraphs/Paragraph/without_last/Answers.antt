use Rattle.std.proofs.lemmas.Str.{IsUtf8-string_bytes}
use Rattle.mdblock.proofs.ParagraphLaws.{before_ending, at_front}
use Rattle.mdblock.proofs.leaf.paragraphs.Paragraph.without_last.Goals as goal

pub truncate-requires : goal.truncate-requires
truncate-requires c =
    let b = before_ending _ c.self.inside.last c.saturating_sub.result (IsUtf8-string_bytes c.self.inside.text) c.self.invariant.0 c.self.invariant.1 c.saturating_sub.ensures in
    λ _. (b.0, λ _. b.1)

pub invariant_of-result : goal.invariant_of-result
invariant_of-result c = at_front _ (IsUtf8-string_bytes c.truncate.new.self)
