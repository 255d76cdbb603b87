use Rattle.std.proofs.Common.{◌≡◌, length, string_bytes, arith}
use Rattle.std.proofs.lemmas.Str.{IsUtf8-string_bytes}
use Rattle.mdblock.proofs.ParagraphLaws.{line_may_begin}
use Rattle.mdblock.proofs.leaf.paragraphs.Paragraph.push_line.Goals as goal

pub invariant_of-self-2 : goal.invariant_of-self-2
invariant_of-self-2 c =
    let long : c.len-self-inside.result ≡ length (string_bytes c.push_str.new.self) = omega (arith, c.len-self-inside.ensures, c.push_str.new.self.bytes.ok.0) in
    line_may_begin _ _ _ _ _ c.len-self-inside.result (IsUtf8-string_bytes c.push_str-2.new.self) c.in_ok-push_str.ensures.bytes c.push_str-2.ensures.bytes long
