use Rattle.std.proofs.Common.{◌++◌, ◌∷◌, [], sym, ap, ◌∙◌, length, string_bytes}
use Rattle.mdtool.specs.LineLengths.{cut}
use Rattle.mdtool.proofs.LineLengths.{lengths_append, lengths_one, cut_append, cut_one}
use Rattle.mdtool.proofs.joined_lines.JoinedLines.push.Goals as goal

pub invariant_of-self-2 : goal.invariant_of-self-2
invariant_of-self-2 c =
    rw (c.in_ok-push_str-2.ensures.bytes, c.deref.ensures, c.in_ok-push_str.ensures.bytes, c.push_reserved.ensures.items, c.reserve.ensures.items, c.as_str-len.ensures.value)
    (lengths_append _ _ _ _ c.self.invariant (lengths_one (string_bytes c.args.line)))

pub returns : goal.returns
returns c =
    rw (c.in_ok-push_str-2.ensures.bytes, c.deref.ensures, c.in_ok-push_str.ensures.bytes, c.push_reserved.ensures.items, c.reserve.ensures.items, c.as_str-len.ensures.value, sym c.self.view_is)
    (cut_append _ _ (length (string_bytes c.args.line) ∷ []) (string_bytes c.args.line ++ 10 ∷ []) c.self.invariant ∙ ap (λ ls. cut c.self.inside.lens.items (string_bytes c.self.inside.text) ++ ls) (cut_one (string_bytes c.args.line)))
