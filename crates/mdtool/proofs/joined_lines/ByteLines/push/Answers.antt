use Rattle.std.proofs.Common.{◌++◌, ◌∷◌, [], sym, ap, ◌∙◌, append_assoc, length}
use Rattle.mdtool.specs.LineLengths.{cut}
use Rattle.mdtool.proofs.LineLengths.{lengths_append, lengths_one, cut_append, cut_one}
use Rattle.mdtool.proofs.joined_lines.ByteLines.push.Goals as goal

pub invariant_of-self-2 : goal.invariant_of-self-2
invariant_of-self-2 c =
    rw (c.push_reserved.ensures.items, c.in_ok-extend_from_slice.ensures.items, c.reserve-2.ensures.items, c.push_reserved-2.ensures.items, c.reserve.ensures.items, append_assoc)
    (lengths_append _ _ _ _ c.self.invariant (lengths_one c.args.line.now))

pub returns : goal.returns
returns c =
    rw (c.push_reserved.ensures.items, c.in_ok-extend_from_slice.ensures.items, c.reserve-2.ensures.items, c.push_reserved-2.ensures.items, c.reserve.ensures.items, append_assoc, sym c.self.view_is)
    (cut_append _ _ (length c.args.line.now ∷ []) (c.args.line.now ++ 10 ∷ []) c.self.invariant ∙ ap (λ ls. cut c.self.inside.lens.items c.self.inside.bytes.items ++ ls) (cut_one c.args.line.now))
