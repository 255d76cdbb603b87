use Rattle.std.proofs.Common.{sym}
use Rattle.mdtool.proofs.LineLengths.{lengths_append, cut_append}
use Rattle.mdtool.proofs.joined_lines.ByteLines.append.Goals as goal

pub invariant_of-self-2 : goal.invariant_of-self-2
invariant_of-self-2 c =
    let bytes = rw c.unwrap.ensures at c.extend_from_slice-2.ensures.items in
    rw (bytes, c.in_ok-extend_from_slice.ensures.items, c.reserve.ensures.items) (lengths_append _ _ _ _ c.self.invariant c.requires)

pub returns : goal.returns
returns c =
    let bytes = rw c.unwrap.ensures at c.extend_from_slice-2.ensures.items in
    rw (bytes, c.in_ok-extend_from_slice.ensures.items, c.reserve.ensures.items, sym c.self.view_is) (cut_append _ _ _ _ c.self.invariant)
