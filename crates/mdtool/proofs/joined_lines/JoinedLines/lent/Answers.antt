use Rattle.mdtool.proofs.LineLengths.{next_length, line_ends, rest_begins}
use Rattle.mdtool.proofs.joined_lines.JoinedLines.lent.Goals as goal

pub split_at-requires : goal.split_at-requires
split_at-requires c =
    let next = next_length _ _ _ c.loop-len-test.true c.loop-len.invariant.are in
    line_ends _ _ next.0 next.1

pub range_from-rest-requires : goal.range_from-rest-requires
range_from-rest-requires c = λ some.
    let next = next_length _ _ _ c.loop-len-test.true c.loop-len.invariant.are in
    rest_begins _ _ _ c.loop-len.invariant.utf8 next.0 next.1 c.split_at.ensures.back
