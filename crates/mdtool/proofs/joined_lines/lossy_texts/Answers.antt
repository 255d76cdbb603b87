use Rattle.std.proofs.Common.{arith}
use Rattle.mdtool.proofs.LineLengths.{next_length}
use Rattle.mdtool.proofs.joined_lines.lossy_texts.Goals as goal

pub overflow_add-rest : goal.overflow_add-rest
overflow_add-rest c =
    let next = next_length _ _ _ c.loop-len-test.true c.loop-len.invariant.are in
    omega (arith, next.0, c.loop-len.invariant.within)
