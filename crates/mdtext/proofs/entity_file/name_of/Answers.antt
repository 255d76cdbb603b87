use Rattle.std.proofs.Common.{arith}
use Rattle.mdtext.proofs.Numerals.{cut_after}
use Rattle.mdtext.proofs.entity_file.name_of.Goals as goal

pub range-name-requires-clause-start_boundary : goal.range-name-requires-clause-start_boundary
range-name-requires-clause-start_boundary c = λ _. cut_after _ 0 _ c.utf8.key c.byte_at.ensures (omega (arith, c.if-byte_at-ne38.false)) (omega (arith, c.if-byte_at-ne38.false))
