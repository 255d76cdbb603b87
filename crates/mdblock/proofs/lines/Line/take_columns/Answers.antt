use Rattle.std.proofs.Common.{arith}
use Rattle.mdblock.proofs.Skips.{columns_taken}
use Rattle.mdblock.proofs.lines.Line.take_columns.Goals as goal

pub invariant_of-self : goal.invariant_of-self
invariant_of-self c = columns_taken c.self.inside.cursor _ c.min.result (omega (arith, c.min.ensures, c.indent.ensures)) c.skip_columns.ensures.place c.self.invariant
