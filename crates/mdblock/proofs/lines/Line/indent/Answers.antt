use Rattle.std.proofs.Common.{◌≡◌, arith, ap}
use Rattle.mdblock.proofs.Skips.{indent_within}
use Rattle.mdblock.proofs.lines.Line.indent.Goals as goal

pub returns-clause-short : goal.returns-clause-short
returns-clause-short c =
    let column : c.self.inside.cursor.column ≡ c.args.self.now.line.column = ap (λ l. l.line.column) c.self.view_is in
    omega (arith, indent_within c.self.inside.cursor, c.indent.ensures, c.self.invariant, column)
