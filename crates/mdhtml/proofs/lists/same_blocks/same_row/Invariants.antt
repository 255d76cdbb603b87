use Rattle.std.proofs.Common.{drop}
use Rattle.mdhtml.specs.held.Alike.{CellsAlike}
use Rattle.mdhtml.proofs.lists.same_blocks.same_row.Given as goal

abbrev pub invariant-loop-cell : goal.invariant-loop-cell
invariant-loop-cell l = CellsAlike l.shared (drop l.cell-index l.cells) l.rest → CellsAlike l.shared l.cells l.like
