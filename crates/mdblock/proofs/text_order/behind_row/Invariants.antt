use Rattle.std.proofs.Common.{ℕ, drop}
use Rattle.mdblock.specs.Copies.{IsBehind}
use Rattle.mdblock.proofs.text_order.behind_row.Given as goal

abbrev pub invariant-loop-cell : goal.invariant-loop-cell
invariant-loop-cell l = (end : ℕ) → IsBehind l.next (drop l.cell-index l.cells) end → IsBehind l.fn.at l.cells end
