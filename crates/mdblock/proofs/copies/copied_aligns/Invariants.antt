use Rattle.std.proofs.Common.{◌≡◌, ◌++◌, drop}
use Rattle.mdblock.proofs.copies.copied_aligns.Given as goal

abbrev pub invariant-loop-align : goal.invariant-loop-align
invariant-loop-align l = l.copies.items ++ drop l.align-index l.aligns ≡ l.aligns
