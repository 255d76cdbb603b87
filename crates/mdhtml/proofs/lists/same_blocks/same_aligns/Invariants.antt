use Rattle.std.proofs.Common.{◌≡◌, drop}
use Rattle.mdhtml.proofs.lists.same_blocks.same_aligns.Given as goal

abbrev pub invariant-loop-align : goal.invariant-loop-align
invariant-loop-align l = drop l.align-index l.aligns ≡ l.rest → l.aligns ≡ l.like
