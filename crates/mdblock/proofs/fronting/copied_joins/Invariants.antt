use Rattle.std.proofs.Common.{◌≡◌, ◌++◌, drop}
use Rattle.mdblock.proofs.fronting.copied_joins.Given as goal

abbrev pub invariant-loop-join : goal.invariant-loop-join
invariant-loop-join l = l.copies.items ++ drop l.join-index l.joins ≡ l.joins
