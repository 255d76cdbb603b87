use Rattle.std.proofs.Common.{◌-◌, ◌≤◌, length}
use Rattle.mdbatch.proofs.guesses.may_nest_too_deep.Given as goal

abbrev pub invariant-loop-at : goal.invariant-loop-at
invariant-loop-at l = (2 ≤ l.least) × (l.last ≤ length l.text - 1)

abbrev pub decreases-loop-at : goal.decreases-loop-at
decreases-loop-at l = l.last - l.at
