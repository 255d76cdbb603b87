use Rattle.std.proofs.Common.{◌≡◌, ◌+◌, drop, false}
use Rattle.mdscan.specs.BackslashEscapes.{run_after}
use Rattle.mdscan.proofs.backslash_escapes.before.Given as goal

-- what is passed and what is left are all
abbrev pub invariant-loop-at : goal.invariant-loop-at
invariant-loop-at l = l.at + run_after l.escaped l.stops (drop l.at l.text) ≡ run_after false l.stops l.text
