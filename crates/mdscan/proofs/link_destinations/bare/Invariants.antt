use Rattle.std.proofs.Common.{◌≡◌, ◌≤◌, drop, false}
use Rattle.mdscan.specs.LinkDestination.{bare_from}
use Rattle.mdscan.proofs.link_destinations.bare.Given as goal

-- what is left decides
abbrev pub invariant-loop-end : goal.invariant-loop-end
invariant-loop-end l =
    (l.depth ≤ 32)
    × (bare_from l.escaped l.end l.depth (drop l.end l.text) ≡ bare_from false l.fn.at 0 (drop l.fn.at l.text))
