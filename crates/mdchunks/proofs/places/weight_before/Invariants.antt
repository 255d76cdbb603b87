use Rattle.std.proofs.Common.{◌≡◌, ◌+◌, length, take}
use Rattle.mdchunks.specs.Lists.{joined, weigh}
use Rattle.mdchunks.proofs.places.weight_before.Given as goal

-- so many chunks lie in front of the place
abbrev pub invariant-loop-i : goal.invariant-loop-i
invariant-loop-i g l = record {
  place : length (joined (take l.i l.chunks)) + l.left ≡ l.at;
  sum : l.sum ≡ weigh g.T.Weighed.weight (joined (take l.i l.chunks));
}
