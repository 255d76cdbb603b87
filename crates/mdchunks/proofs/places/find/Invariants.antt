use Rattle.std.proofs.Common.{◌≡◌, ◌≤◌, ◌<◌, length, take}
use Rattle.mdchunks.specs.Lists.{joined, weigh}
use Rattle.mdchunks.proofs.places.find.Given as goal

-- the first member of this chunk begins at or below the weight
abbrev pub invariant-loop-i : goal.invariant-loop-i
invariant-loop-i g l = record {
  here : l.start.member ≡ length (joined (take l.i l.chunks));
  within : 0 < l.i → l.i < length l.chunks;
  front : l.start.front ≡ weigh g.T.Weighed.weight (joined (take l.i l.chunks));
  below : l.start.front ≤ l.weight;
}
