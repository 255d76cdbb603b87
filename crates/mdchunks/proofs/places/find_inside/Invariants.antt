use Rattle.std.proofs.Common.{◌≡◌, ◌≤◌, ◌<◌, ◌+◌, ◌-◌, ◌^◌, length, min, take}
use Rattle.mdchunks.specs.Lists.{weigh}
use Rattle.mdchunks.proofs.places.find_inside.Given as goal

-- the member of this number begins at or below the weight
abbrev pub invariant-loop-i : goal.invariant-loop-i
invariant-loop-i g l = record {
  here : l.place.member ≡ l.i;
  within : l.i < length l.items;
  front : l.place.front ≡ min (l.fn.front + weigh g.T.Weighed.weight (take l.i l.items)) (2 ^ 64 - 1);
  below : l.place.front ≤ l.weight;
}
