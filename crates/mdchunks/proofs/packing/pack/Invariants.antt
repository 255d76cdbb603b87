use Rattle.std.proofs.Common.{◌≡◌, ◌≤◌, ◌*◌, ◌-◌, ◌++◌, length, take}
use Rattle.std.specs.List.{All}
use Rattle.std.specs.Vec.{vec_len}
use Rattle.std.specs.Vec.Iter.{into_iter_items, into_iter_len}
use Rattle.mdchunks.specs.Lists.{IsFilled, joined}
use Rattle.mdchunks.proofs.packing.pack.Given as goal

-- so many chunks are filled
abbrev pub invariant-loop-spare : goal.invariant-loop-spare
invariant-loop-spare g l = record {
  members : joined (take l.used l.spare.items) ++ into_iter_items l.rest ≡ l.fn.all.items;
  filled : All IsFilled (take l.used l.spare.items);
  room : length (into_iter_items l.rest) ≤ l.size * (vec_len l.spare - l.used);
  within : l.used ≤ vec_len l.spare;
  same : vec_len l.spare ≡ vec_len l.fn.spare;
}

abbrev pub decreases-loop-spare : goal.decreases-loop-spare
decreases-loop-spare g l = into_iter_len l.rest
