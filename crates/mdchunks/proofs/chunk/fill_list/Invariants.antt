use Rattle.std.proofs.Common.{◌≡◌, ◌≤◌, take, drop}
use Rattle.std.specs.Vec.{vec_len, vec_capacity}
use Rattle.std.specs.Vec.Iter.{into_iter_items}
use Rattle.mdchunks.proofs.chunk.fill_list.Given as goal

-- so many members have been moved
abbrev pub invariant-loop : goal.invariant-loop
invariant-loop g l = record {
  front : l.items.items ≡ take l.counter (into_iter_items l.fn.source);
  rest : into_iter_items l.source ≡ drop l.counter (into_iter_items l.fn.source);
  count : vec_len l.items ≤ l.counter;
  capacity : vec_capacity l.items ≡ vec_capacity l.fn.items;
}
