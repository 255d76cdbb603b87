use Rattle.std.proofs.Common.{◌≡◌, ◌+◌, ◌++◌, take, drop}
use Rattle.std.specs.Vec.{vec_len, vec_capacity}
use Rattle.mdchunks.proofs.moves.swap_members.Given as goal

-- so many members have changed places
abbrev pub invariant-loop-i : goal.invariant-loop-i
invariant-loop-i g l = record {
  front : take (l.at + l.i) l.items.items ≡ take l.at l.fn.items.items ++ take l.i l.fn.add.items;
  back : drop (l.at + l.i) l.items.items ≡ drop (l.at + l.i) l.fn.items.items;
  rest : drop l.i l.add.items ≡ drop l.i l.fn.add.items;
  lengths : (vec_len l.items ≡ vec_len l.fn.items) × (vec_len l.add ≡ vec_len l.fn.add);
  room : vec_capacity l.items ≡ vec_capacity l.fn.items;
}
