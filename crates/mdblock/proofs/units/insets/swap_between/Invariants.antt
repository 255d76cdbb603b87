use Rattle.std.proofs.Common.{◌≡◌, ◌+◌, ◌++◌, take, drop}
use Rattle.std.specs.Vec.{vec_len}
use Rattle.mdblock.proofs.units.insets.swap_between.Given as goal

-- so many members have changed places
abbrev pub invariant-loop-i : goal.invariant-loop-i
invariant-loop-i g l = record {
  front : take (l.start + l.i) l.items.items ≡ take l.start l.fn.items.items ++ take l.i l.fn.others.items;
  back : drop (l.start + l.i) l.items.items ≡ drop (l.start + l.i) l.fn.items.items;
  rest : drop l.i l.others.items ≡ drop l.i l.fn.others.items;
  lengths : (vec_len l.items ≡ vec_len l.fn.items) × (vec_len l.others ≡ vec_len l.fn.others);
}
