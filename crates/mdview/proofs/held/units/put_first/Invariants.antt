use Rattle.std.proofs.Common.{◌≡◌, take, drop, length}
use Rattle.std.specs.Vec.{vec_len}
use Rattle.mdview.proofs.held.units.put_first.Given as goal

-- so many members have changed places
abbrev pub invariant-loop-i : goal.invariant-loop-i
invariant-loop-i l = record {
  front : take l.i l.inlines ≡ take l.i l.fn.first.items;
  back : drop l.i l.inlines ≡ drop l.i l.fn.inlines;
  rest : drop l.i l.first.items ≡ drop l.i l.fn.first.items;
  lengths : (length l.inlines ≡ length l.fn.inlines) × (vec_len l.first ≡ vec_len l.fn.first);
}
