use Rattle.std.proofs.Common.{◌≡◌, length, map}
use Rattle.std.specs.List.{All}
use Rattle.mdview.specs.HeldUnit.{unit_in}
use Rattle.mdview.specs.Update.{Fits, all_renewed}
use Rattle.mdview.proofs.commit.renew_units.Given as goal

-- the units so far, of which the rest are read again, are those of which all are, and the rest fit
abbrev pub invariant-loop-one : goal.invariant-loop-one
invariant-loop-one l = record {
  fits : All (Fits (map unit_in l.units.items)) l.one-iterator.rest.items;
  all : all_renewed l.units.items l.one-iterator.rest.items ≡ all_renewed l.fn.units.items l.fn.again.items;
  len : length l.units.items ≡ length l.fn.units.items;
  room : l.units.room ≡ l.fn.units.room;
}
