-- Items of a list that a unit which is held takes in.
use Rattle.std.specs.Prelude.{◌≡◌, ◌+◌, length}
use Rattle.mdblock.specs.Insets.{FitsList, inset_front}
use Rattle.mdblock.specs.Spliced.{mark_at, spliced_list}
use Rattle.mdhtml.specs.InsetLists.{inset_readings}
use Rattle.mdview.specs.declared.held.unit_insets.UnitInset.{UnitInset}
use Rattle.mdview.specs.HeldLists.{list_in}
use Rattle.mdview.specs.HeldUnit.{HeldUnit}

-- the unit with them, read so, and with its piece
abbrev pub put_in : UnitInset → HeldUnit → HeldUnit
put_in i u =
    let l = spliced_list (inset_front i.inset (list_in u)) (list_in u) i.inset.join in
    record {
      read = record { lines = l.lines; unit = l.unit; readings = inset_readings i.inset.before i.inlines.items u.read.readings; items = l.marks; parted = l.parted };
      piece = i.piece.html;
      ends = i.piece.ends;
    }

-- They can take the place of items of the unit, and there is a reading for each text of these.
pub record FitsUnit (i : UnitInset) (u : HeldUnit) : Type 0 where
  pub fits : FitsList i.inset (list_in u)
  pub texts : i.inset.before + length i.inlines.items ≡ (mark_at u.read.items i.inset.join).texts
