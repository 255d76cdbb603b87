use Rattle.std.proofs.Common.{◌≡◌, ◌+◌, ◌≤◌, ◌++◌, length, map}
use Rattle.std.specs.List.{All, sum_by}
use Rattle.mdblock.specs.FoundLists.{found_unit}
use Rattle.mdsource.specs.UnitTexts.{trees_in}
use Rattle.mdview.specs.HeldLists.{list_in, unplaced}
use Rattle.mdview.specs.ReadUnits.{IsReadUnder}
use Rattle.mdview.specs.HeldTexts.{entities_in, labels_behind}
use Rattle.mdview.specs.HeldUnit.{IsRendered, texts_in}
use Rattle.mdview.specs.TextSetting.{DidReadIn, Stays, deep_place, texts_under}
use Rattle.mdview.proofs.inlines.UnitTextReader.read_units.Given as goal

-- the units so far were read and counted, and in none of them do spans lie too deep; the held ones that are left read so too
abbrev pub invariant-loop-one : goal.invariant-loop-one
invariant-loop-one g l = record {
  lists : map list_in l.units.items ++ map unplaced l.one-iterator.rest.items ≡ map unplaced l.fn.found.items;
  all : length l.units.items + length l.one-iterator.rest.items ≡ length l.fn.found.items;
  rendered : All (IsRendered l.fn.self.options.now) l.units.items;
  read : All (IsReadUnder (entities_in l.fn.room) (labels_behind l.fn.self)) l.units.items;
  shallow : deep_place (texts_under l.fn.self l.fn.room) (map found_unit l.fn.found.items) ≡ deep_place (texts_under l.fn.self l.fn.room) (map found_unit l.one-iterator.rest.items);
  like : All (DidReadIn (texts_under l.fn.self l.fn.room)) l.like;
  like_rendered : All (IsRendered l.fn.self.options.now) l.like;
  stays : Stays l.fn.room l.room (g.C.Count.lines l.fn.count) (g.C.Count.lines l.count);
  inlines : g.C.Count.inlines l.count + sum_by texts_in (trees_in (map found_unit l.one-iterator.rest.items)) ≤ g.C.Count.inlines l.fn.count + sum_by texts_in (trees_in (map found_unit l.fn.found.items));
}
