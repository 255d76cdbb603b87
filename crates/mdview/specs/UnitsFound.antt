-- What was found in the lines that an edit read.
use Rattle.std.specs.Prelude.{◌≡◌, ◌≤◌, ◌+◌, ℕ, List, [], ◌∷◌, ◌++◌, Option, Some, None, map, option_map, slice_get}
use Rattle.mdtext.specs.EntityTable.{EntityTable}
use Rattle.blockspec.specs.BlockTree.{Items}
use Rattle.blockspec.specs.UnitTree.{FoundUnit, UnitTree}
use Rattle.mdblock.specs.FoundLists.{FoundList, found_unit}
use Rattle.mdblock.specs.Insets.{IsEven, MayFit, with_items}
use Rattle.mdblock.specs.Fronted.{HasOrder, IsInOrder}
use Rattle.mdblock.specs.Seams.{IsOwnBase, ListSeam, seam_front, seam_list}
use Rattle.mdblock.specs.held.Following.{ItemReading, MeetsIn}
use Rattle.mdblock.specs.Spliced.{as_first_list, mark_at, spliced_marks, tight_list}
use Rattle.mdsource.specs.UnitTexts.{trees_in}
use Rattle.mdview.specs.declared.blocks.held_places.HeldItem.{HeldItem}
use Rattle.mdview.specs.declared.blocks.reparse.KeptTexts.{KeptTexts}
use Rattle.mdview.specs.declared.blocks.reparse.Reparsed.{Reparsed}
use Rattle.mdview.specs.HeldLists.{list_in, unplaced}
use Rattle.mdview.specs.HeldUnit.{HeldUnit}
use Rattle.mdview.specs.KeptTexts.{kept_texts, number_kept}

-- units that were found, and behind them a list that is not put together, if there is one
abbrev pub with_list : List FoundList → Option ListSeam → List FoundList
with_list found None = found
with_list found (Some list) = found ++ seam_list list ∷ []

-- the units found, in order, each where it is a list with its later items
unfoldable pub found_in : Reparsed → List FoundList
found_in r = with_list r.found.items r.list

-- the same without these items
abbrev pub units_found : Reparsed → List FoundUnit
units_found r = map found_unit (found_in r)

-- their trees, without their places
abbrev pub trees_found : Reparsed → List UnitTree
trees_found r = trees_in (units_found r)

-- the texts of the last of them that a held unit has too
abbrev pub texts_kept : Reparsed → List (List ℕ)
texts_kept r = kept_texts (option_map number_kept r.kept) (trees_found r)

-- the texts that stay where the items of an old list do: as many stand in front of them in both lists
abbrev pub kept_behind : (unit : ℕ) → ListSeam → KeptTexts
kept_behind unit s = record { unit = unit; from = (mark_at s.old.marks s.join).texts; at = (mark_at s.old.marks s.join).texts }

-- The items of an old list from the join on can stay where they are: as many items and texts stand in front of them in both lists, neither has a definition, both
-- together are of the old one's kind, and tight or loose as that is, what stays in front are items of the old one, and what was read has its texts in order.
pub record CanStay (s : ListSeam) : Type 0 where
  pub even : IsEven (seam_front s).marks s.old.marks s.join
  pub alike : (items : Items) → as_first_list (tight_list s.old.parted (spliced_marks (seam_front s).marks s.old.marks s.join)) items (seam_front s).unit.blocks ≡ with_items items s.old.unit.blocks
  pub undefined : s.old.unit.definitions ≡ []
  pub own : IsOwnBase s.base s.old s.join
  pub ordered : HasOrder s.part

-- A list that is not put together goes on in this item of a held one, where its items can stay where they are.
pub record IsSeamOf (reader : ItemReading) (item : HeldItem) (texts : Option KeptTexts) (s : ListSeam) : Type 0 where
  pub old : unplaced s.old ≡ list_in item.unit.now
  pub stays : CanStay s
  pub kept : texts ≡ Some (kept_behind item.number s)
  pub fits : (limit : ℕ) (e : EntityTable) (xs : List (List ℕ)) (l : List ℕ) (zs ys : List (List ℕ)) → MeetsIn limit e reader (list_in item.unit.now) item.item xs l zs ys
      → MayFit (seam_front s) s.old s.join × IsInOrder s.base

-- A list that is not put together goes on in the last of the held units in whose place those found come, and its items there can stay where they are.
pub record IsHeldOn (units : List HeldUnit) (r : Reparsed) (s : ListSeam) : Type 0 where
  pub unit : HeldUnit
  pub number : ℕ
  pub held : slice_get units number ≡ Some unit
  pub first : r.first ≤ number
  pub next : r.next ≡ number + 1
  pub kept : r.kept ≡ Some (kept_behind number s)
  pub old : unplaced s.old ≡ list_in unit
  pub stays : CanStay s
  pub fits : MayFit (seam_front s) s.old s.join × IsInOrder s.base
