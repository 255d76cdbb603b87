-- Later items of lists that are held, and what is kept of a list in which the reading of an edit stops (CommonMark 5.3).
use Rattle.std.specs.Prelude.{◌≡◌, ℕ, ◌+◌, ◌-◌, ◌<◌, List, [], ◌∷◌, ◌++◌, Option, Some, IfSome, drop, length, map, slice_get}
use Rattle.mdtext.specs.EntityTable.{EntityTable}
use Rattle.blockspec.specs.BlockUnits.{units}
use Rattle.blockspec.specs.ItemMarks.{ItemMark}
use Rattle.mdblock.specs.FoundLists.{FoundList, StandsForUnit, found_unit}
use Rattle.mdblock.specs.Fronted.{ListBase}
use Rattle.mdblock.specs.held.Following.{ItemReading, MeetsIn}
use Rattle.mdblock.specs.held.Reads.{handed, open_begin}
use Rattle.mdview.specs.declared.blocks.reparse.KeptTexts.{KeptTexts}
use Rattle.mdview.specs.declared.blocks.held_places.HeldItem.{HeldItem}
use Rattle.mdview.specs.HeldLists.{IsBaseIn, list_in}
use Rattle.mdview.specs.HeldUnit.{HeldUnit, first_line, read_of}
use Rattle.mdview.specs.declared.blocks.held_places.UnitStart.{UnitStart}
use Rattle.mdblock.specs.Spliced.{mark_at}

-- its mark
abbrev pub mark_in : HeldItem → ItemMark
mark_in item = mark_at item.unit.now.read.items item.item

-- where a unit begins is told by how many lines those before it have
abbrev pub IsCounted : (head : ℕ) → List HeldUnit → UnitStart → Type 0
IsCounted head held start = start.line ≡ first_line head (map read_of held) start.unit

-- it is a later item of a unit of these
abbrev pub IsItemOf : List HeldUnit → HeldItem → Type 0
IsItemOf units item = (slice_get units item.number ≡ Some item.unit.now) × (item.item < length item.unit.now.read.items)

-- what stays of a list, if anything does, is that of the unit of this number
abbrev pub IsBaseOf : List HeldUnit → (number : ℕ) → Option ListBase → Type 0
IsBaseOf units number base = (u : HeldUnit) → slice_get units number ≡ Some u → IsBaseIn u base

-- it begins in this line, where the units begin in these
abbrev pub IsItemAt : (begins : List ℕ) → (line : ℕ) → HeldItem → Type 0
IsItemAt begins line item = IfSome (slice_get begins item.number) (λ begin. begin + (mark_in item).line ≡ line)

-- what is told of a list that goes on in an old one
abbrev pub IsSpliced : ItemReading → (old : FoundList) → (k : ℕ) → (list : FoundList) → Type 0
IsSpliced reader old k list = (limit : ℕ) (e : EntityTable) (xs : List (List ℕ)) (l : List ℕ) (zs ys : List (List ℕ)) → MeetsIn limit e reader old k xs l zs ys
    → (open_begin e (xs ++ l ∷ []) ≡ Some list.begin)
    × (units e (xs ++ l ∷ ys) ≡ handed e (xs ++ l ∷ []) ++ found_unit list ∷ [])
    × StandsForUnit e list (drop list.begin (xs ++ l ∷ ys))
    × ((kept : List (List ℕ)) × (list.unit.texts ≡ kept ++ drop (mark_at old.marks k).texts old.unit.texts))

-- the texts that stay of a list which goes on in a held one
abbrev pub kept_of : HeldItem → FoundList → KeptTexts
kept_of item list = record {
  unit = item.number;
  from = (mark_in item).texts;
  at = length list.unit.texts - (length item.unit.now.read.unit.texts - (mark_in item).texts);
}

-- These are the texts that stay, where the item begins in the last line that was read.
abbrev pub KeepsTexts : ItemReading → HeldItem → (list : FoundList) → Option KeptTexts → Type 0
KeepsTexts reader item list kept = (limit : ℕ) (e : EntityTable) (xs : List (List ℕ)) (l : List ℕ) (zs ys : List (List ℕ)) → MeetsIn limit e reader (list_in item.unit.now) item.item xs l zs ys
    → kept ≡ Some (kept_of item list)
