-- Which lines units that were found, or are held, stand for.
use Rattle.std.specs.Prelude.{ℕ, ◌≡◌, List, [], ◌∷◌, IfSome, Option, drop, take}
use Rattle.mdtext.specs.EntityTable.{EntityTable}
use Rattle.blockspec.specs.ItemMarks.{ItemMark}
use Rattle.mdblock.specs.FoundLists.{FoundList, StandsForUnit}
use Rattle.mdblock.specs.Fronted.{ListBase}
use Rattle.mdview.specs.HeldUnit.{HeldUnit, ReadUnit}

-- a unit that was found, without its place
abbrev pub unplaced : FoundList → FoundList
unplaced f = record { begin = 0; lines = f.lines; unit = f.unit; marks = f.marks; parted = f.parted }

-- a unit that was read, without its place
abbrev pub list_read : ReadUnit → FoundList
list_read u = record { begin = 0; lines = u.lines; unit = u.unit; marks = u.items; parted = u.parted }

-- the same of a unit that is held
abbrev pub list_in : HeldUnit → FoundList
list_in u = list_read u.read

-- what stays of a list, if anything does, is this unit's
abbrev pub IsBaseIn : HeldUnit → Option ListBase → Type 0
IsBaseIn u base = IfSome base (λ b. unplaced b.list ≡ list_in u)

abbrev pub list_lines : FoundList → ℕ
list_lines f = f.lines

-- A unit that was found in these lines stands for its own, where they are.
abbrev pub StandsAt : EntityTable → (lines : List (List ℕ)) → FoundList → Type 0
StandsAt e lines f = StandsForUnit e f (take f.lines (drop f.begin lines))

-- Units one behind the other stand each for its own of these lines (CommonMark 3). Lines behind the last unit do not matter.
abbrev pub StandForUnits : EntityTable → List FoundList → (lines : List (List ℕ)) → Type 0
StandForUnits e [] lines = Unit {0}
StandForUnits e (f ∷ fs) lines = StandsForUnit e f (take f.lines lines) × StandForUnits e fs (drop f.lines lines)

-- the line of a later item of a list, counted from the list's first one
abbrev pub item_line : ItemMark → ℕ
item_line mark = mark.line
