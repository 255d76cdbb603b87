-- Whether a line begins a unit behind others: it goes on with no block, and is no item of the list that stands last.
use Rattle.std.specs.Prelude.{ℕ, ◌+◌, Bool, true, false, not, ◌&&◌, List, length, Option, Some, None}
use Rattle.mdtext.specs.EntityTable.{EntityTable}
use Rattle.blockspec.specs.BlockLine.{BlockLine}
use Rattle.blockspec.specs.BlankLines.{is_blank_line}
use Rattle.blockspec.specs.BlockKinds.{Item, Kind, Holds}
use Rattle.blockspec.specs.BlockStart.{begun}
use Rattle.blockspec.specs.BlockTree.{ListKind}
use Rattle.blockspec.specs.BlockUnits.{depth_of, groups, found_units}
use Rattle.blockspec.specs.Laziness.{Tip}
use Rattle.blockspec.specs.Lists.{kind_of, is_same_list}
use Rattle.blockspec.specs.Stretches.{Step, Continues, IsLastLine, IsOverBefore, step, Tail, Empty, Going, Over, Cut, cut_within, tip_within}
use Rattle.blockspec.specs.UnitTree.{FoundUnit}

abbrev pub is_stop : Step → Bool
is_stop (Continues kind) = false
is_stop (IsLastLine kind) = false
is_stop IsOverBefore = true

-- a line that goes on with no block
unfoldable pub is_apart : (tip : List BlockLine → Tip) → Tail → BlockLine → Bool
is_apart tip Empty l = true
is_apart tip (Over s) l = true
is_apart tip (Going s) l = is_stop (step tip s.kind s.first s.later l)

-- the list of an item, and none of other blocks
abbrev pub list_mark : Kind → Option ListKind
list_mark (Holds (Item marker needed)) = Some (kind_of marker)
list_mark kind = None

abbrev pub same_mark : Option ListKind → Option ListKind → Bool
same_mark None other = false
same_mark (Some kind) None = false
same_mark (Some kind) (Some other) = is_same_list kind other

abbrev pub tail_mark : Tail → Option ListKind
tail_mark Empty = None
tail_mark (Going s) = list_mark s.kind
tail_mark (Over s) = list_mark s.kind

unfoldable pub begins_behind : (tip : List BlockLine → Tip) → Cut → BlockLine → Bool
begins_behind tip cut l = is_apart tip cut.tail l && not (is_blank_line l) && not (same_mark (tail_mark cut.tail) (list_mark (begun l)))

-- whether a line begins a unit behind these lines, whatever comes after it
unfoldable pub begins_unit : (front : List BlockLine) → BlockLine → Bool
begins_unit front l = begins_behind (tip_within (depth_of front)) (cut_within (depth_of front) front) l

-- the units of some lines
abbrev pub units_of : EntityTable → List BlockLine → List FoundUnit
units_of entities ls = found_units (groups entities ls) (length ls)

-- a unit so many lines further on
abbrev pub shift_found : ℕ → FoundUnit → FoundUnit
shift_found k f = record { begin = f.begin + k; lines = f.lines; unit = f.unit }
