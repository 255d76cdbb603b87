-- How what a reader holds stands for the lines that it has read.
use Rattle.std.specs.Prelude.{◌≡◌, ℕ, suc, ◌-◌, true, false, List, [], ◌∷◌, length, map, Option, None, Some, unwrap_or, if◌then◌else◌, ◌||◌}
use Rattle.std.specs.Option.{option_map}
use Rattle.mdtext.specs.EntityTable.{EntityTable}
use Rattle.blockspec.specs.BlockLine.{BlockLine, document_line, without_last}
use Rattle.blockspec.specs.BlockUnits.{begins, units}
use Rattle.mdblock.specs.FoundLists.{FoundList, join_mark}
use Rattle.mdblock.specs.held.HeldLevel.{StandsFor, HoldsSummary, GivesUnit, Fits, list_between}
use Rattle.mdblock.specs.held.HeldNodes.{handed_nodes, closed_nodes}
use Rattle.blockspec.specs.LineSummary.{Summary, no_summary, summary_of, line_added, begins_after}
use Rattle.blockspec.specs.Nesting.{first_too_deep}
use Rattle.blockspec.specs.NodeTree.{texts_in, definitions_in}
use Rattle.mdblock.specs.held.ReaderState.{UnitSoFar, ReaderState}
use Rattle.blockspec.specs.SummaryDepth.{sinks}
use Rattle.blockspec.specs.UnitReader.{lines_held, read_behind}
use Rattle.blockspec.specs.UnitTree.{FoundUnit}
use Rattle.blockspec.specs.ItemMarks.{ItemMark, list_marks, marks_next}
use Rattle.blockspec.specs.Joins.{is_joined}
use Rattle.blockspec.specs.SummaryJoins.{joins_after, is_parted_after, gap_in}
use Rattle.mdblock.specs.declared.readers.OpenUnit.{OpenUnit}

abbrev pub last_of : List ℕ → Option ℕ
last_of [] = None
last_of (n ∷ []) = Some n
last_of (n ∷ m ∷ ns) = last_of (m ∷ ns)

-- the units that a reader has handed out behind these lines: all but the last one, which may go on
abbrev pub handed : EntityTable → (lines : List (List ℕ)) → List FoundUnit
handed entities lines = without_last (units entities lines)

-- the first line of the last unit
abbrev pub open_begin : EntityTable → (lines : List (List ℕ)) → Option ℕ
open_begin entities lines = last_of (begins entities lines)

abbrev pub held_marks : OpenUnit → List ItemMark
held_marks held = map join_mark held.joins.items

-- the item of a unit that begins behind so many lines of it, which have this summary
abbrev pub mark_after : EntityTable → Summary → (lines : ℕ) → ItemMark
mark_after entities s lines =
    let nodes = closed_nodes entities false s in
    record { line = lines; texts = length (texts_in nodes); definitions = length (definitions_in nodes); loose = is_parted_after entities s || gap_in s }

-- What one line more makes of what is held, behind so many lines: it goes on, or hands out the unit before the one that the line begins.
abbrev pub HandsOn : (limit fed : ℕ) → (old : OpenUnit) → BlockLine → Option FoundList → (new : OpenUnit) → Type 0
HandsOn limit fed old l found new =
    (s : Summary) → HoldsSummary old s → Fits limit s
    → (sinks limit s l ≡ false)
    × (found ≡ (if begins_after s l then option_map (list_between old.gathering.entities.now s (held_marks old) fed) old.begin else None))
    × (new.begin ≡ (if begins_after s l then Some fed else old.begin))
    × HoldsSummary new (line_added old.gathering.entities.now (suc limit) (read_behind (begins_after s l) s) l)
    × (new.joined ≡ joins_after s l)
    × (held_marks new ≡ marks_next (begins_after s l) (joins_after s l) (held_marks old) (mark_after old.gathering.entities.now s (fed - unwrap_or old.begin 0)))

-- The line begins a unit: what is held is handed out, and what is held then is the line's.
abbrev pub BeginsUnit : (limit fed : ℕ) → (old : OpenUnit) → BlockLine → Option FoundList → (new : OpenUnit) → Type 0
BeginsUnit limit fed old l found new =
    GivesUnit old fed found × (new.begin ≡ Some fed) × (sinks limit no_summary l ≡ false)
    × HoldsSummary new (line_added old.gathering.entities.now (suc limit) no_summary l)
    × (new.joined ≡ false) × (new.joins.items ≡ [])

-- the line begins a container too deep behind what is held
abbrev pub SinksBehind : (limit : ℕ) → OpenUnit → BlockLine → Type 0
SinksBehind limit held l = (s : Summary) → HoldsSummary held s → Fits limit s → sinks limit s l ≡ true

abbrev pub StandsForHeld : EntityTable → UnitSoFar → Summary → Type 0
StandsForHeld entities held s =
    (held.texts ≡ texts_in (handed_nodes entities false s)) × (held.definitions ≡ definitions_in (handed_nodes entities false s))
    × StandsFor entities 0 false held.level s

abbrev pub HoldsUnit : EntityTable → Option UnitSoFar → (lines : List (List ℕ)) → Type 0
HoldsUnit entities None lines = ⊥
HoldsUnit entities (Some held) lines =
    (held.begin ≡ open_begin entities lines) × (held.joined ≡ is_joined entities lines)
    × (held.marks ≡ list_marks entities (lines_held [] (map document_line lines)))
    × StandsForHeld entities held (summary_of entities (lines_held [] (map document_line lines)))

-- A reader that has read these lines, with no fault.
unfoldable pub Reads : (limit : ℕ) → EntityTable → ReaderState → (lines : List (List ℕ)) → Type 0
Reads limit entities reading lines =
    (reading.entities ≡ entities) × (reading.limit ≡ limit) × (reading.fed ≡ length lines) × (first_too_deep limit lines ≡ None)
    × HoldsUnit entities reading.held lines
