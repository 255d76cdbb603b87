-- A reader of units: it goes over the lines, keeps the summary of those from the last unit's first line on, and hands that
-- unit out when the line has come that begins the next one.
use Rattle.std.specs.Prelude.{ℕ, suc, ◌-◌, Bool, true, false, List, [], ◌∷◌, ◌++◌, map, Option, Some, None, if◌then◌else◌}
use Rattle.mdtext.specs.EntityTable.{EntityTable}
use Rattle.blockspec.specs.BlockLine.{BlockLine}
use Rattle.blockspec.specs.BlockUnits.{found_units}
use Rattle.blockspec.specs.LineSummary.{Summary, no_summary, closed, line_added, begins_after}
use Rattle.blockspec.specs.SummaryDepth.{sinks}
use Rattle.blockspec.specs.UnitBegin.{begins_unit, shift_found}
use Rattle.blockspec.specs.UnitTree.{FoundUnit}

-- The first line of a unit is read behind no line.
abbrev pub read_behind : (begins : Bool) → Summary → Summary
read_behind true s = no_summary
read_behind false s = s

-- The units of the lines that are held: `fed` lines were read, `begin` of them before these.
abbrev pub units_held : EntityTable → (begin fed : ℕ) → Summary → List FoundUnit
units_held entities begin fed s = map (shift_found begin) (found_units (closed entities s) (fed - begin))

-- all units that are handed out over some lines more, those that are held at their end included
unfoldable pub units_handed : EntityTable → (limit begin fed : ℕ) → Summary → List BlockLine → List FoundUnit
units_handed entities limit begin fed s [] = units_held entities begin fed s
units_handed entities limit begin fed s (l ∷ ls) =
    if begins_after s l then units_held entities begin fed s ++ units_handed entities limit fed (suc fed) (line_added entities (suc limit) no_summary l) ls
    else units_handed entities limit begin (suc fed) (line_added entities (suc limit) s l) ls

-- the first of some lines more that is refused, where `fed` lines were read before them
unfoldable pub unit_fault : EntityTable → (limit fed : ℕ) → Summary → List BlockLine → Option ℕ
unit_fault entities limit fed s [] = None
unit_fault entities limit fed s (l ∷ ls) =
    if sinks limit s l then Some fed else unit_fault entities limit (suc fed) (line_added entities (suc limit) (read_behind (begins_after s l) s) l) ls

-- which of some lines are held behind some lines more
unfoldable pub lines_held : List BlockLine → List BlockLine → List BlockLine
lines_held held [] = held
lines_held held (l ∷ ls) = if begins_unit held l then lines_held (l ∷ []) ls else lines_held (held ++ l ∷ []) ls

-- and their summary, as the reader keeps it
unfoldable pub summary_held : EntityTable → (limit : ℕ) → Summary → List BlockLine → Summary
summary_held entities limit s [] = s
summary_held entities limit s (l ∷ ls) = summary_held entities limit (line_added entities (suc limit) (read_behind (begins_after s l) s) l) ls
