-- Which inline texts an edit reads that stops inside a list: those of the lines that are read, and those elsewhere that asked for a label which leads elsewhere now (CommonMark 4.7).
use Rattle.std.specs.Prelude.{ℕ, ◌+◌, List, length, drop, take, nat_le, nat_eq}
use Rattle.std.specs.List.{filter, find, sum_by}
use Rattle.std.specs.Option.{unwrap_or, option_map}
use Rattle.mdtext.specs.EntityTable.{EntityTable}
use Rattle.blockspec.specs.BlockUnits.{units}
use Rattle.blockspec.specs.UnitTree.{FoundUnit}
use Rattle.inlinespec.specs.LinkTails.{Table}
use Rattle.mdsource.specs.Setting.{Setting, Source}
use Rattle.mdsource.specs.LabelTable.{table}
use Rattle.mdsource.specs.View.{ViewedUnit, view}
use Rattle.mdsource.specs.Calls.{Call, put}
use Rattle.mdsource.specs.Stretch.{from_line}
use Rattle.mdsource.specs.Changes.{asks_changed}
use Rattle.mdsource.specs.Stops.{Stops, stop_line, stops}

-- the units of the new text's lines up to where reading stops, those that begin where reading begins or behind: of the last list only the items that were read
abbrev pub units_read : EntityTable → (lines : List (List ℕ)) → Stops → List FoundUnit
units_read entities lines s = filter (λ found. nat_le (from_line s.places) found.begin) (units entities (take (stop_line s) lines))

-- how many texts were read of the unit that begins at a line: its first ones
abbrev pub texts_taken : (read : List FoundUnit) → (begin : ℕ) → ℕ
texts_taken read begin = unwrap_or (option_map (λ found. length found.unit.texts) (find (λ found. nat_eq found.begin begin) read)) 0

-- of a unit's texts behind those that were read, how many asked for a label that leads elsewhere now
abbrev pub later_asking : (old new : Table) → (read : List FoundUnit) → ViewedUnit → ℕ
later_asking old new read one = length (filter (asks_changed old new) (drop (texts_taken read one.begin) one.readings))

-- how many inline texts are read at most, where these units were read
abbrev pub texts_of_read : Setting → (old new : Source) → (read : List FoundUnit) → ℕ
texts_of_read setting old new read =
    sum_by (λ found. length found.unit.texts) read
    + sum_by (later_asking (table setting.entities old) (table setting.entities new) read) (view setting new)

-- how many inline texts such a call reads at most
abbrev pub texts_soon : Setting → Source → Call → ℕ
texts_soon setting old call =
    let new = put old call in
    texts_of_read setting old new (units_read setting.entities new.lines (stops setting old call))
