-- The inline texts of some units in order, and those of an edit's units that stand behind the line at which reading stops.
use Rattle.std.specs.Prelude.{ℕ, List, drop, flat_map, length, map, take}
use Rattle.std.specs.List.{filter}
use Rattle.mdtext.specs.EntityTable.{EntityTable}
use Rattle.blockspec.specs.BlockUnits.{units}
use Rattle.blockspec.specs.UnitTree.{UnitTree}
use Rattle.inlinespec.specs.LinkTails.{Table}
use Rattle.mdsource.specs.Changes.{asks_changed}
use Rattle.mdsource.specs.Stretch.{from_line, meeting_line}
use Rattle.mdsource.specs.View.{reading_of}
use Rattle.mdsource.specs.UnitTexts.{trees_in}
use Rattle.mdsource.specs.Stops.{Stops, stop_line}

abbrev pub texts_of : List UnitTree → List (List ℕ)
texts_of trees = flat_map (λ (unit : UnitTree). unit.texts) trees

-- how many of some texts asked for a label that leads elsewhere now
abbrev pub asking_of : EntityTable → (old new : Table) → (texts : List (List ℕ)) → ℕ
asking_of e old new texts = length (filter (asks_changed old new) (map (reading_of e old) texts))

-- the units of the lines from where reading begins to another line
abbrev pub trees_to : EntityTable → (lines : List (List ℕ)) → Stops → (to : ℕ) → List UnitTree
trees_to e lines s to = trees_in (units e (drop (from_line s.places) (take to lines)))

-- the texts of the units up to the meeting line, without those of the lines that are read where reading stops before
abbrev pub later_texts : EntityTable → (lines : List (List ℕ)) → Stops → List (List ℕ)
later_texts e lines s = drop (length (texts_of (trees_to e lines s (stop_line s)))) (texts_of (trees_to e lines s (meeting_line s.places)))
