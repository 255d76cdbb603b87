-- What the inline texts of units read as under labels, in which of them spans lie too deep, and which asked for a label that leads elsewhere.
use Rattle.std.specs.Prelude.{ℕ, ◌+◌, Bool, List, [], ◌∷◌, length, map, Option, Some, None, option_map, if◌then◌else◌}
use Rattle.std.specs.List.{filter, find, list_any, sum_by}
use Rattle.mdtext.specs.EntityTable.{EntityTable}
use Rattle.blockspec.specs.UnitTree.{FoundUnit, UnitTree}
use Rattle.inlinespec.specs.LinkTails.{Table}
use Rattle.inlinespec.specs.ParsedText.{ParsedText}
use Rattle.mdsource.specs.Changes.{asks_changed}
use Rattle.mdsource.specs.Refusals.{is_deep}
use Rattle.mdsource.specs.View.{reading_of}

-- what the texts of a unit read as
abbrev pub readings_under : EntityTable → Table → UnitTree → List ParsedText
readings_under e labels unit = map (reading_of e labels) unit.texts

-- in one of them spans lie too deep
abbrev pub is_deep_under : (limit : ℕ) → EntityTable → Table → UnitTree → Bool
is_deep_under limit e labels unit = list_any (is_deep limit) (readings_under e labels unit)

-- of units one behind the other, the first of which begins in this line: the first line of the first one in which spans lie too deep
abbrev pub deep_from : (limit : ℕ) → EntityTable → Table → (begin : ℕ) → List (ℕ × UnitTree) → Option ℕ
deep_from limit e labels begin [] = None
deep_from limit e labels begin (tile ∷ later) = if is_deep_under limit e labels tile.1 then Some begin else deep_from limit e labels (begin + tile.0) later

-- the same of units that know where they begin
abbrev pub deep_found : (limit : ℕ) → EntityTable → Table → List FoundUnit → Option ℕ
deep_found limit e labels found = option_map (λ (one : FoundUnit). one.begin) (find (λ (one : FoundUnit). is_deep_under limit e labels one.unit) found)

-- a text of the unit asked for a label that leads elsewhere now
abbrev pub asks_again : EntityTable → (old new : Table) → UnitTree → Bool
asks_again e old new unit = list_any (asks_changed old new) (readings_under e old unit)

-- the numbers of the units with such a text, where the first one has this number
abbrev pub asking_units : EntityTable → (old new : Table) → (number : ℕ) → List UnitTree → List ℕ
asking_units e old new number [] = []
asking_units e old new number (unit ∷ later) =
    if asks_again e old new unit then number ∷ asking_units e old new (number + 1) later else asking_units e old new (number + 1) later

-- the units without their places
abbrev pub trees_in : List FoundUnit → List UnitTree
trees_in found = map (λ (one : FoundUnit). one.unit) found

-- how many such texts a unit has
abbrev pub asking_in : EntityTable → (old new : Table) → UnitTree → ℕ
asking_in e old new unit = length (filter (asks_changed old new) (readings_under e old unit))

-- how many these units have
abbrev pub asking_texts : EntityTable → (old new : Table) → List UnitTree → ℕ
asking_texts e old new units = sum_by (asking_in e old new) units
