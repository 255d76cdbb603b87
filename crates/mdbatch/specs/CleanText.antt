-- What a whole text is read with, its lines and its units.
use Rattle.std.specs.Prelude.{ℕ, List, Option}
use Rattle.mdtext.specs.Lines.{split_lines}
use Rattle.blockspec.specs.BlockUnits.{units}
use Rattle.blockspec.specs.Nesting.{first_too_deep}
use Rattle.blockspec.specs.UnitTree.{FoundUnit}
use Rattle.mdsource.specs.Setting.{Setting}
use Rattle.mdbatch.specs.declared.clean_text.CleanText.{CleanText}

abbrev pub setting_for : CleanText → Setting
setting_for clean = record { entities = clean.entities.now; options = clean.options.now }

abbrev pub lines_in : CleanText → List (List ℕ)
lines_in clean = split_lines clean.text.now

abbrev pub units_in : CleanText → List FoundUnit
units_in clean = units clean.entities.now (lines_in clean)

-- the first line on which a container begins too deep, if there is one
abbrev pub nested_in : CleanText → Option ℕ
nested_in clean = first_too_deep clean.options.now.max_containers (lines_in clean)
