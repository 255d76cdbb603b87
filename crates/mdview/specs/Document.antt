-- What a preview is: a text and a prelude, and what they are read with. All else that it shows is their view.
use Rattle.std.specs.Prelude.{ℕ, List, [], map}
use Rattle.mdtext.specs.EntityTable.{EntityTable}
use Rattle.inlinespec.specs.ParsedText.{ParsedText}
use Rattle.blockspec.specs.UnitTree.{UnitTree}
use Rattle.htmlspec.specs.declared.options.Options.{Options}
use Rattle.mdsource.specs.Setting.{Setting, Source}
use Rattle.mdsource.specs.View.{ViewedUnit, view}

-- the entities and options that it was made with, its lines, and those of its prelude
pub record Document : Type 0 where
  pub entities : EntityTable
  pub options : Options
  pub lines : List (List ℕ)
  pub prelude : List (List ℕ)

-- a preview of these lines and this prelude
abbrev pub document : Setting → Source → Document
document setting source = record {
  entities = setting.entities;
  options = setting.options;
  lines = source.lines;
  prelude = source.prelude;
}

-- neither a line nor a prelude
abbrev pub nothing : Source
nothing = record { lines = []; prelude = [] }

abbrev pub source_of : Document → Source
source_of held = record { lines = held.lines; prelude = held.prelude }

-- what it reads texts with
abbrev pub setting_of : Document → Setting
setting_of held = record { entities = held.entities; options = held.options }

-- a preview that was just made
abbrev pub empty : EntityTable → Options → Document
empty entities options = document (record { entities = entities; options = options }) nothing

-- its units, read from nothing
abbrev pub view_of : Document → List ViewedUnit
view_of held = view (setting_of held) (source_of held)

-- the HTML of each
abbrev pub pieces_of : Document → List (List ℕ)
pieces_of held = map (λ (v : ViewedUnit). v.piece) (view_of held)

abbrev pub shown_of : ViewedUnit → UnitTree × List ParsedText
shown_of v = (v.unit, v.readings)

-- the blocks of each, and what its texts read as
abbrev pub readings_of : Document → List (UnitTree × List ParsedText)
readings_of held = map shown_of (view_of held)
