-- The view of a text: all that a preview shows of it, parsed from scratch.
use Rattle.std.specs.Prelude.{ℕ, List, [], false, map}
use Rattle.mdtext.specs.EntityTable.{EntityTable}
use Rattle.blockspec.specs.BlockUnits.{units}
use Rattle.blockspec.specs.UnitTree.{UnitTree, FoundUnit}
use Rattle.inlinespec.specs.LinkTails.{Table}
use Rattle.inlinespec.specs.TextTree.{inl, asked}
use Rattle.inlinespec.specs.ParsedText.{ParsedText}
use Rattle.htmlspec.specs.declared.options.Options.{Options}
use Rattle.htmlspec.specs.BlockHtml.{texts_html, blocks_html}
use Rattle.mdsource.specs.Setting.{Setting, Source}
use Rattle.mdsource.specs.LabelTable.{table}

-- a unit with its first line: its blocks, definitions and texts, what each of the texts reads as, and its HTML
pub record ViewedUnit : Type 0 where
  pub begin : ℕ
  pub unit : UnitTree
  pub readings : List ParsedText
  pub piece : List ℕ

-- the one reading of an inline text under a table of labels, and the labels that it asked for
abbrev pub reading_of : EntityTable → Table → List ℕ → ParsedText
reading_of entities labels text = record { tree = inl entities labels text; asked = asked entities labels text }

abbrev pub viewed_with : Options → FoundUnit → List ParsedText → ViewedUnit
viewed_with options found readings =
    record { begin = found.begin; unit = found.unit; readings = readings; piece = blocks_html options (texts_html options readings) false found.unit.blocks [] }

abbrev pub viewed : Setting → Table → FoundUnit → ViewedUnit
viewed setting labels found = viewed_with setting.options found (map (reading_of setting.entities labels) found.unit.texts)

-- the units of a document, each text read under the labels of the document and its prelude
abbrev pub view : Setting → Source → List ViewedUnit
view setting source = map (viewed setting (table setting.entities source)) (units setting.entities source.lines)
