-- The HTML of a unit under a table of labels, and whether a text of it has too many spans in one another.
use Rattle.std.specs.Prelude.{ℕ, Bool, List, [], false, map, nat_lt}
use Rattle.std.specs.List.{list_any}
use Rattle.mdtext.specs.EntityTable.{EntityTable}
use Rattle.inlinespec.specs.LinkTails.{Table}
use Rattle.inlinespec.specs.Nesting.{nest}
use Rattle.inlinespec.specs.TextTree.{inl}
use Rattle.blockspec.specs.UnitTree.{UnitTree}
use Rattle.htmlspec.specs.declared.options.Options.{Options}
use Rattle.htmlspec.specs.InlineHtml.{inlines_html}
use Rattle.htmlspec.specs.BlockHtml.{blocks_html}

-- the HTML of a text, as it reads under a table of labels
abbrev pub read_html : Options → EntityTable → Table → List ℕ → List ℕ
read_html options entities table text = inlines_html options (inl entities table text)

-- the HTML of a unit whose texts are read under a table of labels
abbrev pub written_unit : Options → EntityTable → Table → UnitTree → List ℕ
written_unit options entities table unit = blocks_html options (map (read_html options entities table) unit.texts) false unit.blocks []

-- a text reads with more spans in one another than the options allow
abbrev pub is_deep_text : Options → EntityTable → Table → List ℕ → Bool
is_deep_text options entities table text = nat_lt options.max_spans (nest (inl entities table text))

-- a text of the unit does
abbrev pub is_deep_unit : Options → EntityTable → Table → UnitTree → Bool
is_deep_unit options entities table unit = list_any (is_deep_text options entities table) unit.texts
