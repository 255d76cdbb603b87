-- What the reading of a text is, as it is held.
use Rattle.std.specs.Prelude.{[], ◌∷◌}
use Rattle.inlinespec.specs.InlineTree.{Inlines, no_inlines}
use Rattle.inlinespec.specs.ParsedText.{ParsedText}
use Rattle.mdinline.specs.TreeView.{inlines_view}
use Rattle.mdinline.specs.declared.parsed.Held as held
use Rattle.mdinline.specs.declared.parsed.Held.TheVariants.{Empty, Shared}
use Rattle.mdinline.specs.declared.rows.Row as rows
use Rattle.mdinline.specs.declared.rows.Row.TheVariants as row

abbrev pub row_view : rows.Row → Inlines
row_view row.Empty = no_inlines
row_view (row.One i) = inlines_view (i ∷ [])
row_view (row.Many is) = inlines_view is.items

abbrev pub held_view : held.Held → ParsedText
held_view (Empty asked) = record { tree = no_inlines; asked = asked }
held_view (Shared reading) = record { tree = row_view reading.value.row; asked = reading.value.asked }
