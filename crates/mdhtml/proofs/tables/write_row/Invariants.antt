use Rattle.std.proofs.Common.{◌≡◌, ◌++◌, codes, string_bytes, drop, length}
use Rattle.mdblock.specs.Positions.{CellsIn}
use Rattle.mdhtml.specs.held.CellTags.{tag_of}
use Rattle.mdhtml.specs.held.UnitTexts.{shown_texts}
use Rattle.htmlspec.specs.TableHtml.{cells_html}
use Rattle.mdhtml.proofs.tables.write_row.Given as goal

abbrev pub invariant-loop-column : goal.invariant-loop-column
invariant-loop-column l = record {
  within : CellsIn (length (shown_texts l.texts)) (drop l.column l.cells);
  written : string_bytes l.out ++ cells_html l.texts.options.now (shown_texts l.texts) (tag_of l.kind) l.aligns l.column (drop l.column l.cells)
      ≡ string_bytes l.fn.out ++ codes "<tr>\n" ++ cells_html l.texts.options.now (shown_texts l.texts) (tag_of l.kind) l.aligns 0 l.cells;
}
