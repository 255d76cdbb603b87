use Rattle.std.proofs.Common.{◌≡◌, ◌++◌, codes, string_bytes, drop, length, map}
use Rattle.std.specs.List.{AllByRecursion}
use Rattle.mdblock.specs.Positions.{CellsIn}
use Rattle.mdhtml.specs.held.UnitTexts.{shown_texts}
use Rattle.htmlspec.specs.TableHtml.{rows_html}
use Rattle.mdhtml.proofs.tables.write_body.Given as goal

abbrev pub invariant-loop-row : goal.invariant-loop-row
invariant-loop-row l = record {
  within : AllByRecursion (CellsIn (length (shown_texts l.texts))) (map (λ row. row.items) (drop l.row-index l.rows));
  written : string_bytes l.out ++ rows_html l.texts.options.now (shown_texts l.texts) l.aligns (map (λ row. row.items) (drop l.row-index l.rows))
      ≡ string_bytes l.fn.out ++ codes "<tbody>\n" ++ rows_html l.texts.options.now (shown_texts l.texts) l.aligns (map (λ row. row.items) l.rows);
}
