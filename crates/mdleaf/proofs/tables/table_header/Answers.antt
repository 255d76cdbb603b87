use Rattle.std.proofs.Common.{◌≡◌, ap, arith, length, map, string_bytes, sym, ◌∙◌}
use Rattle.std.proofs.lemmas.List.{length-map}
use Rattle.mdleaf.specs.Tables.{filled, row_texts}
use Rattle.mdleaf.proofs.CellTexts.{header_is, header_size}
use Rattle.mdleaf.proofs.tables.table_header.Goals as goal

pub returns-clause-header : goal.returns-clause-header
returns-clause-header c =
    let size : c.len.result ≡ length c.in_ok-aligns.aligns.items = omega arith in
    header_is c.args.head.now c.args.delimiters.now c.in_ok-aligns.aligns.items (map string_bytes c.in_ok-cells.cells.items) (sym c.begins_table.ensures ∙ c.if-not-begins_table.false) c.in_ok-aligns.ensures
    (c.in_ok-cells.ensures ∙ ap (λ n. filled n (row_texts c.args.head.now)) size)

pub returns-clause-columns : goal.returns-clause-columns
returns-clause-columns c =
    let size : c.len.result ≡ length c.in_ok-aligns.aligns.items = omega arith in
    header_size c.in_ok-aligns.aligns.items (map string_bytes c.in_ok-cells.cells.items) (row_texts c.args.head.now) (c.in_ok-cells.ensures ∙ ap (λ n. filled n (row_texts c.args.head.now)) size)
    ∙ length-map c.in_ok-cells.cells.items string_bytes
