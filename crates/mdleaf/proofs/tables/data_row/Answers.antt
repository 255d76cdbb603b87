use Rattle.std.proofs.Common.{◌≡◌, ◌-◌, ◌++◌, ◌∷◌, [], ap, ◌∙◌, arith, drop, map, slice_get, string_bytes}
use Rattle.std.proofs.lemmas.List.{map-append}
use Rattle.mdleaf.specs.Tables.{filled, row_texts, text_at}
use Rattle.mdleaf.proofs.CellTexts.{column_more, columns_done}
use Rattle.mdleaf.proofs.tables.data_row.Goals as goal

pub loop-column-init : goal.loop-column-init
loop-column-init c =
    let texts = row_texts c.args.row.now in
    let all : c.args.columns - 0 ≡ c.args.columns = omega arith in
    ap (λ xs. map string_bytes xs ++ filled (c.args.columns - 0) texts) c.in_ok-texts.ensures.items ∙ ap (λ n. filled n texts) all

pub loop-column-preserved : goal.loop-column-preserved
loop-column-preserved c =
    let row = c.args.row.now in
    let so_far = map string_bytes c.loop-column.texts.items in
    let one = c.in_ok-column_text.field-0 in
    let text = c.in_ok-column_text.ensures ∙ ap (λ xs. text_at row (slice_get xs c.loop-column.column)) c.deref.ensures.value in
    let pushed = ap (map string_bytes) c.in_ok-push.ensures.items ∙ map-append string_bytes c.loop-column.texts.items (one ∷ []) in
    column_more row c.in_ok-spans.spans.items c.args.columns c.loop-column.column so_far (map string_bytes c.push.new.self.items) (filled c.args.columns (row_texts row)) (string_bytes one)
    c.in_ok-spans.ensures.items c.loop-column-test.true text pushed c.loop-column.invariant

pub returns : goal.returns
returns c =
    columns_done c.args.columns c.loop-column.column (drop c.loop-column.column (row_texts c.args.row.now)) (map string_bytes c.loop-column.texts.items) (filled c.args.columns (row_texts c.args.row.now)) c.loop-column-test.false c.loop-column.invariant
