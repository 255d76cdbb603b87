use Rattle.std.proofs.Common.{List, ℕ, sym, subst, ◌∙◌, ap}
use Rattle.std.specs.List.{All}
use Rattle.std.proofs.lemmas.Result.{IfOk-weaker}
use Rattle.mdscan.specs.declared.spans.Span.{Span}
use Rattle.mdscan.specs.Spans.{IsSpanOf}
use Rattle.mdscan.specs.TableRow.{row_cells}
use Rattle.mdscan.proofs.CellSpans.{cells_are_spans}
use Rattle.mdscan.proofs.table_rows.cells.Goals as goal

pub returns-clause-spans : goal.returns-clause-spans
returns-clause-spans c =
    let row = c.args.row.now in
    IfOk-weaker c.cells_of.result _ _ (λ cells h. subst (λ (xs : List Span). All (IsSpanOf row) xs) (sym (h ∙ ap (λ (t : List ℕ). row_cells t) c.as_bytes.ensures.value)) (cells_are_spans row c.utf8.row)) c.cells_of.ensures
