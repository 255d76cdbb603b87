use Rattle.std.proofs.Common.{◌+◌, List, length, true, false, arith, ap, sym, ◌∙◌}
use Rattle.std.specs.List.{list_all}
use Rattle.mdscan.specs.declared.spans.Span.{Span}
use Rattle.mdscan.specs.TableRow.{row_cells}
use Rattle.mdscan.proofs.Rows.{no_cut, last_cell}
use Rattle.mdscan.proofs.Delimiters.{all_left, delimits, passed, counted, refused, at_last, none_delimits, all_delimit}
use Rattle.mdscan.proofs.delimiter_rows.columns.Goals as goal
use Rattle.mdscan.proofs.delimiter_rows.columns.Goals.{then-is_split+else-not-delimits, else-is_split}

pub loop-at-init : goal.loop-at-init
loop-at-init c =
    let e = all_left c.args.row.now c.inner-inner.result c.inner-inner.ensures.value in
    let n = ap (λ (xs : List Span). length xs) e in
    (omega arith, omega arith, ap (λ (xs : List Span). list_all (delimits c.args.row.now) xs) e, omega arith)

pub returns-then-not-delimits : goal.returns-then-not-delimits
returns-then-not-delimits c =
    let row = c.args.row.now in
    none_delimits row (refused row c.loop-at.start c.loop-at.at c.inner-inner.result.end (list_all (delimits row) (row_cells row)) (omega arith) (sym c.if-is_split.ensures) (sym c.if-not-delimits.ensures) c.loop-at.invariant.2)

pub loop-at-preserved : goal.loop-at-preserved
loop-at-preserved c =
    let row = c.args.row.now in
    let at = c.loop-at.at in
    let end = c.inner-inner.result.end in
    let all = list_all (delimits row) (row_cells row) in
    elim c.if-is_split.branch [
      | then-is_split+else-not-delimits w ↦
          let cut = sym c.is_split.ensures ∙ w.if-is_split.true in
          let f = passed row c.loop-at.start at end all (omega arith) cut (sym w.delimits.ensures ∙ w.if-not-delimits.false) c.loop-at.invariant.2 in
          let n = counted row c.loop-at.start at end c.loop-at.columns (length (row_cells row)) (omega arith) cut c.loop-at.invariant.3 in
          (omega arith, omega arith, rw w.start-is f, rw (w.start-is, w.columns-is) n)
      | else-is_split w ↦
          let e = no_cut row c.loop-at.start at end (omega arith) (sym c.is_split.ensures ∙ w.if-is_split.false) in
          let f = ap (λ (xs : List Span). list_all (delimits row) xs) (sym e) ∙ c.loop-at.invariant.2 in
          let n = ap (λ (xs : List Span). c.loop-at.columns + length xs) (sym e) ∙ c.loop-at.invariant.3 in
          (omega arith, omega arith, rw w.start-is f, rw (w.start-is, w.columns-is) n)
    ]

pub returns-then-delimits : goal.returns-then-delimits
returns-then-delimits c =
    let row = c.args.row.now in
    let end = c.inner-inner.result.end in
    let all = at_last row c.loop-at.start c.loop-at.at end (list_all (delimits row) (row_cells row)) true (omega arith) (sym c.if-delimits.ensures) c.loop-at.invariant.2 in
    let n = ap (λ (xs : List Span). length xs) (last_cell row c.loop-at.start c.loop-at.at end (omega arith)) in
    all_delimit row (c.loop-at.columns + 1) (sym c.if-not-holds.ensures) all (omega (arith, c.loop-at.invariant.3))

pub returns-else-delimits : goal.returns-else-delimits
returns-else-delimits c =
    let row = c.args.row.now in
    none_delimits row (at_last row c.loop-at.start c.loop-at.at c.inner-inner.result.end (list_all (delimits row) (row_cells row)) false (omega arith) (sym c.if-delimits.ensures) c.loop-at.invariant.2)
