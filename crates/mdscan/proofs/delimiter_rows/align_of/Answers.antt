use Rattle.std.proofs.Common.{ℕ, List, ◌∷◌, [], slice_get, arith, ap, sym, ◌∙◌}
use Rattle.mdscan.specs.declared.spans.Span.{Span}
use Rattle.mdscan.specs.TableRow.{cell}
use Rattle.mdscan.specs.DelimiterRow.{align_of, column_align}
use Rattle.mdscan.proofs.Rows.{rest_cells}
use Rattle.mdscan.proofs.Delimiters.{all_left, aligned_here, aligned_later, aligned_on, aligned_last, past_last}
use Rattle.mdscan.proofs.delimiter_rows.align_of.Goals as goal
use Rattle.mdscan.proofs.delimiter_rows.align_of.Goals.{then-is_split+else-left-eq0, else-is_split}

pub loop-at-init : goal.loop-at-init
unfolding column_align
loop-at-init c = (omega arith, ap (λ (xs : List Span). align_of c.args.row.now (slice_get xs c.args.column)) (all_left c.args.row.now c.inner-inner.result c.inner-inner.ensures.value))

pub returns-then-left-eq0 : goal.returns-then-left-eq0
returns-then-left-eq0 c =
    let row = c.args.row.now in
    let end = c.inner-inner.result.end in
    c.cell_align.ensures
    ∙ (sym (aligned_here row c.loop-at.start c.loop-at.at end (omega arith) (sym c.if-is_split.ensures))
    ∙ (ap (λ (n : ℕ). align_of row (slice_get (rest_cells row c.loop-at.start c.loop-at.at end) n)) (sym c.if-left-eq0.true) ∙ c.loop-at.invariant.1))

pub loop-at-preserved : goal.loop-at-preserved
loop-at-preserved c =
    let row = c.args.row.now in
    let at = c.loop-at.at in
    let end = c.inner-inner.result.end in
    elim c.if-is_split.branch [
      | then-is_split+else-left-eq0 w ↦
          let f = sym (aligned_later row c.loop-at.start at end c.loop-at.left (omega arith) (sym c.is_split.ensures ∙ w.if-is_split.true) (omega arith)) ∙ c.loop-at.invariant.1 in
          (omega arith, rw (w.start-is, w.left-is) f)
      | else-is_split w ↦
          let f = sym (aligned_on row c.loop-at.start at end c.loop-at.left (omega arith) (sym c.is_split.ensures ∙ w.if-is_split.false)) ∙ c.loop-at.invariant.1 in
          (omega arith, rw (w.start-is, w.left-is) f)
    ]

pub returns-then-left-eq0-2 : goal.returns-then-left-eq0-2
returns-then-left-eq0-2 c =
    let row = c.args.row.now in
    let end = c.inner-inner.result.end in
    c.cell_align-then-left-eq0-2.ensures
    ∙ (ap (λ (n : ℕ). align_of row (slice_get (cell row c.loop-at.start end ∷ []) n)) (sym c.if-left-eq0-2.true)
    ∙ (sym (aligned_last row c.loop-at.start c.loop-at.at end c.loop-at.left (omega arith)) ∙ c.loop-at.invariant.1))

pub returns-else-left-eq0-2 : goal.returns-else-left-eq0-2
returns-else-left-eq0-2 c =
    let row = c.args.row.now in
    let end = c.inner-inner.result.end in
    past_last row (cell row c.loop-at.start end) c.loop-at.left (omega arith)
    ∙ (sym (aligned_last row c.loop-at.start c.loop-at.at end c.loop-at.left (omega arith)) ∙ c.loop-at.invariant.1)
