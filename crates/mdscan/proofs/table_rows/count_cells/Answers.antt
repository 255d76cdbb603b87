use Rattle.std.proofs.Common.{arith, sym, ◌∙◌}
use Rattle.mdscan.proofs.Rows.{all_cells, bar_here, no_bar, no_bars}
use Rattle.mdscan.proofs.table_rows.count_cells.Goals as goal
use Rattle.mdscan.proofs.table_rows.count_cells.Goals.{then-is_split, else-is_split}

pub loop-at-init : goal.loop-at-init
loop-at-init c = (omega arith, all_cells c.args.row.now c.inner-inner.result c.inner-inner.ensures.value)

pub loop-at-preserved : goal.loop-at-preserved
loop-at-preserved c =
    let row = c.args.row.now in
    let at = c.loop-at.at in
    let end = c.inner-inner.result.end in
    let so_far = c.loop-at.invariant.1 in
    elim c.if-is_split.branch [
      | then-is_split w ↦
          let n = bar_here row at end (omega arith) (sym c.is_split.ensures ∙ w.if-is_split.true) in
          let e = w.count-is in
          (omega arith, omega arith)
      | else-is_split w ↦
          let n = no_bar row at end (omega arith) (sym c.is_split.ensures ∙ w.if-is_split.false) in
          let e = w.count-is in
          (omega arith, omega arith)
    ]

pub returns : goal.returns
returns c =
    let n = no_bars c.args.row.now c.loop-at.at c.inner-inner.result.end (omega arith) in
    let so_far = c.loop-at.invariant.1 in
    omega arith
