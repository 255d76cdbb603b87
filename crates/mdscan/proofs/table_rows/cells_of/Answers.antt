use Rattle.std.proofs.Common.{◌≡◌, ◌+◌, ◌++◌, ◌∷◌, [], ℕ, arith, sym, subst, ◌∙◌}
use Rattle.mdscan.specs.TableRow.{row_cells}
use Rattle.mdscan.proofs.BarSearch.{cells_reach}
use Rattle.mdscan.proofs.Rows.{rest_cells, cell_more, cell_goes_on, cells_done}
use Rattle.mdscan.proofs.table_rows.cells_of.Goals as goal
use Rattle.mdscan.proofs.table_rows.cells_of.Goals.{then-is_split+in_ok-push, else-is_split}

pub loop-bar-preserved : goal.loop-bar-preserved
loop-bar-preserved c =
    let row = c.args.row.now in
    let bar = c.in-Some.bar in
    let end = c.inner-inner.result.end in
    let was = c.loop-bar.cells.items in
    let now = c.if-is_split.cells.items in
    let found = c.in-Some.ensures.found in
    let there = cells_reach row was (row_cells row) c.loop-bar.start c.loop-bar.at bar end found.0 (omega (arith, found.1)) found.2 c.loop-bar.invariant.2 in
    elim c.if-is_split.branch [
      | then-is_split+in_ok-push w ↦
          let e : now ≡ was ++ w.cell_at.result ∷ [] = cc (w.in_ok-push.ensures.items) in
          let f = cell_more row was now (row_cells row) c.loop-bar.start bar end w.cell_at.result found.1 (sym c.is_split.ensures ∙ w.if-is_split.true) w.cell_at.ensures.value e there in
          (omega arith, omega (arith, found.1), subst (λ (s : ℕ). now ++ rest_cells row s (bar + 1) end ≡ row_cells row) (sym w.start-is) f)
      | else-is_split w ↦
          let f = cell_goes_on row was (row_cells row) c.loop-bar.start bar end found.1 (sym c.is_split.ensures ∙ w.if-is_split.false) there in
          let e : now ≡ was = cc in
          (omega (arith, found.0, c.loop-bar.invariant.0), omega (arith, found.1), rw (e, w.start-is) f)
    ]

pub returns : goal.returns
returns c =
    let row = c.args.row.now in
    let end = c.inner-inner.result.end in
    let was = c.loop-bar.cells.items in
    let none = rw c.in_default.is at c.bar_from.ensures.none in
    let there = cells_reach row was (row_cells row) c.loop-bar.start c.loop-bar.at end end c.loop-bar.invariant.1 (omega arith) none c.loop-bar.invariant.2 in
    cells_done row was c.push-2.new.self.items (row_cells row) c.loop-bar.start end end c.cell_at-2.result (omega arith) c.cell_at-2.ensures.value c.in_ok-push-2.ensures.items there
