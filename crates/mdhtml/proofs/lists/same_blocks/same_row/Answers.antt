use Rattle.std.proofs.Common.{◌≡◌, ◌-◌, ◌+◌, ◌≤◌, ℕ, List, [], ◌∷◌, drop, take, length, get_or, arith, sym, ap}
use Rattle.std.proofs.lemmas.List.{take_rest, get_or_default}
use Rattle.mdhtml.proofs.AlikeBlocks.{like_more, like_cells}
use Rattle.mdhtml.specs.held.Alike.{CellsAlike}
use Rattle.mdhtml.proofs.lists.same_blocks.same_row.Goals as goal

first_cell : (rest : List ℕ) → 1 ≤ length rest → rest ≡ get_or rest 0 0 ∷ take (length rest - 1) (drop 1 rest)
first_cell [] h = absurd (omega (arith, h))
first_cell (y ∷ rest) h = ap (λ z. y ∷ z) (sym (take_rest (y ∷ rest) 1))

pub loop-cell-preserved : goal.loop-cell-preserved
loop-cell-preserved c = λ v.
    let s = c.args.shared in
    let all = c.args.cells.now in
    let n = c.loop-cell.cell-index in
    let rest = c.loop-cell.rest.now in
    like_more (CellsAlike s) (CellsAlike s all c.args.like.now) all n (get_or all n 0) rest (take (length rest - 1) (drop 1 rest)) (get_or rest 0 0) c.loop-cell-test.true (get_or_default all n 0 (get_or all n 0) c.loop-cell-test.true) (first_cell rest (omega arith))
    (like_cells s (get_or all n 0) (get_or rest 0 0) (drop (n + 1) all) (take (length rest - 1) (drop 1 rest)) (c.same_text.ensures c.if-not-same_text.false)) c.loop-cell.invariant v
