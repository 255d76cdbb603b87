use Rattle.std.proofs.Common.{◌++◌, map, refl, subst}
use Rattle.std.specs.List.{flat_map}
use Rattle.mdblock.specs.Copies.{IsBehind}
use Rattle.mdblock.proofs.CopySteps.{next_first}
use Rattle.mdblock.proofs.TextOrder.{behind_both, behind_more}
use Rattle.mdblock.proofs.text_order.behind_table.Goals as goal

pub loop-row-init : goal.loop-row-init
loop-row-init c = λ end v. behind_both c.args.at c.in_ok-next.next end c.args.head.now (flat_map (λ row. row) (map (λ row. row.items) c.args.rows.now)) c.in_ok-next.ensures v

pub loop-row-preserved : goal.loop-row-preserved
loop-row-preserved c =
    let all = c.args.rows.now in
    let n = c.loop-row.row-index in
    let x = c.row-item.result in
    behind_more (IsBehind c.args.at (c.args.head.now ++ flat_map (λ row. row) (map (λ row. row.items) all))) all n c.loop-row.next c.in_ok-next-2.next x x.items
    (λ rows. flat_map (λ row. row) (map (λ row. row.items) rows)) (next_first all n x c.loop-row-test.true c.row-item.is) refl c.loop-row.invariant
    (subst (λ z. IsBehind c.loop-row.next z c.in_ok-next-2.next) c.deref.ensures.value c.in_ok-next-2.ensures)
