use Rattle.std.proofs.Common.{refl}
use Rattle.mdblock.specs.BlockView.{block_view, blocks_view, item_view, items_view}
use Rattle.mdblock.specs.Copies.{IsBehind, block_positions, blocks_positions, items_positions}
use Rattle.mdblock.proofs.CopySteps.{next_first}
use Rattle.mdblock.proofs.TextOrder.{behind_more}
use Rattle.mdblock.proofs.text_order.+block.Goals as goal

pub behind_blocks-loop-block-preserved : goal.behind_blocks-loop-block-preserved
behind_blocks-loop-block-preserved t c =
    let all = c.args.blocks.now in
    let n = c.loop-block.block-index in
    let x = c.block-item.result in
    behind_more (IsBehind c.args.at (blocks_positions (blocks_view all))) all n c.loop-block.next c.in_ok-next.next x (block_positions (block_view x)) (λ bs. blocks_positions (blocks_view bs))
    (next_first all n x c.loop-block-test.true c.block-item.is) refl c.loop-block.invariant c.in_ok-next.ensures

pub behind_items-loop-item-preserved : goal.behind_items-loop-item-preserved
behind_items-loop-item-preserved t c =
    let all = c.args.items.now in
    let n = c.loop-item.item-index in
    let x = c.item-item.result in
    behind_more (IsBehind c.args.at (items_positions (items_view all))) all n c.loop-item.next c.in_ok-next.next x (blocks_positions (item_view x)) (λ is. items_positions (items_view is))
    (next_first all n x c.loop-item-test.true c.item-item.is) refl c.loop-item.invariant c.in_ok-next.ensures
