use Rattle.std.proofs.Common.{drop}
use Rattle.mdblock.specs.BlockView.{blocks_view, items_view}
use Rattle.mdhtml.specs.held.Alike.{BlocksAlike, ItemsAlike}
use Rattle.mdhtml.proofs.lists.same_blocks.+block.Given as goal

abbrev pub invariant-same_items-loop-item : goal.invariant-same_items-loop-item
invariant-same_items-loop-item l =
    ItemsAlike l.shared (items_view (drop l.item-index l.items)) (items_view l.rest) → ItemsAlike l.shared (items_view l.items) (items_view l.like)

abbrev pub invariant-same_blocks-loop-block : goal.invariant-same_blocks-loop-block
invariant-same_blocks-loop-block l =
    BlocksAlike l.shared (blocks_view (drop l.block-index l.blocks)) (blocks_view l.rest) → BlocksAlike l.shared (blocks_view l.blocks) (blocks_view l.like)
