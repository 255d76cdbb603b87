use Rattle.std.proofs.Common.{ℕ, drop}
use Rattle.mdblock.specs.BlockView.{blocks_view, items_view}
use Rattle.mdblock.specs.Copies.{IsBehind, blocks_positions, items_positions}
use Rattle.mdblock.proofs.text_order.+block.Given as goal

abbrev pub invariant-behind_items-loop-item : goal.invariant-behind_items-loop-item
invariant-behind_items-loop-item l = (end : ℕ) → IsBehind l.next (items_positions (items_view (drop l.item-index l.items))) end → IsBehind l.fn.at (items_positions (items_view l.items)) end

abbrev pub invariant-behind_blocks-loop-block : goal.invariant-behind_blocks-loop-block
invariant-behind_blocks-loop-block l = (end : ℕ) → IsBehind l.next (blocks_positions (blocks_view (drop l.block-index l.blocks))) end → IsBehind l.fn.at (blocks_positions (blocks_view l.blocks)) end
