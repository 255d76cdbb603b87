use Rattle.std.proofs.Common.{◌≡◌, ◌+◌, ◌++◌, drop, length, map, string_bytes}
use Rattle.mdblock.specs.BlockView.{blocks_view, items_view}
use Rattle.mdblock.specs.held.TreesBehind.{blocks_before, placed_before}
use Rattle.mdblock.specs.Copies.{blocks_positions, items_positions, copied_blocks, copied_items, texts_at}
use Rattle.mdblock.proofs.copies.+block.Given as goal

abbrev pub invariant-items_from-loop-item : goal.invariant-items_from-loop-item
invariant-items_from-loop-item l = record {
  copies : placed_before (items_view l.copies.items) (copied_items (l.from.before + length (map string_bytes l.copied.items)) (items_view (drop l.item-index l.items))) ≡ copied_items (l.from.before + length (map string_bytes l.fn.copied.items)) (items_view l.items);
  texts : map string_bytes l.copied.items ++ texts_at (map string_bytes l.from.texts.now) (items_positions (items_view (drop l.item-index l.items))) ≡ map string_bytes l.fn.copied.items ++ texts_at (map string_bytes l.from.texts.now) (items_positions (items_view l.items));
}

abbrev pub invariant-blocks_from-loop-block : goal.invariant-blocks_from-loop-block
invariant-blocks_from-loop-block l = record {
  copies : blocks_before (blocks_view l.copies.items) (copied_blocks (l.from.before + length (map string_bytes l.copied.items)) (blocks_view (drop l.block-index l.blocks))) ≡ copied_blocks (l.from.before + length (map string_bytes l.fn.copied.items)) (blocks_view l.blocks);
  texts : map string_bytes l.copied.items ++ texts_at (map string_bytes l.from.texts.now) (blocks_positions (blocks_view (drop l.block-index l.blocks))) ≡ map string_bytes l.fn.copied.items ++ texts_at (map string_bytes l.from.texts.now) (blocks_positions (blocks_view l.blocks));
}
