use Rattle.std.proofs.Common.{◌+◌, length, map, string_bytes}
use Rattle.mdblock.specs.BlockView.{item_view}
use Rattle.mdblock.specs.Copies.{blocks_positions}
use Rattle.mdblock.proofs.CopySteps.{all_blocks_copied, all_items_copied, block_copied, block_texts, item_placed, item_texts, more_before}
use Rattle.mdblock.proofs.copies.+block.Goals as goal

pub blocks_from-loop-block-preserved : goal.blocks_from-loop-block-preserved
blocks_from-loop-block-preserved t c =
    let all = c.args.blocks.now in
    let n = c.loop-block.block-index in
    let old = map string_bytes c.loop-block.copied.items in
    let new = map string_bytes c.block_from.new.copied.items in
    let T = map string_bytes c.args.from.now.texts.now in
    let b = c.args.from.now.before in
    record {
      copies = block_copied c.loop-block.copies.items c.push.new.self.items all c.in_ok-copy.copy c.block-item.result n b old new T _ c.loop-block-test.true c.block-item.is c.in_ok-push.ensures.items
          c.in_ok-copy.ensures.copies c.in_ok-copy.ensures.texts c.loop-block.invariant.copies;
      texts = block_texts all c.block-item.result n old new T _ c.loop-block-test.true c.block-item.is c.in_ok-copy.ensures.texts c.loop-block.invariant.texts;
    }

pub blocks_from-returns-clause-copies : goal.blocks_from-returns-clause-copies
blocks_from-returns-clause-copies t c =
    all_blocks_copied c.loop-block.copies.items c.args.blocks.now c.loop-block.block-index _ _ c.loop-block-test.false c.loop-block.invariant.copies

pub items_from-loop-item-preserved : goal.items_from-loop-item-preserved
items_from-loop-item-preserved t c =
    let all = c.args.items.now in
    let n = c.loop-item.item-index in
    let old = map string_bytes c.loop-item.copied.items in
    let new = map string_bytes c.item_from.new.copied.items in
    let T = map string_bytes c.args.from.now.texts.now in
    let b = c.args.from.now.before in
    record {
      copies = item_placed c.loop-item.copies.items c.push.new.self.items all c.in_ok-copy.copy c.item-item.result n (b + length old) (b + length new) _ c.loop-item-test.true c.item-item.is
          c.in_ok-push.ensures.items c.in_ok-copy.ensures.copies (more_before b old new T (blocks_positions (item_view c.item-item.result)) c.in_ok-copy.ensures.texts) c.loop-item.invariant.copies;
      texts = item_texts all c.item-item.result n old new T _ c.loop-item-test.true c.item-item.is c.in_ok-copy.ensures.texts c.loop-item.invariant.texts;
    }

pub items_from-returns-clause-copies : goal.items_from-returns-clause-copies
items_from-returns-clause-copies t c =
    all_items_copied c.loop-item.copies.items c.args.items.now c.loop-item.item-index _ _ c.loop-item-test.false c.loop-item.invariant.copies
