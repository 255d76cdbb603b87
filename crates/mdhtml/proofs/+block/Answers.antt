use Rattle.std.proofs.Common.{◌≡◌, refl}
use Rattle.blockspec.specs.BlockTree.{Block, Blocks}
use Rattle.mdblock.specs.BlockView.{block_step, blocks_view, item_step, item_view}
use Rattle.mdblock.specs.declared.blocks.Block.TheFolds.{fold_out-Item}
use Rattle.mdblock.specs.declared.blocks.Block.TheViews.{out-Item}
use Rattle.mdblock.specs.declared.blocks.Item as i
use Rattle.mdhtml.proofs.+block.Goals as goal

-- an item is seen as its blocks
item_blocks : (x : i.Item) → item_view x ≡ blocks_view (out-Item x).blocks.items
item_blocks = fold_out-Item Block Blocks block_step item_step

pub block_quotes::write_quote-returns : goal.block_quotes::write_quote-returns
block_quotes::write_quote-returns t c =
    rw (c.in_ok-push_str-2.ensures.bytes, c.in_ok-write_fresh-2.ensures, c.in_ok-write_blocks.ensures, c.in_ok-push_str.ensures.bytes, c.in_ok-write_fresh.ensures) refl

pub lists::items::write_item-returns : goal.lists::items::write_item-returns
lists::items::write_item-returns t c =
    rw (c.in_ok-push_str-2.ensures.bytes, c.in_ok-write_blocks.ensures, c.deref.ensures.value, c.in_ok-push_str.ensures.bytes, c.in_ok-write_fresh.ensures, item_blocks c.args.item.now) refl
