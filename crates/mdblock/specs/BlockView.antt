-- The trees that the crate's values stand for.
use Rattle.std.specs.Prelude.{List, map, string_bytes}
use Rattle.blockspec.specs.BlockTree.{ListKind, bullet, ordered, Block, paragraph, heading, thematic_break, code_block, html_block, block_quote, list, table, Blocks, blocks_of, Items, items_of}
use Rattle.mdblock.specs.declared.blocks.ListKind as k
use Rattle.mdblock.specs.declared.blocks.ListKind.TheVariants as kv
use Rattle.mdblock.specs.declared.blocks.Block as b
use Rattle.mdblock.specs.declared.blocks.Block.TheOpen.{Block-F, Item-F}
use Rattle.mdblock.specs.declared.blocks.Item as i
use Rattle.mdblock.specs.declared.blocks.Block.TheFolds.{fold-Block, fold-Item}

abbrev pub kind_view : k.ListKind → ListKind
kind_view (kv.Bullet m) = bullet m
kind_view (kv.Ordered d s) = ordered d s

-- one level of a block, and of an item, with what is inside already seen as its tree
abbrev pub block_step : Block-F Block Blocks → Block
block_step (Block-F.Paragraph t k) = paragraph t k
block_step (Block-F.Heading l t) = heading l t
block_step Block-F.Break = thematic_break
block_step (Block-F.Code l m t) = code_block (string_bytes l) (string_bytes m) (string_bytes t)
block_step (Block-F.Html s) = html_block (string_bytes s)
block_step (Block-F.Quote v) = block_quote (blocks_of v.items)
block_step (Block-F.List k t v) = list (kind_view k) t (items_of v.items)
block_step (Block-F.Table a h r) = table a.items h.items (map (λ v. v.items) r.items)

abbrev pub item_step : Item-F Block Blocks → Blocks
item_step f = blocks_of f.blocks.items

abbrev pub block_view : b.Block → Block
block_view = fold-Block Block Blocks block_step item_step

abbrev pub item_view : i.Item → Blocks
item_view = fold-Item Block Blocks block_step item_step

abbrev pub blocks_view : List b.Block → Blocks
blocks_view bs = blocks_of (map block_view bs)

abbrev pub items_view : List i.Item → Items
items_view is = items_of (map item_view is)
