-- Each text and cell of what is still open is a position below n.
use Rattle.std.specs.Prelude.{ℕ, map, IfSome}
use Rattle.std.specs.List.{AllByRecursion}
use Rattle.mdblock.specs.BlockView.{block_view, blocks_view, items_view}
use Rattle.mdblock.specs.Positions.{CellsIn, BlockIn, BlocksIn, ItemsIn}
use Rattle.mdblock.specs.declared.leaf.Leaf.{Leaf}
use Rattle.mdblock.specs.declared.leaf.Leaf.TheVariants as leaf
use Rattle.mdblock.specs.declared.leaf.LeafAfter.{LeafAfter}
use Rattle.mdblock.specs.declared.leaf.tables.Table.{Table}
use Rattle.mdblock.specs.declared.open_blocks.Level.{Level}
use Rattle.mdblock.specs.declared.open_blocks.OpenBlock.{OpenBlock}
use Rattle.mdblock.specs.declared.open_blocks.OpenBlock as open_block

abbrev pub TableIn : ℕ → Table → Type 0
TableIn n t = CellsIn n t.head.items × AllByRecursion (CellsIn n) (map (λ row. row.items) t.rows.items)

abbrev pub LeafIn : ℕ → Leaf → Type 0
LeafIn n (leaf.Paragraph p) = Unit {0}
LeafIn n (leaf.Fence f) = Unit {0}
LeafIn n (leaf.Html h) = Unit {0}
LeafIn n (leaf.Code c) = Unit {0}
LeafIn n (leaf.Table t) = TableIn n t

abbrev pub LeafAfterIn : ℕ → LeafAfter → Type 0
LeafAfterIn n step = IfSome step.over (λ block. BlockIn n (block_view block)) × IfSome step.going (LeafIn n)

abbrev pub OpenBlockIn : ℕ → OpenBlock → Type 0
OpenBlockIn n open_block.Shut = Unit {0}
OpenBlockIn n (open_block.Leaf leaf) = LeafIn n leaf
OpenBlockIn n (open_block.Quote' p over last in_item begun blank spaced) = BlocksIn n (blocks_view over.items) × OpenBlockIn n last
OpenBlockIn n (open_block.List' p over last in_item begun blank spaced list) =
    (BlocksIn n (blocks_view over.items) × OpenBlockIn n last) × ItemsIn n (items_view list.items.items)

abbrev pub LevelIn : ℕ → Level → Type 0
LevelIn n level = BlocksIn n (blocks_view level.over.items) × OpenBlockIn n level.last
