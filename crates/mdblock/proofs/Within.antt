-- Positions below a number lie below each greater one, and lists of blocks grow at their ends.
use Rattle.std.proofs.Common.{ℕ, Vec, Global, Option, Some, None, IfSome, ◌<◌, ◌≤◌, List, [], ◌∷◌, ◌++◌, map, arith}
use Rattle.std.specs.List.{AllByRecursion}
use Rattle.blockspec.specs.BlockTree.{Block, paragraph, heading, thematic_break, code_block, html_block, block_quote, list, table, Blocks, no_blocks, block, Items, no_items, item}
use Rattle.mdblock.specs.BlockView.{block_view, blocks_view, item_view, items_view}
use Rattle.mdblock.specs.declared.blocks.Block as b
use Rattle.mdblock.specs.declared.blocks.Item as i
use Rattle.mdblock.specs.declared.open_blocks.OpenBlock.{OpenBlock}
use Rattle.mdblock.specs.declared.open_blocks.OpenBlock as open_block
use Rattle.mdblock.specs.declared.leaf.Leaf.{Leaf}
use Rattle.mdblock.specs.declared.leaf.Leaf.TheVariants as leaf
use Rattle.mdblock.specs.declared.leaf.tables.Table.{Table}
use Rattle.mdblock.specs.declared.open_blocks.Level.{Level}
use Rattle.mdblock.specs.Positions.{CellsIn, BlockIn, BlocksIn, ItemsIn}
use Rattle.mdblock.specs.held.OpenPositions.{TableIn, LeafIn, OpenBlockIn, LevelIn}

pub cells_grow : (n m : ℕ) (cells : List ℕ) → n ≤ m → CellsIn n cells → CellsIn m cells
cells_grow n m [] le h = h
cells_grow n m (c ∷ cs) le h = let here : c < n = h.0 in (omega arith, cells_grow n m cs le h.1)

pub rows_grow : (n m : ℕ) (rows : List (List ℕ)) → n ≤ m → AllByRecursion (CellsIn n) rows → AllByRecursion (CellsIn m) rows
rows_grow n m [] le h = h
rows_grow n m (r ∷ rs) le h = (cells_grow n m r le h.0, rows_grow n m rs le h.1)

pub rows_push : (n : ℕ) (rows : List (Vec ℕ Global)) (row : Vec ℕ Global) → AllByRecursion (CellsIn n) (map (λ r. r.items) rows) → CellsIn n row.items → AllByRecursion (CellsIn n) (map (λ r. r.items) (rows ++ row ∷ []))
rows_push n [] row h here = (here, h)
rows_push n (r ∷ rs) row h here = (h.0, rows_push n rs row h.1 here)

mutual
  pub block_grows : (n m : ℕ) (b : Block) → n ≤ m → BlockIn n b → BlockIn m b
  block_grows n m (paragraph at task) le h = omega arith
  block_grows n m (heading level at) le h = omega arith
  block_grows n m thematic_break le h = h
  block_grows n m (code_block lang meta body) le h = h
  block_grows n m (html_block lines) le h = h
  block_grows n m (block_quote bs) le h = blocks_grow n m bs le h
  block_grows n m (list kind tight is) le h = items_grow n m is le h
  block_grows n m (table aligns head rows) le h = (cells_grow n m head le h.0, rows_grow n m rows le h.1)

  pub blocks_grow : (n m : ℕ) (bs : Blocks) → n ≤ m → BlocksIn n bs → BlocksIn m bs
  blocks_grow n m no_blocks le h = h
  blocks_grow n m (block b bs) le h = (block_grows n m b le h.0, blocks_grow n m bs le h.1)

  pub items_grow : (n m : ℕ) (is : Items) → n ≤ m → ItemsIn n is → ItemsIn m is
  items_grow n m no_items le h = h
  items_grow n m (item bs is) le h = (blocks_grow n m bs le h.0, items_grow n m is le h.1)

pub blocks_push : (n : ℕ) (bs : List b.Block) (x : b.Block) → BlocksIn n (blocks_view bs) → BlockIn n (block_view x) → BlocksIn n (blocks_view (bs ++ x ∷ []))
blocks_push n [] x h here = (here, h)
blocks_push n (b ∷ bs) x h here = (h.0, blocks_push n bs x h.1 here)

pub items_push : (n : ℕ) (is : List i.Item) (x : i.Item) → ItemsIn n (items_view is) → BlocksIn n (item_view x) → ItemsIn n (items_view (is ++ x ∷ []))
items_push n [] x h here = (here, h)
items_push n (i ∷ is) x h here = (h.0, items_push n is x h.1 here)

pub leaf_grows : (n m : ℕ) (l : Leaf) → n ≤ m → LeafIn n l → LeafIn m l
leaf_grows n m (leaf.Paragraph p) le h = h
leaf_grows n m (leaf.Fence f) le h = h
leaf_grows n m (leaf.Html b) le h = h
leaf_grows n m (leaf.Code c) le h = h
leaf_grows n m (leaf.Table t) le h = (cells_grow n m t.head.items le h.0, rows_grow n m (map (λ row. row.items) t.rows.items) le h.1)

pub spine_grows : (n m : ℕ) (s : OpenBlock) → n ≤ m → OpenBlockIn n s → OpenBlockIn m s
spine_grows n m open_block.Shut le h = h
spine_grows n m (open_block.Leaf l) le h = leaf_grows n m l le h
spine_grows n m (open_block.Quote' p over last in_item begun blank spaced) le h =
    (blocks_grow n m (blocks_view over.items) le h.0, spine_grows n m last le h.1)
spine_grows n m (open_block.List' p over last in_item begun blank spaced items) le h =
    ((blocks_grow n m (blocks_view over.items) le h.0.0, spine_grows n m last le h.0.1), items_grow n m (items_view items.items.items) le h.1)

pub level_grows : (n m : ℕ) (l : Level) → n ≤ m → LevelIn n l → LevelIn m l
level_grows n m l le h = (blocks_grow n m (blocks_view l.over.items) le h.0, spine_grows n m l.last le h.1)

pub table_grows : (n m : ℕ) (t : Table) → n ≤ m → TableIn n t → TableIn m t
table_grows n m t le h = (cells_grow n m t.head.items le h.0, rows_grow n m (map (λ row. row.items) t.rows.items) le h.1)

-- a block that was found
pub found_grows : (n m : ℕ) (found : Option b.Block) → n ≤ m → IfSome found (λ x. BlockIn n (block_view x)) → IfSome found (λ x. BlockIn m (block_view x))
found_grows n m None le h = h
found_grows n m (Some x) le h = block_grows n m (block_view x) le h

pub blocks_view_grow : (n m : ℕ) (bs : List b.Block) → n ≤ m → BlocksIn n (blocks_view bs) → BlocksIn m (blocks_view bs)
blocks_view_grow n m bs le h = blocks_grow n m (blocks_view bs) le h

pub items_view_grow : (n m : ℕ) (is : List i.Item) → n ≤ m → ItemsIn n (items_view is) → ItemsIn m (items_view is)
items_view_grow n m is le h = items_grow n m (items_view is) le h

pub ruleset growing = (level_grows, spine_grows, found_grows, blocks_view_grow, items_view_grow)
