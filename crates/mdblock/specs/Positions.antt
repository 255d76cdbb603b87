-- Each text and cell of a tree of blocks is a position below n.
use Rattle.std.specs.Prelude.{ℕ, ◌<◌, List}
use Rattle.std.specs.List.{AllByRecursion}
use Rattle.blockspec.specs.BlockTree.{Block, paragraph, heading, thematic_break, code_block, html_block, block_quote, list, table, Blocks, no_blocks, block, Items, no_items, item}

abbrev pub CellsIn : ℕ → List ℕ → Type 0
CellsIn n = AllByRecursion (λ at. at < n)

abbrev mutual
  pub BlockIn : ℕ → Block → Type 0
  BlockIn n (paragraph at task) = at < n
  BlockIn n (heading level at) = at < n
  BlockIn n thematic_break = Unit {0}
  BlockIn n (code_block lang meta body) = Unit {0}
  BlockIn n (html_block lines) = Unit {0}
  BlockIn n (block_quote bs) = BlocksIn n bs
  BlockIn n (list kind tight is) = ItemsIn n is
  BlockIn n (table aligns head rows) = CellsIn n head × AllByRecursion (CellsIn n) rows

  pub BlocksIn : ℕ → Blocks → Type 0
  BlocksIn n no_blocks = Unit {0}
  BlocksIn n (block b bs) = BlockIn n b × BlocksIn n bs

  pub ItemsIn : ℕ → Items → Type 0
  ItemsIn n no_items = Unit {0}
  ItemsIn n (item bs is) = BlocksIn n bs × ItemsIn n is
