-- A walk over a tree: each node is entered, then all that lies in it is, and then it is left.
use Rattle.std.specs.Prelude.{ℕ, List, [], ◌∷◌, ◌++◌, Option, Some, None, slice_get}
use Rattle.inlinespec.specs.InlineTree.{Inline, Inlines, no_inlines, inline, text, code, raw, soft, hard, emph, strong, strike, link, image}
use Rattle.inlinespec.specs.ParsedText.{ParsedText}
use Rattle.blockspec.specs.BlockTree.{Block, paragraph, heading, thematic_break, code_block, html_block, block_quote, list, table, Blocks, no_blocks, block, Items, no_items, item}

-- a block, an item of a list, a header row, a data row, a cell, or an inline
pub data TreeNode : Type 0 where
  block_node : Block → TreeNode
  item_node : Blocks → TreeNode
  head_node : (cells : List ℕ) → TreeNode
  row_node : (cells : List ℕ) → TreeNode
  cell_node : (at : ℕ) → TreeNode
  inline_node : Inline → TreeNode

pub data TreeEdge : Type 0 where
  enter : TreeNode → TreeEdge
  leave : TreeNode → TreeEdge

abbrev pub around : TreeNode → List TreeEdge → List TreeEdge
around node inside = enter node ∷ (inside ++ leave node ∷ [])

abbrev mutual
  pub inside_inline : Inline → List TreeEdge
  inside_inline (text s) = []
  inside_inline (code s) = []
  inside_inline (raw s) = []
  inside_inline soft = []
  inside_inline hard = []
  inside_inline (emph is) = inlines_edges is
  inside_inline (strong is) = inlines_edges is
  inside_inline (strike is) = inlines_edges is
  inside_inline (link url title is) = inlines_edges is
  inside_inline (image url title is) = inlines_edges is

  pub inlines_edges : Inlines → List TreeEdge
  inlines_edges no_inlines = []
  inlines_edges (inline i is) = around (inline_node i) (inside_inline i) ++ inlines_edges is

abbrev pub inside_text : Option ParsedText → List TreeEdge
inside_text (Some parsed) = inlines_edges parsed.tree
inside_text None = []

abbrev pub cell_edges : List ParsedText → ℕ → List TreeEdge
cell_edges texts at = around (cell_node at) (inside_text (slice_get texts at))

abbrev pub cells_edges : List ParsedText → List ℕ → List TreeEdge
cells_edges texts [] = []
cells_edges texts (at ∷ cells) = cell_edges texts at ++ cells_edges texts cells

abbrev pub rows_edges : List ParsedText → List (List ℕ) → List TreeEdge
rows_edges texts [] = []
rows_edges texts (row ∷ rows) = around (row_node row) (cells_edges texts row) ++ rows_edges texts rows

abbrev pub table_edges : List ParsedText → (head : List ℕ) → (rows : List (List ℕ)) → List TreeEdge
table_edges texts head rows = around (head_node head) (cells_edges texts head) ++ rows_edges texts rows

abbrev mutual
  pub inside_block : List ParsedText → Block → List TreeEdge
  inside_block texts (paragraph at task) = inside_text (slice_get texts at)
  inside_block texts (heading level at) = inside_text (slice_get texts at)
  inside_block texts thematic_break = []
  inside_block texts (code_block lang meta body) = []
  inside_block texts (html_block lines) = []
  inside_block texts (block_quote bs) = blocks_edges texts bs
  inside_block texts (list kind tight is) = items_edges texts is
  inside_block texts (table aligns head rows) = table_edges texts head rows

  pub blocks_edges : List ParsedText → Blocks → List TreeEdge
  blocks_edges texts no_blocks = []
  blocks_edges texts (block b bs) = around (block_node b) (inside_block texts b) ++ blocks_edges texts bs

  pub items_edges : List ParsedText → Items → List TreeEdge
  items_edges texts no_items = []
  items_edges texts (item bs is) = around (item_node bs) (blocks_edges texts bs) ++ items_edges texts is
