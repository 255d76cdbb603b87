-- Copies of blocks for another unit: their texts have positions one after the other there, in document order.
use Rattle.std.specs.Prelude.{◌≡◌, ℕ, ◌+◌, List, [], ◌∷◌, ◌++◌, length, map, slice_get, unwrap_or}
use Rattle.std.specs.List.{flat_map, range_with_len}
use Rattle.blockspec.specs.BlockTree.{Block, paragraph, heading, thematic_break, code_block, html_block, block_quote, list, table, Blocks, no_blocks, block, Items, no_items, item}

-- the positions in document order
abbrev mutual
  pub block_positions : Block → List ℕ
  block_positions (paragraph text task) = text ∷ []
  block_positions (heading level text) = text ∷ []
  block_positions thematic_break = []
  block_positions (code_block lang meta body) = []
  block_positions (html_block lines) = []
  block_positions (block_quote bs) = blocks_positions bs
  block_positions (list kind tight is) = items_positions is
  block_positions (table aligns head rows) = head ++ flat_map (λ row. row) rows

  pub blocks_positions : Blocks → List ℕ
  blocks_positions no_blocks = []
  blocks_positions (block b bs) = block_positions b ++ blocks_positions bs

  pub items_positions : Items → List ℕ
  items_positions no_items = []
  items_positions (item bs is) = blocks_positions bs ++ items_positions is

abbrev pub copied_rows : ℕ → List (List ℕ) → List (List ℕ)
copied_rows at [] = []
copied_rows at (row ∷ rows) = range_with_len at (length row) ∷ copied_rows (at + length row) rows

-- the same with positions from one on
abbrev mutual
  pub copied_block : ℕ → Block → Block
  copied_block at (paragraph text task) = paragraph at task
  copied_block at (heading level text) = heading level at
  copied_block at thematic_break = thematic_break
  copied_block at (code_block lang meta body) = code_block lang meta body
  copied_block at (html_block lines) = html_block lines
  copied_block at (block_quote bs) = block_quote (copied_blocks at bs)
  copied_block at (list kind tight is) = list kind tight (copied_items at is)
  copied_block at (table aligns head rows) = table aligns (range_with_len at (length head)) (copied_rows (at + length head) rows)

  pub copied_blocks : ℕ → Blocks → Blocks
  copied_blocks at no_blocks = no_blocks
  copied_blocks at (block b bs) = block (copied_block at b) (copied_blocks (at + length (block_positions b)) bs)

  pub copied_items : ℕ → Items → Items
  copied_items at no_items = no_items
  copied_items at (item bs is) = item (copied_blocks at bs) (copied_items (at + length (blocks_positions bs)) is)

-- a text by its position; an empty one where there is none
abbrev pub text_at : List (List ℕ) → ℕ → List ℕ
text_at texts at = unwrap_or (slice_get texts at) []

abbrev pub texts_at : List (List ℕ) → List ℕ → List (List ℕ)
texts_at texts positions = map (text_at texts) positions

-- these are numbers one after the other from one on, and this is the next one
abbrev pub IsBehind : (at : ℕ) → List ℕ → (end : ℕ) → Type 0
IsBehind at [] end = end ≡ at
IsBehind at (p ∷ ps) end = (p ≡ at) × IsBehind (at + 1) ps end
