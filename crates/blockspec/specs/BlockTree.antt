-- Trees of blocks (CommonMark 4 and 5; GFM Tables (extension), GFM Task list items (extension)), as definitions speak of them: a text is its bytes, an inline text its position in the unit.
use Rattle.std.specs.Prelude.{ℕ, List, [], ◌∷◌, Bool, Option}
use Rattle.mdscan.specs.declared.delimiter_rows.Align.{Align}

pub data ListKind : Type 0 where
  bullet : (mark : ℕ) → ListKind
  ordered : (delim start : ℕ) → ListKind

mutual
  pub data Block : Type 0 where
    paragraph : (text : ℕ) (task : Option Bool) → Block
    heading : (level text : ℕ) → Block
    thematic_break : Block
    code_block : (lang meta body : List ℕ) → Block
    html_block : List ℕ → Block
    block_quote : Blocks → Block
    list : ListKind → (tight : Bool) → Items → Block
    table : List Align → (head : List ℕ) → (rows : List (List ℕ)) → Block

  pub data Blocks : Type 0 where
    no_blocks : Blocks
    block : Block → Blocks → Blocks

  pub data Items : Type 0 where
    no_items : Items
    item : Blocks → Items → Items

-- ---- lists of blocks and of items, as trees

abbrev pub blocks_of : List Block → Blocks
blocks_of [] = no_blocks
blocks_of (x ∷ xs) = block x (blocks_of xs)

abbrev pub items_of : List Blocks → Items
items_of [] = no_items
items_of (x ∷ xs) = item x (items_of xs)
