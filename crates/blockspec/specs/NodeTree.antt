-- Blocks with their texts and definitions in place, as lines are read; and what a unit makes of them, where a text is a
-- position among the unit's texts.
use Rattle.std.specs.Prelude.{ℕ, ◌+◌, Bool, List, [], ◌∷◌, ◌++◌, length, Option}
use Rattle.std.specs.List.{flat_map, range_with_len}
use Rattle.mdscan.specs.declared.delimiter_rows.Align.{Align}
use Rattle.mdleaf.specs.DefinedLinks.{LinkDefinition}
use Rattle.blockspec.specs.BlockTree.{ListKind, paragraph, heading, thematic_break, code_block, html_block, block_quote, list, table, Blocks, no_blocks, block, Items, no_items, item}
use Rattle.blockspec.specs.UnitTree.{UnitTree}

-- what a leaf's lines give: a link reference definition, or a block
pub data Leaf : Type 0 where
  definition_leaf : LinkDefinition → Leaf
  paragraph_leaf : (task : Option Bool) (text : List ℕ) → Leaf
  heading_leaf : (level : ℕ) (text : List ℕ) → Leaf
  break_leaf : Leaf
  code_leaf : (lang meta body : List ℕ) → Leaf
  html_leaf : List ℕ → Leaf
  table_leaf : List Align → (head : List (List ℕ)) → (rows : List (List (List ℕ))) → Leaf

-- each node with those behind it
mutual
  pub data Nodes : Type 0 where
    no_nodes : Nodes
    leaf_node : Leaf → Nodes → Nodes
    quote_node : Nodes → Nodes → Nodes
    list_node : ListKind → (tight : Bool) → ItemNodes → Nodes → Nodes

  pub data ItemNodes : Type 0 where
    no_item_nodes : ItemNodes
    item_node : Nodes → ItemNodes → ItemNodes

-- the texts of a leaf: of a table, those of its cells, row by row
abbrev pub leaf_texts : Leaf → List (List ℕ)
leaf_texts (paragraph_leaf task text) = text ∷ []
leaf_texts (heading_leaf level text) = text ∷ []
leaf_texts (table_leaf aligns head rows) = head ++ flat_map (λ row. row) rows
leaf_texts leaf = []

abbrev pub leaf_definitions : Leaf → List LinkDefinition
leaf_definitions (definition_leaf definition) = definition ∷ []
leaf_definitions leaf = []

-- texts and definitions, in document order
unfoldable mutual
  pub texts_in : Nodes → List (List ℕ)
  texts_in no_nodes = []
  texts_in (leaf_node leaf rest) = leaf_texts leaf ++ texts_in rest
  texts_in (quote_node inner rest) = texts_in inner ++ texts_in rest
  texts_in (list_node kind tight items rest) = texts_in_items items ++ texts_in rest

  pub texts_in_items : ItemNodes → List (List ℕ)
  texts_in_items no_item_nodes = []
  texts_in_items (item_node nodes items) = texts_in nodes ++ texts_in_items items

unfoldable mutual
  pub definitions_in : Nodes → List LinkDefinition
  definitions_in no_nodes = []
  definitions_in (leaf_node leaf rest) = leaf_definitions leaf ++ definitions_in rest
  definitions_in (quote_node inner rest) = definitions_in inner ++ definitions_in rest
  definitions_in (list_node kind tight items rest) = definitions_in_items items ++ definitions_in rest

  pub definitions_in_items : ItemNodes → List LinkDefinition
  definitions_in_items no_item_nodes = []
  definitions_in_items (item_node nodes items) = definitions_in nodes ++ definitions_in_items items

-- the positions of rows of cells, from a position on
abbrev pub row_positions : ℕ → List (List (List ℕ)) → List (List ℕ)
row_positions n [] = []
row_positions n (row ∷ rows) = range_with_len n (length row) ∷ row_positions (n + length row) rows

-- The block of a leaf whose first text has a position, with the blocks behind it. A definition is no block.
abbrev pub leaf_block : ℕ → Leaf → Blocks → Blocks
leaf_block n (definition_leaf definition) rest = rest
leaf_block n (paragraph_leaf task text) rest = block (paragraph n task) rest
leaf_block n (heading_leaf level text) rest = block (heading level n) rest
leaf_block n break_leaf rest = block thematic_break rest
leaf_block n (code_leaf lang meta body) rest = block (code_block lang meta body) rest
leaf_block n (html_leaf lines) rest = block (html_block lines) rest
leaf_block n (table_leaf aligns head rows) rest = block (table aligns (range_with_len n (length head)) (row_positions (n + length head) rows)) rest

-- blocks whose first text has a position
unfoldable mutual
  pub placed : ℕ → Nodes → Blocks
  placed n no_nodes = no_blocks
  placed n (leaf_node leaf rest) = leaf_block n leaf (placed (n + length (leaf_texts leaf)) rest)
  placed n (quote_node inner rest) = block (block_quote (placed n inner)) (placed (n + length (texts_in inner)) rest)
  placed n (list_node kind tight items rest) = block (list kind tight (placed_items n items)) (placed (n + length (texts_in_items items)) rest)

  pub placed_items : ℕ → ItemNodes → Items
  placed_items n no_item_nodes = no_items
  placed_items n (item_node nodes items) = item (placed n nodes) (placed_items (n + length (texts_in nodes)) items)

-- a unit of some nodes
abbrev pub unit_of : Nodes → UnitTree
unit_of nodes = record { blocks = placed 0 nodes; definitions = definitions_in nodes; texts = texts_in nodes }
