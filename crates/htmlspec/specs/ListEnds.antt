-- Where the items of a unit that is one list end in its HTML.
use Rattle.std.specs.Prelude.{ℕ, List, [], ◌∷◌, ◌++◌, codes, Bool, length}
use Rattle.blockspec.specs.BlockTree.{Block, paragraph, heading, thematic_break, code_block, html_block, block_quote, list, table, Blocks, no_blocks, block, Items, no_items, item}
use Rattle.htmlspec.specs.declared.options.Options.{Options}
use Rattle.htmlspec.specs.BlockHtml.{fresh, list_open, blocks_html}

-- the piece behind an item
abbrev pub item_html : Options → List (List ℕ) → (tight : Bool) → Blocks → List ℕ → List ℕ
item_html o texts tight bs out = blocks_html o texts tight bs (fresh out ++ codes "<li>") ++ codes "</li>\n"

-- the lengths of the piece behind each item
abbrev pub item_ends : Options → List (List ℕ) → (tight : Bool) → Items → List ℕ → List ℕ
item_ends o texts tight no_items out = []
item_ends o texts tight (item bs is) out = length (item_html o texts tight bs out) ∷ item_ends o texts tight is (item_html o texts tight bs out)

-- the same of a block that is alone in its unit; none where it is no list
abbrev pub block_ends : Options → List (List ℕ) → Block → List ℕ
block_ends o texts (list kind tight items) = item_ends o texts tight items (fresh [] ++ list_open kind)
block_ends o texts (paragraph at task) = []
block_ends o texts (heading level at) = []
block_ends o texts thematic_break = []
block_ends o texts (code_block lang meta body) = []
block_ends o texts (html_block lines) = []
block_ends o texts (block_quote bs) = []
block_ends o texts (table aligns head rows) = []

-- the same of the blocks of a unit; none where they are not one list alone
abbrev pub unit_ends : Options → List (List ℕ) → Blocks → List ℕ
unit_ends o texts no_blocks = []
unit_ends o texts (block b no_blocks) = block_ends o texts b
unit_ends o texts (block b (block c bs)) = []
