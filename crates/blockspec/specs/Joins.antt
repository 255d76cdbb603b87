-- At which lines a list may be parted: those that begin an item of a top-level list which is not its first one (CommonMark 5.2, 5.3).
use Rattle.std.specs.Prelude.{ℕ, suc, ◌+◌, ◌-◌, ◌==◌, Bool, List, [], ◌∷◌, length, map}
use Rattle.std.specs.List.{flat_map, list_any}
use Rattle.mdtext.specs.EntityTable.{EntityTable}
use Rattle.blockspec.specs.BlockLine.{document_line}
use Rattle.blockspec.specs.NodeTree.{texts_in_items}
use Rattle.blockspec.specs.TopBlocks.{ListItem, TopBlock, Other, ItemList, top_blocks}

-- the first lines of a list's later items
abbrev pub later_lines : TopBlock → List ℕ
later_lines (Other g) = []
later_lines (ItemList kind first later) = map (λ item. item.line) later

-- the lines of a document at which a list may be parted
abbrev pub joins : EntityTable → (lines : List (List ℕ)) → List ℕ
joins entities lines = flat_map later_lines (top_blocks entities (map document_line lines))

-- whether the last line is one of them
abbrev pub is_joined : EntityTable → (lines : List (List ℕ)) → Bool
is_joined entities lines = list_any (λ j. suc j == length lines) (joins entities lines)

-- A later item of a list: its line, counted from the list's first one, and how many inline texts the items before it give.
pub record Join : Type 0 where
  pub line : ℕ
  pub texts : ℕ

abbrev pub item_joins : (begin texts : ℕ) → List ListItem → List Join
item_joins begin texts [] = []
item_joins begin texts (item ∷ later) =
    record { line = item.line - begin; texts = texts } ∷ item_joins begin (texts + length (texts_in_items item.nodes)) later

-- the later items of a top-level block, in order; none but a list has any
abbrev pub block_joins : TopBlock → List Join
block_joins (Other g) = []
block_joins (ItemList kind first later) = item_joins first.line (length (texts_in_items first.nodes)) later
