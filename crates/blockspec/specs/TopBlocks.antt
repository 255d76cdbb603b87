-- Top-level blocks where a list keeps its items apart (CommonMark 5.2, 5.3), so that items from a line on may stand behind others.
use Rattle.std.specs.Prelude.{ℕ, ◌+◌, Bool, true, false, not, ◌&&◌, List, [], ◌∷◌, ◌++◌, map}
use Rattle.mdtext.specs.EntityTable.{EntityTable}
use Rattle.blockspec.specs.BlockLine.{BlockLine}
use Rattle.blockspec.specs.BlockTree.{ListKind}
use Rattle.blockspec.specs.BlockUnits.{group_of, groups_within, visible_in}
use Rattle.blockspec.specs.Lists.{Part, Leaves, Quoted, Listed, Group, is_same_list, items_before}
use Rattle.blockspec.specs.Meetings.{shift_group}
use Rattle.blockspec.specs.NodeTree.{ItemNodes}
use Rattle.blockspec.specs.Stretches.{stretches, cut_within}

-- An item of a list: its first line, whether there is a gap before it, whether none is between its own blocks, and what it gives.
pub record ListItem : Type 0 where
  pub line : ℕ
  pub gap : Bool
  pub tight : Bool
  pub nodes : ItemNodes

-- a top-level block: a list with its items, or another
pub data TopBlock : Type 0 where
  Other : Group → TopBlock
  ItemList : ListKind → (first : ListItem) → (later : List ListItem) → TopBlock

-- A list is tight if each of its items is, and there is a gap before none but the first.
unfoldable pub is_tight_list : (first : ListItem) → (later : List ListItem) → Bool
is_tight_list item [] = item.tight
is_tight_list item (next ∷ later) = item.tight && not next.gap && is_tight_list next later

unfoldable pub nodes_of_items : (first : ListItem) → (later : List ListItem) → ItemNodes
nodes_of_items item [] = item.nodes
nodes_of_items item (next ∷ later) = items_before item.nodes (nodes_of_items next later)

-- the block as it stands among a document's blocks
abbrev pub top_group : TopBlock → Group
top_group (Other g) = g
top_group (ItemList kind first later) =
    record { begin = first.line; gap = first.gap; part = Listed kind (is_tight_list first later) (nodes_of_items first later) }

abbrev pub with_item_where : (same : Bool) → ListKind → ListItem → ListKind → (first : ListItem) → (later : List ListItem) → List TopBlock → List TopBlock
with_item_where true kind item other first later blocks = ItemList kind item (first ∷ later) ∷ blocks
with_item_where false kind item other first later blocks = ItemList kind item [] ∷ ItemList other first later ∷ blocks

-- An item in front of some blocks: the first item of the list that stands there, or of a list of its own.
unfoldable pub with_item : ListKind → ListItem → List TopBlock → List TopBlock
with_item kind item [] = ItemList kind item [] ∷ []
with_item kind item (Other g ∷ blocks) = ItemList kind item [] ∷ Other g ∷ blocks
with_item kind item (ItemList other first later ∷ blocks) = with_item_where (is_same_list kind other) kind item other first later blocks

abbrev pub item_of_group : Group → (tight : Bool) → ItemNodes → ListItem
item_of_group g tight nodes = record { line = g.begin; gap = g.gap; tight = tight; nodes = nodes }

abbrev pub with_part : Group → Part → List TopBlock → List TopBlock
with_part g (Listed kind tight nodes) blocks = with_item kind (item_of_group g tight nodes) blocks
with_part g (Leaves leaves) blocks = Other g ∷ blocks
with_part g (Quoted nodes) blocks = Other g ∷ blocks

-- groups, each item of which is a list of its own, as blocks
unfoldable pub tops_of : List Group → List TopBlock
tops_of [] = []
tops_of (g ∷ gs) = with_part g g.part (tops_of gs)

-- what some lines give, where each item is a list of its own
abbrev pub single_groups : EntityTable → List BlockLine → List Group
single_groups entities ls = map (group_of entities (groups_within entities (visible_in ls))) (stretches (cut_within (visible_in ls) ls))

-- the blocks of some lines, a list with its items
abbrev pub top_blocks : EntityTable → List BlockLine → List TopBlock
top_blocks entities ls = tops_of (single_groups entities ls)

-- ---- further on in a document

abbrev pub moved_item : ℕ → ListItem → ListItem
moved_item k item = record { line = item.line + k; gap = item.gap; tight = item.tight; nodes = item.nodes }

-- an item so many lines further on, with or without a gap before it
abbrev pub item_behind : (gap : Bool) → ℕ → ListItem → ListItem
item_behind gap k item = record { line = item.line + k; gap = gap; tight = item.tight; nodes = item.nodes }

-- items from a line on, behind so many lines
abbrev pub items_behind : (gap : Bool) → ℕ → (first : ListItem) → (later : List ListItem) → List ListItem
items_behind gap k first later = item_behind gap k first ∷ map (moved_item k) later

abbrev pub moved_top : ℕ → TopBlock → TopBlock
moved_top k (Other g) = Other (shift_group k g)
moved_top k (ItemList kind first later) = ItemList kind (moved_item k first) (map (moved_item k) later)

-- ---- two parts

abbrev pub joined_last : (gap : Bool) → ℕ → TopBlock → List TopBlock → List TopBlock
joined_last gap k (ItemList kind first later) (ItemList other item items ∷ blocks) =
    ItemList kind first (later ++ items_behind gap k item items) ∷ map (moved_top k) blocks
joined_last gap k block blocks = block ∷ map (moved_top k) blocks

-- Blocks behind others, where the list that stands first goes on with the one that stands last in front: those in front are of so many lines, with or without
-- a gap behind them.
unfoldable pub joined_blocks : (gap : Bool) → ℕ → (front behind : List TopBlock) → List TopBlock
joined_blocks gap k [] behind = map (moved_top k) behind
joined_blocks gap k (block ∷ []) behind = joined_last gap k block behind
joined_blocks gap k (block ∷ next ∷ front) behind = block ∷ joined_blocks gap k (next ∷ front) behind
