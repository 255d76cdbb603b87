-- What a reader that goes over lines has made of them so far: what is over at each level, the list that goes on, and
-- which texts and definitions have been handed in. Of an open leaf they have been handed in if it is a table.
use Rattle.std.specs.Prelude.{Bool, true, false, not, ◌&&◌, List, [], ◌∷◌, ◌++◌}
use Rattle.mdtext.specs.EntityTable.{EntityTable}
use Rattle.blockspec.specs.BlockKinds.{Quote, Item}
use Rattle.blockspec.specs.BlockTree.{ListKind}
use Rattle.blockspec.specs.LineSummary.{Summary, summary, Last, nothing_yet, ended_block, open_leaf, open_container, container_group, closed}
use Rattle.blockspec.specs.Lists.{Part, Leaves, Quoted, Listed, Group, kind_of, is_same_list, merged, leaves_before, part_before, nodes_of}
use Rattle.blockspec.specs.NodeTree.{Leaf, table_leaf, Nodes, no_nodes, ItemNodes, no_item_nodes}
use Rattle.blockspec.specs.OpenLeaf.{OpenLeaf, open_table, text_leaves}
use Rattle.blockspec.specs.TaskListItems.{with_task}
use Rattle.mdblock.specs.held.TreesBehind.{nodes_before}

-- ---- lists (CommonMark 5.3)

-- The list of an item: the groups before the list, and the items before this one, with a gap before this one counted.
pub record ListSoFar : Type 0 where
  pub front : List Group
  pub kind : ListKind
  pub tight : Bool
  pub items : ItemNodes

abbrev pub list_behind : (front : List Group) → ListKind → ListSoFar
list_behind front kind = record { front = front; kind = kind; tight = true; items = no_item_nodes }

abbrev pub list_where : (same : Bool) → Group → ListKind → (tight : Bool) → ItemNodes → (kind : ListKind) → (gap : Bool) → ListSoFar
list_where true g first tight items kind gap = record { front = []; kind = first; tight = tight && not gap; items = items }
list_where false g first tight items kind gap = list_behind (g ∷ []) kind

abbrev pub list_at : Group → Part → ListKind → (gap : Bool) → ListSoFar
list_at g (Listed first tight items) kind gap = list_where (is_same_list first kind) g first tight items kind gap
list_at g (Leaves leaves) kind gap = list_behind (g ∷ []) kind
list_at g (Quoted nodes) kind gap = list_behind (g ∷ []) kind

abbrev pub behind_group : Group → ListSoFar → ListSoFar
behind_group g l = record { front = g ∷ l.front; kind = l.kind; tight = l.tight; items = l.items }

-- the list that an item of this kind is in, behind some groups
abbrev pub list_of : List Group → ListKind → (gap : Bool) → ListSoFar
list_of [] kind gap = list_behind [] kind
list_of (g ∷ []) kind gap = list_at g g.part kind gap
list_of (g ∷ n ∷ gs) kind gap = behind_group g (list_of (n ∷ gs) kind gap)

-- ---- what is over

-- of an open leaf: the blocks above a table (GFM Tables (extension))
abbrev pub over_leaves : EntityTable → OpenLeaf → List Leaf
over_leaves entities (open_table above aligns head rows) = text_leaves entities above
over_leaves entities leaf = []

abbrev pub over_behind : List Group → (gap : Bool) → Part → Nodes
over_behind before gap (Listed kind tight items) = nodes_of (list_of before kind gap).front
over_behind before gap (Leaves leaves) = nodes_before (nodes_of before) (leaves_before leaves no_nodes)
over_behind before gap (Quoted nodes) = nodes_before (nodes_of before) (part_before (Quoted nodes) no_nodes)

-- The blocks that are over. A list is not over yet, even if its last item is.
abbrev pub over_nodes : EntityTable → (before : List Group) → Last → Nodes
over_nodes entities before nothing_yet = nodes_of before
over_nodes entities before (ended_block g) = over_behind before g.gap g.part
over_nodes entities before (open_leaf begin gap leaf) = nodes_before (nodes_of before) (leaves_before (over_leaves entities leaf) no_nodes)
over_nodes entities before (open_container begin gap bare Quote inner) = nodes_of before
over_nodes entities before (open_container begin gap bare (Item marker needed) inner) = nodes_of (list_of before (kind_of marker) gap).front

-- ---- what has been handed in

abbrev pub handed_leaves : EntityTable → OpenLeaf → List Leaf
handed_leaves entities (open_table above aligns head rows) = text_leaves entities above ++ table_leaf aligns head rows ∷ []
handed_leaves entities leaf = []

-- like `closed`, but of an open leaf only what has been handed in
unfoldable mutual
  pub handed_groups : EntityTable → Summary → List Group
  handed_groups entities (summary before last blank lines) = merged before (handed_last entities last)

  pub handed_last : EntityTable → Last → List Group
  handed_last entities nothing_yet = []
  handed_last entities (ended_block g) = g ∷ []
  handed_last entities (open_leaf begin gap leaf) = record { begin = begin; gap = gap; part = Leaves (handed_leaves entities leaf) } ∷ []
  handed_last entities (open_container begin gap bare container inner) = container_group begin gap container (handed_groups entities inner) ∷ []

-- the nodes of an item lose their task marker (GFM Task list items (extension))
abbrev pub tasked : (in_item : Bool) → Nodes → Nodes
tasked true nodes = with_task nodes
tasked false nodes = nodes

abbrev pub handed_nodes : EntityTable → (in_item : Bool) → Summary → Nodes
handed_nodes entities in_item s = tasked in_item (nodes_of (handed_groups entities s))

-- what the lines give
abbrev pub closed_nodes : EntityTable → (in_item : Bool) → Summary → Nodes
closed_nodes entities in_item s = tasked in_item (nodes_of (closed entities s))
