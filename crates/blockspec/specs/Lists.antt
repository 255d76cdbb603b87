-- Lists (CommonMark 5.3): neighbouring items of one bullet, or of one delimiter, are one list; and its tightness.
use Rattle.std.specs.Prelude.{ℕ, Bool, true, false, not, ◌&&◌, ◌==◌, List, [], ◌∷◌, Option, Some, None}
use Rattle.std.specs.List.{list_any}
use Rattle.mdscan.specs.declared.list_markers.Marker.{Marker}
use Rattle.blockspec.specs.BlockTree.{ListKind, bullet, ordered}
use Rattle.blockspec.specs.NodeTree.{Leaf, Nodes, no_nodes, leaf_node, quote_node, list_node, ItemNodes, no_item_nodes, item_node}

-- what one stretch gives, or some that make one list
pub data Part : Type 0 where
  Leaves : List Leaf → Part
  Quoted : Nodes → Part
  Listed : ListKind → (tight : Bool) → ItemNodes → Part

-- how many lines stand before it, whether there is a gap just before it, and what it gives
pub record Group : Type 0 where
  pub begin : ℕ
  pub gap : Bool
  pub part : Part

abbrev pub kind_where : (mark : ℕ) → (start : Option ℕ) → ListKind
kind_where mark None = bullet mark
kind_where mark (Some start) = ordered mark start

-- the list of an item with this marker: an ordered list begins with its first item's number
abbrev pub kind_of : Marker → ListKind
kind_of m = kind_where m.mark m.start

abbrev pub is_same_list : ListKind → ListKind → Bool
is_same_list (bullet mark) (bullet other) = mark == other
is_same_list (ordered delim start) (ordered other number) = delim == other
is_same_list (bullet mark) (ordered other number) = false
is_same_list (ordered delim start) (bullet other) = false

abbrev pub items_before : ItemNodes → ItemNodes → ItemNodes
items_before no_item_nodes later = later
items_before (item_node nodes items) later = item_node nodes (items_before items later)

-- A list is loose if there is a gap before one of its items other than the first.
abbrev pub joined_where : (same : Bool) → Group → ListKind → Bool → ItemNodes → (next : Group) → Bool → ItemNodes → List Group → List Group
joined_where true g kind tight items next next_tight later gs =
    record { begin = g.begin; gap = g.gap; part = Listed kind (tight && not next.gap && next_tight) (items_before items later) } ∷ gs
joined_where false g kind tight items next next_tight later gs = g ∷ next ∷ gs

abbrev pub joined_list : Group → ListKind → Bool → ItemNodes → (next : Group) → Part → List Group → List Group
joined_list g kind tight items next (Listed other next_tight later) gs = joined_where (is_same_list kind other) g kind tight items next next_tight later gs
joined_list g kind tight items next (Leaves leaves) gs = g ∷ next ∷ gs
joined_list g kind tight items next (Quoted nodes) gs = g ∷ next ∷ gs

abbrev pub joined : Group → Part → List Group → List Group
joined g (Listed kind tight items) (next ∷ gs) = joined_list g kind tight items next next.part gs
joined g part gs = g ∷ gs

-- neighbouring items, each of which is a list of its own, joined
unfoldable pub grouped : List Group → List Group
grouped [] = []
grouped (g ∷ gs) = joined g g.part (grouped gs)

-- Groups behind others, where both are joined: one list may go on where they meet.
abbrev pub merged : List Group → List Group → List Group
merged [] hs = hs
merged (g ∷ []) [] = g ∷ []
merged (g ∷ []) (h ∷ hs) = joined g g.part (h ∷ hs)
merged (g ∷ n ∷ gs) hs = g ∷ merged (n ∷ gs) hs

-- An item makes its list loose if there is a gap before one of its direct children other than the first. Here a
-- definition counts as a child.
abbrev pub is_tight_inside : List Group → Bool
is_tight_inside [] = true
is_tight_inside (g ∷ gs) = not (list_any (λ child. child.gap) gs)

abbrev pub leaves_before : List Leaf → Nodes → Nodes
leaves_before [] rest = rest
leaves_before (leaf ∷ leaves) rest = leaf_node leaf (leaves_before leaves rest)

abbrev pub part_before : Part → Nodes → Nodes
part_before (Leaves leaves) rest = leaves_before leaves rest
part_before (Quoted inner) rest = quote_node inner rest
part_before (Listed kind tight items) rest = list_node kind tight items rest

-- what some groups give, one after the other
unfoldable pub nodes_of : List Group → Nodes
nodes_of [] = no_nodes
nodes_of (g ∷ gs) = part_before g.part (nodes_of gs)
