-- What is over, and the list that goes on, are what the lines give.
use Rattle.std.proofs.Common.{◌≡◌, ℕ, Bool, true, false, ◌&&◌, List, [], ◌∷◌, refl, sym, ◌∙◌, ap}
use Rattle.mdtext.specs.EntityTable.{EntityTable}
use Rattle.blockspec.specs.BlockTree.{ListKind, no_blocks}
use Rattle.mdblock.specs.held.HeldLevel.{is_list}
use Rattle.mdblock.specs.held.HeldNodes.{ListSoFar, list_behind, list_where, list_at, list_of, over_behind, handed_groups, handed_nodes, tasked}
use Rattle.blockspec.specs.LineSummary.{no_summary, closed}
use Rattle.blockspec.specs.Lists.{Part, Leaves, Quoted, Listed, Group, is_same_list, items_before, joined_where, joined, merged, is_tight_inside, leaves_before, part_before, nodes_of}
use Rattle.blockspec.specs.NodeTree.{Leaf, Nodes, no_nodes, quote_node, list_node, ItemNodes, texts_in, definitions_in, placed}
use Rattle.blockspec.specs.TaskListItems.{with_task}
use Rattle.mdblock.specs.held.TreesBehind.{nodes_before}
use Rattle.mdblock.proofs.PlacedNodes.{nodes_assoc, part_behind}

abbrev item_group : ℕ → Bool → ListKind → Bool → ItemNodes → Group
item_group b gap kind tight items = record { begin = b; gap = gap; part = Listed kind tight items }

-- the nodes of a list with these items more
abbrev pub list_nodes : ListSoFar → (tight : Bool) → ItemNodes → Nodes
list_nodes l tight items = nodes_before (nodes_of l.front) (list_node l.kind (l.tight && tight) (items_before l.items items) no_nodes)

one_apart : (g : Group) (b : ℕ) (gap : Bool) (kind : ListKind) (t : Bool) (items : ItemNodes) →
    nodes_of (g ∷ item_group b gap kind t items ∷ []) ≡ list_nodes (list_behind (g ∷ []) kind) t items
unfolding nodes_of
one_apart g b gap kind t items = part_behind g.part (list_node kind t items no_nodes) ∙ refl

where_list : (same : Bool) (b' : ℕ) (gap' : Bool) (first : ListKind) (t' : Bool) (items' : ItemNodes) (b : ℕ) (gap : Bool) (kind : ListKind) (t : Bool) (items : ItemNodes) →
    nodes_of (joined_where same (item_group b' gap' first t' items') first t' items' (item_group b gap kind t items) t items [])
    ≡ list_nodes (list_where same (item_group b' gap' first t' items') first t' items' kind gap) t items
unfolding nodes_of
where_list true b' gap' first t' items' b gap kind t items = refl
where_list false b' gap' first t' items' b gap kind t items = refl

part_list : (b' : ℕ) (gap' : Bool) (p : Part) (b : ℕ) (gap : Bool) (kind : ListKind) (t : Bool) (items : ItemNodes) →
    nodes_of (merged (record { begin = b'; gap = gap'; part = p } ∷ []) (item_group b gap kind t items ∷ []))
    ≡ list_nodes (list_at (record { begin = b'; gap = gap'; part = p }) p kind gap) t items
part_list b' gap' (Leaves leaves) b gap kind t items = one_apart (record { begin = b'; gap = gap'; part = Leaves leaves }) b gap kind t items
part_list b' gap' (Quoted nodes) b gap kind t items = one_apart (record { begin = b'; gap = gap'; part = Quoted nodes }) b gap kind t items
part_list b' gap' (Listed first t' items') b gap kind t items = where_list (is_same_list first kind) b' gap' first t' items' b gap kind t items

-- an item behind some groups is the last one of its list
pub merged_list : (before : List Group) (b : ℕ) (gap : Bool) (kind : ListKind) (t : Bool) (items : ItemNodes) →
    nodes_of (merged before (item_group b gap kind t items ∷ [])) ≡ list_nodes (list_of before kind gap) t items
unfolding nodes_of
merged_list [] b gap kind t items = refl
merged_list (g ∷ []) b gap kind t items = part_list g.begin g.gap g.part b gap kind t items
merged_list (g ∷ n ∷ gs) b gap kind t items =
    let l = list_of (n ∷ gs) kind gap in
    let node = list_node l.kind (l.tight && t) (items_before l.items items) no_nodes in
    ap (part_before g.part) (merged_list (n ∷ gs) b gap kind t items)
    ∙ part_behind g.part (nodes_before (nodes_of l.front) node)
    ∙ nodes_assoc (part_before g.part no_nodes) (nodes_of l.front) node
    ∙ ap (λ z. nodes_before z node) (sym (part_behind g.part (nodes_of l.front)))

-- a leaf or a quote behind some groups is a block of its own
pub merged_leaves : (before : List Group) (b : ℕ) (gap : Bool) (leaves : List Leaf) →
    nodes_of (merged before (record { begin = b; gap = gap; part = Leaves leaves } ∷ [])) ≡ nodes_before (nodes_of before) (leaves_before leaves no_nodes)
unfolding nodes_of
merged_leaves [] b gap leaves = refl
merged_leaves (g ∷ []) b gap leaves = leaves_last g.begin g.gap g.part b gap leaves where
  leaves_last : (b' : ℕ) (gap' : Bool) (p : Part) (b : ℕ) (gap : Bool) (leaves : List Leaf) →
      nodes_of (joined (record { begin = b'; gap = gap'; part = p }) p (record { begin = b; gap = gap; part = Leaves leaves } ∷ [])) ≡ nodes_before (part_before p no_nodes) (leaves_before leaves no_nodes)
  leaves_last b' gap' (Leaves ls) b gap leaves = part_behind (Leaves ls) (leaves_before leaves no_nodes)
  leaves_last b' gap' (Quoted inner) b gap leaves = refl
  leaves_last b' gap' (Listed kind t items) b gap leaves = refl
merged_leaves (g ∷ n ∷ gs) b gap leaves =
    ap (part_before g.part) (merged_leaves (n ∷ gs) b gap leaves)
    ∙ part_behind g.part (nodes_before (nodes_of (n ∷ gs)) (leaves_before leaves no_nodes))
    ∙ nodes_assoc (part_before g.part no_nodes) (nodes_of (n ∷ gs)) (leaves_before leaves no_nodes)
    ∙ ap (λ z. nodes_before z (leaves_before leaves no_nodes)) (sym (part_behind g.part (nodes_of (n ∷ gs))))

pub merged_quote : (before : List Group) (b : ℕ) (gap : Bool) (inner : Nodes) →
    nodes_of (merged before (record { begin = b; gap = gap; part = Quoted inner } ∷ [])) ≡ nodes_before (nodes_of before) (quote_node inner no_nodes)
unfolding nodes_of
merged_quote [] b gap inner = refl
merged_quote (g ∷ []) b gap inner = quote_last g.begin g.gap g.part b gap inner where
  quote_last : (b' : ℕ) (gap' : Bool) (p : Part) (b : ℕ) (gap : Bool) (inner : Nodes) →
      nodes_of (joined (record { begin = b'; gap = gap'; part = p }) p (record { begin = b; gap = gap; part = Quoted inner } ∷ [])) ≡ nodes_before (part_before p no_nodes) (quote_node inner no_nodes)
  quote_last b' gap' (Leaves ls) b gap inner = part_behind (Leaves ls) (quote_node inner no_nodes)
  quote_last b' gap' (Quoted i) b gap inner = refl
  quote_last b' gap' (Listed kind t items) b gap inner = refl
merged_quote (g ∷ n ∷ gs) b gap inner =
    ap (part_before g.part) (merged_quote (n ∷ gs) b gap inner)
    ∙ part_behind g.part (nodes_before (nodes_of (n ∷ gs)) (quote_node inner no_nodes))
    ∙ nodes_assoc (part_before g.part no_nodes) (nodes_of (n ∷ gs)) (quote_node inner no_nodes)
    ∙ ap (λ z. nodes_before z (quote_node inner no_nodes)) (sym (part_behind g.part (nodes_of (n ∷ gs))))

-- ---- no lines

pub none_over : (at : ℕ) (in_item : Bool) → placed at (tasked in_item (nodes_of [])) ≡ no_blocks
unfolding nodes_of placed with_task
none_over at true = refl
none_over at false = refl

pub none_spaced : (entities : EntityTable) → is_tight_inside (closed entities no_summary) ≡ true
unfolding closed
none_spaced entities = refl

pub none_texts : (entities : EntityTable) → texts_in (handed_nodes entities false no_summary) ≡ []
unfolding handed_groups nodes_of texts_in
none_texts entities = refl

pub none_definitions : (entities : EntityTable) → definitions_in (handed_nodes entities false no_summary) ≡ []
unfolding handed_groups nodes_of definitions_in
none_definitions entities = refl

-- a block that is over and no list is among what is over
pub over_ended : (before : List Group) (begin : ℕ) (gap : Bool) (p : Part) → is_list p ≡ false → nodes_of (merged before (record { begin = begin; gap = gap; part = p } ∷ [])) ≡ over_behind before gap p
over_ended before begin gap (Leaves leaves) h = merged_leaves before begin gap leaves
over_ended before begin gap (Quoted nodes) h = merged_quote before begin gap nodes
over_ended before begin gap (Listed kind tight items) h = absurd (let x : ⊥ = cc in x)
