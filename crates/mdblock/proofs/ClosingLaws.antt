-- What lines give, and what has been handed in of them: what is over, and then what is open.
use Rattle.std.proofs.Common.{◌≡◌, ℕ, ◌+◌, Bool, true, false, List, [], ◌∷◌, ◌++◌, length, refl, sym, ◌∙◌, ap, append_assoc, append-nil, length-append}
use Rattle.mdtext.specs.EntityTable.{EntityTable}
use Rattle.mdleaf.specs.DefinedLinks.{LinkDefinition}
use Rattle.mdscan.specs.declared.list_markers.Marker.{Marker}
use Rattle.blockspec.specs.BlockKinds.{Quote, Item}
use Rattle.blockspec.specs.BlockTree.{ListKind, no_blocks, block, block_quote, list, item, no_items}
use Rattle.blockspec.specs.BlockUnits.{container_part}
use Rattle.mdblock.specs.held.HeldNodes.{list_of, over_leaves, over_nodes, handed_groups, handed_last, tasked, handed_nodes, closed_nodes}
use Rattle.blockspec.specs.LineSummary.{Summary, summary, nothing_yet, ended_block, open_leaf, open_container, closed, last_groups}
use Rattle.blockspec.specs.Lists.{Listed, Group, kind_of, items_before, is_tight_inside, leaves_before, nodes_of}
use Rattle.blockspec.specs.NodeTree.{Leaf, definition_leaf, paragraph_leaf, heading_leaf, break_leaf, code_leaf, html_leaf, table_leaf, Nodes, no_nodes, leaf_node, quote_node, list_node, ItemNodes, no_item_nodes, item_node, texts_in, texts_in_items, definitions_in, definitions_in_items, placed, placed_items}
use Rattle.blockspec.specs.OpenLeaf.{OpenLeaf, open_text, open_table, open_fence, open_code, open_html, done_heading, done_leaf, open_leaves}
use Rattle.blockspec.specs.TaskListItems.{with_task}
use Rattle.mdblock.specs.held.TreesBehind.{nodes_before, blocks_before, placed_before}
use Rattle.mdblock.proofs.HeldNodesLaws.{list_nodes, merged_list, merged_leaves, merged_quote}
use Rattle.blockspec.proofs.ItemLaws.{merged_nil}
use Rattle.mdblock.proofs.PlacedNodes.{texts_before, earlier_definitions, earlier_placed, item_texts_before, item_definitions_before, placed_items_before, leaves_append, leaves_behind, nodes_assoc}

-- ---- what lines give

-- of an open leaf: what is not over yet
abbrev pub rest_leaves : EntityTable → OpenLeaf → List Leaf
rest_leaves entities (open_table above aligns head rows) = table_leaf aligns head rows ∷ []
rest_leaves entities leaf = open_leaves entities leaf

leaf_parts : (entities : EntityTable) (leaf : OpenLeaf) → open_leaves entities leaf ≡ over_leaves entities leaf ++ rest_leaves entities leaf
unfolding open_leaves
leaf_parts entities (open_text text last above) = refl
leaf_parts entities (open_table above aligns head rows) = refl
leaf_parts entities (open_fence indentation mark size info body) = refl
leaf_parts entities (open_code body blanks) = refl
leaf_parts entities (open_html kind text) = refl
leaf_parts entities (done_heading level text) = refl
leaf_parts entities (done_leaf leaves) = refl

leaves_of_both : (a : Nodes) (xs ys : List Leaf) → nodes_before a (leaves_before (xs ++ ys) no_nodes) ≡ nodes_before (nodes_before a (leaves_before xs no_nodes)) (leaves_before ys no_nodes)
leaves_of_both a xs ys =
    ap (nodes_before a) (leaves_append xs ys no_nodes ∙ leaves_behind xs (leaves_before ys no_nodes))
    ∙ nodes_assoc a (leaves_before xs no_nodes) (leaves_before ys no_nodes)

pub closed_nothing : (entities : EntityTable) (in_item : Bool) (before : List Group) (blank : Bool) (lines : ℕ) →
    closed_nodes entities in_item (summary before nothing_yet blank lines) ≡ tasked in_item (nodes_of before)
unfolding closed last_groups
closed_nothing entities in_item before blank lines = ap (λ z. tasked in_item (nodes_of z)) (merged_nil before)

pub closed_leaf : (entities : EntityTable) (in_item : Bool) (before : List Group) (begin : ℕ) (gap : Bool) (leaf : OpenLeaf) (blank : Bool) (lines : ℕ) →
    closed_nodes entities in_item (summary before (open_leaf begin gap leaf) blank lines)
    ≡ tasked in_item (nodes_before (over_nodes entities before (open_leaf begin gap leaf)) (leaves_before (rest_leaves entities leaf) no_nodes))
unfolding closed last_groups
closed_leaf entities in_item before begin gap leaf blank lines =
    ap (tasked in_item) (
    merged_leaves before begin gap (open_leaves entities leaf)
    ∙ ap (λ z. nodes_before (nodes_of before) (leaves_before z no_nodes)) (leaf_parts entities leaf)
    ∙ leaves_of_both (nodes_of before) (over_leaves entities leaf) (rest_leaves entities leaf)
    )

pub closed_quote : (entities : EntityTable) (in_item : Bool) (before : List Group) (begin : ℕ) (gap bare : Bool) (inner : Summary) (blank : Bool) (lines : ℕ) →
    closed_nodes entities in_item (summary before (open_container begin gap bare Quote inner) blank lines)
    ≡ tasked in_item (nodes_before (nodes_of before) (quote_node (closed_nodes entities false inner) no_nodes))
unfolding closed last_groups container_part
closed_quote entities in_item before begin gap bare inner blank lines = ap (tasked in_item) (merged_quote before begin gap (nodes_of (closed entities inner)))

pub closed_item : (entities : EntityTable) (in_item : Bool) (before : List Group) (begin : ℕ) (gap bare : Bool) (marker : Marker) (needed : ℕ) (inner : Summary) (blank : Bool) (lines : ℕ) →
    closed_nodes entities in_item (summary before (open_container begin gap bare (Item marker needed) inner) blank lines)
    ≡ tasked in_item (list_nodes (list_of before (kind_of marker) gap) (is_tight_inside (closed entities inner)) (item_node (closed_nodes entities true inner) no_item_nodes))
unfolding closed last_groups container_part
closed_item entities in_item before begin gap bare marker needed inner blank lines =
    ap (tasked in_item) (merged_list before begin gap (kind_of marker) (is_tight_inside (closed entities inner)) (item_node (with_task (nodes_of (closed entities inner))) no_item_nodes))

pub closed_list : (entities : EntityTable) (in_item : Bool) (before : List Group) (begin : ℕ) (gap : Bool) (kind : ListKind) (tight : Bool) (items : ItemNodes) (blank : Bool) (lines : ℕ) →
    closed_nodes entities in_item (summary before (ended_block (record { begin = begin; gap = gap; part = Listed kind tight items })) blank lines)
    ≡ tasked in_item (list_nodes (list_of before kind gap) tight items)
unfolding closed last_groups
closed_list entities in_item before begin gap kind tight items blank lines = ap (tasked in_item) (merged_list before begin gap kind tight items)

-- ---- what has been handed in

pub handed_quote : (entities : EntityTable) (in_item : Bool) (before : List Group) (begin : ℕ) (gap bare : Bool) (inner : Summary) (blank : Bool) (lines : ℕ) →
    handed_nodes entities in_item (summary before (open_container begin gap bare Quote inner) blank lines)
    ≡ tasked in_item (nodes_before (nodes_of before) (quote_node (handed_nodes entities false inner) no_nodes))
unfolding handed_groups handed_last container_part
handed_quote entities in_item before begin gap bare inner blank lines = ap (tasked in_item) (merged_quote before begin gap (nodes_of (handed_groups entities inner)))

pub handed_item : (entities : EntityTable) (in_item : Bool) (before : List Group) (begin : ℕ) (gap bare : Bool) (marker : Marker) (needed : ℕ) (inner : Summary) (blank : Bool) (lines : ℕ) →
    handed_nodes entities in_item (summary before (open_container begin gap bare (Item marker needed) inner) blank lines)
    ≡ tasked in_item (list_nodes (list_of before (kind_of marker) gap) (is_tight_inside (handed_groups entities inner)) (item_node (handed_nodes entities true inner) no_item_nodes))
unfolding handed_groups handed_last container_part
handed_item entities in_item before begin gap bare marker needed inner blank lines =
    ap (tasked in_item) (merged_list before begin gap (kind_of marker) (is_tight_inside (handed_groups entities inner)) (item_node (with_task (nodes_of (handed_groups entities inner))) no_item_nodes))

-- ---- a container is not looked into for a task marker

pub task_before_quote : (a inner : Nodes) → with_task (nodes_before a (quote_node inner no_nodes)) ≡ nodes_before (with_task a) (quote_node inner no_nodes)
unfolding with_task
task_before_quote no_nodes inner = refl
task_before_quote (leaf_node (definition_leaf definition) a) inner = ap (leaf_node (definition_leaf definition)) (task_before_quote a inner)
task_before_quote (leaf_node (paragraph_leaf task text) a) inner = refl
task_before_quote (leaf_node (heading_leaf level text) a) inner = refl
task_before_quote (leaf_node break_leaf a) inner = refl
task_before_quote (leaf_node (code_leaf lang meta body) a) inner = refl
task_before_quote (leaf_node (html_leaf lines) a) inner = refl
task_before_quote (leaf_node (table_leaf aligns head rows) a) inner = refl
task_before_quote (quote_node i a) inner = refl
task_before_quote (list_node kind tight items a) inner = refl

pub task_before_list : (a : Nodes) (kind : ListKind) (tight : Bool) (items : ItemNodes) →
    with_task (nodes_before a (list_node kind tight items no_nodes)) ≡ nodes_before (with_task a) (list_node kind tight items no_nodes)
unfolding with_task
task_before_list no_nodes kind tight items = refl
task_before_list (leaf_node (definition_leaf definition) a) kind tight items = ap (leaf_node (definition_leaf definition)) (task_before_list a kind tight items)
task_before_list (leaf_node (paragraph_leaf task text) a) kind tight items = refl
task_before_list (leaf_node (heading_leaf level text) a) kind tight items = refl
task_before_list (leaf_node break_leaf a) kind tight items = refl
task_before_list (leaf_node (code_leaf lang meta body) a) kind tight items = refl
task_before_list (leaf_node (html_leaf lines) a) kind tight items = refl
task_before_list (leaf_node (table_leaf aligns head rows) a) kind tight items = refl
task_before_list (quote_node i a) kind tight items = refl
task_before_list (list_node k t is a) kind tight items = refl

pub tasked_quote : (in_item : Bool) (a inner : Nodes) → tasked in_item (nodes_before a (quote_node inner no_nodes)) ≡ nodes_before (tasked in_item a) (quote_node inner no_nodes)
tasked_quote true a inner = task_before_quote a inner
tasked_quote false a inner = refl

pub tasked_list : (in_item : Bool) (a : Nodes) (kind : ListKind) (tight : Bool) (items : ItemNodes) →
    tasked in_item (nodes_before a (list_node kind tight items no_nodes)) ≡ nodes_before (tasked in_item a) (list_node kind tight items no_nodes)
tasked_list true a kind tight items = task_before_list a kind tight items
tasked_list false a kind tight items = refl

-- ---- a container behind what is over: what is inside stands further on

some_more : {X : Type 0} (xs ys zs : List X) → xs ++ (ys ++ (zs ++ [])) ≡ (xs ++ ys) ++ zs
some_more xs ys zs = ap (λ z. xs ++ (ys ++ z)) (append-nil zs) ∙ sym (append_assoc xs ys zs)

items_more : {X : Type 0} (ws xs ys zs : List X) → ws ++ (xs ++ ((ys ++ (zs ++ [])) ++ [])) ≡ ((ws ++ xs) ++ ys) ++ zs
items_more ws xs ys zs =
    ap (λ z. ws ++ (xs ++ z)) (append-nil (ys ++ (zs ++ [])) ∙ ap (λ z. ys ++ z) (append-nil zs))
    ∙ sym (append_assoc ws xs (ys ++ zs)) ∙ sym (append_assoc (ws ++ xs) ys zs)

pub quote_texts : (texts : List (List ℕ)) (a inner : Nodes) → texts ++ texts_in (nodes_before a (quote_node inner no_nodes)) ≡ (texts ++ texts_in a) ++ texts_in inner
unfolding texts_in
quote_texts texts a inner = ap (λ z. texts ++ z) (texts_before a (quote_node inner no_nodes)) ∙ some_more texts (texts_in a) (texts_in inner)

pub quote_definitions : (definitions : List LinkDefinition) (a inner : Nodes) →
    definitions ++ definitions_in (nodes_before a (quote_node inner no_nodes)) ≡ (definitions ++ definitions_in a) ++ definitions_in inner
unfolding definitions_in
quote_definitions definitions a inner =
    ap (λ z. definitions ++ z) (earlier_definitions a (quote_node inner no_nodes)) ∙ some_more definitions (definitions_in a) (definitions_in inner)

pub quote_placed : (n : ℕ) (a inner : Nodes) →
    placed n (nodes_before a (quote_node inner no_nodes)) ≡ blocks_before (placed n a) (block (block_quote (placed (n + length (texts_in a)) inner)) no_blocks)
unfolding placed
quote_placed n a inner = earlier_placed n a (quote_node inner no_nodes)

-- a list with one item more
abbrev pub with_last : ListKind → (tight : Bool) → ItemNodes → (inner : Nodes) → Nodes
with_last kind tight items inner = list_node kind tight (items_before items (item_node inner no_item_nodes)) no_nodes

pub list_texts : (texts : List (List ℕ)) (a : Nodes) (kind : ListKind) (tight : Bool) (items : ItemNodes) (inner : Nodes) →
    texts ++ texts_in (nodes_before a (with_last kind tight items inner)) ≡ ((texts ++ texts_in a) ++ texts_in_items items) ++ texts_in inner
unfolding texts_in texts_in_items
list_texts texts a kind tight items inner =
    ap (λ z. texts ++ z) (texts_before a (with_last kind tight items inner) ∙ ap (λ z. texts_in a ++ (z ++ [])) (item_texts_before items (item_node inner no_item_nodes)))
    ∙ items_more texts (texts_in a) (texts_in_items items) (texts_in inner)

pub list_definitions : (definitions : List LinkDefinition) (a : Nodes) (kind : ListKind) (tight : Bool) (items : ItemNodes) (inner : Nodes) →
    definitions ++ definitions_in (nodes_before a (with_last kind tight items inner)) ≡ ((definitions ++ definitions_in a) ++ definitions_in_items items) ++ definitions_in inner
unfolding definitions_in definitions_in_items
list_definitions definitions a kind tight items inner =
    ap (λ z. definitions ++ z) (earlier_definitions a (with_last kind tight items inner) ∙ ap (λ z. definitions_in a ++ (z ++ [])) (item_definitions_before items (item_node inner no_item_nodes)))
    ∙ items_more definitions (definitions_in a) (definitions_in_items items) (definitions_in inner)

pub list_placed : (n : ℕ) (a : Nodes) (kind : ListKind) (tight : Bool) (items : ItemNodes) (inner : Nodes) →
    let m = n + length (texts_in a) in
    placed n (nodes_before a (with_last kind tight items inner))
    ≡ blocks_before (placed n a) (block (list kind tight (placed_before (placed_items m items) (item (placed (m + length (texts_in_items items)) inner) no_items))) no_blocks)
unfolding placed placed_items
list_placed n a kind tight items inner =
    let m = n + length (texts_in a) in
    earlier_placed n a (with_last kind tight items inner)
    ∙ ap (λ z. blocks_before (placed n a) (block (list kind tight z) no_blocks)) (placed_items_before m items (item_node inner no_item_nodes))

-- a list whose last item is over
pub ended_placed : (n : ℕ) (a : Nodes) (kind : ListKind) (tight : Bool) (items : ItemNodes) →
    placed n (nodes_before a (list_node kind tight items no_nodes)) ≡ blocks_before (placed n a) (block (list kind tight (placed_items (n + length (texts_in a)) items)) no_blocks)
unfolding placed
ended_placed n a kind tight items = earlier_placed n a (list_node kind tight items no_nodes)

-- where what stands behind some texts and trees begins
pub behind : (texts : List (List ℕ)) (a : Nodes) → length texts + length (texts_in a) ≡ length (texts ++ texts_in a)
behind texts a = sym (length-append texts (texts_in a))
