-- What a unit makes of trees one behind the other: their texts and definitions follow one another, and the blocks of the
-- later one have their texts further on.
use Rattle.std.proofs.Common.{◌≡◌, ℕ, ◌+◌, true, false, List, [], ◌∷◌, ◌++◌, length, refl, sym, ◌∙◌, ap, arith, Option, Some, None}
use Rattle.std.proofs.lemmas.List.{append_assoc, length-append}
use Rattle.mdscan.specs.TaskListItem.{task_marker}
use Rattle.mdscan.specs.declared.task_list_items.TaskMark.{TaskMark}
use Rattle.blockspec.specs.BlockTree.{block_quote, list, Blocks, no_blocks, block, item}
use Rattle.blockspec.specs.Lists.{Part, Leaves, Quoted, Listed, items_before, leaves_before, part_before}
use Rattle.blockspec.specs.NodeTree.{Leaf, definition_leaf, paragraph_leaf, heading_leaf, break_leaf, code_leaf, html_leaf, table_leaf, Nodes, no_nodes, leaf_node, quote_node, list_node, ItemNodes, no_item_nodes, item_node, leaf_texts, leaf_definitions, texts_in, texts_in_items, definitions_in, definitions_in_items, leaf_block, placed, placed_items}
use Rattle.blockspec.specs.TaskListItems.{task_paragraph, with_task}
use Rattle.mdblock.specs.held.TreesBehind.{nodes_before, blocks_before, placed_before, has_block}

-- ---- trees alone

pub nodes_assoc : (a b c : Nodes) → nodes_before a (nodes_before b c) ≡ nodes_before (nodes_before a b) c
nodes_assoc no_nodes b c = refl
nodes_assoc (leaf_node leaf a) b c = ap (leaf_node leaf) (nodes_assoc a b c)
nodes_assoc (quote_node inner a) b c = ap (quote_node inner) (nodes_assoc a b c)
nodes_assoc (list_node kind tight items a) b c = ap (list_node kind tight items) (nodes_assoc a b c)

pub nodes_nil : (a : Nodes) → nodes_before a no_nodes ≡ a
nodes_nil no_nodes = refl
nodes_nil (leaf_node leaf a) = ap (leaf_node leaf) (nodes_nil a)
nodes_nil (quote_node inner a) = ap (quote_node inner) (nodes_nil a)
nodes_nil (list_node kind tight items a) = ap (list_node kind tight items) (nodes_nil a)

pub blocks_nil : (a : Blocks) → blocks_before a no_blocks ≡ a
blocks_nil no_blocks = refl
blocks_nil (block b a) = ap (block b) (blocks_nil a)

-- ---- texts and definitions

pub texts_before : (a b : Nodes) → texts_in (nodes_before a b) ≡ texts_in a ++ texts_in b
unfolding texts_in
texts_before no_nodes b = refl
texts_before (leaf_node leaf a) b = ap (λ z. leaf_texts leaf ++ z) (texts_before a b) ∙ sym (append_assoc (leaf_texts leaf) (texts_in a) (texts_in b))
texts_before (quote_node inner a) b = ap (λ z. texts_in inner ++ z) (texts_before a b) ∙ sym (append_assoc (texts_in inner) (texts_in a) (texts_in b))
texts_before (list_node kind tight items a) b = ap (λ z. texts_in_items items ++ z) (texts_before a b) ∙ sym (append_assoc (texts_in_items items) (texts_in a) (texts_in b))

pub item_texts_before : (a b : ItemNodes) → texts_in_items (items_before a b) ≡ texts_in_items a ++ texts_in_items b
unfolding texts_in_items
item_texts_before no_item_nodes b = refl
item_texts_before (item_node nodes a) b = ap (λ z. texts_in nodes ++ z) (item_texts_before a b) ∙ sym (append_assoc (texts_in nodes) (texts_in_items a) (texts_in_items b))

pub earlier_definitions : (a b : Nodes) → definitions_in (nodes_before a b) ≡ definitions_in a ++ definitions_in b
unfolding definitions_in
earlier_definitions no_nodes b = refl
earlier_definitions (leaf_node leaf a) b = ap (λ z. leaf_definitions leaf ++ z) (earlier_definitions a b) ∙ sym (append_assoc (leaf_definitions leaf) (definitions_in a) (definitions_in b))
earlier_definitions (quote_node inner a) b = ap (λ z. definitions_in inner ++ z) (earlier_definitions a b) ∙ sym (append_assoc (definitions_in inner) (definitions_in a) (definitions_in b))
earlier_definitions (list_node kind tight items a) b = ap (λ z. definitions_in_items items ++ z) (earlier_definitions a b) ∙ sym (append_assoc (definitions_in_items items) (definitions_in a) (definitions_in b))

pub item_definitions_before : (a b : ItemNodes) → definitions_in_items (items_before a b) ≡ definitions_in_items a ++ definitions_in_items b
unfolding definitions_in_items
item_definitions_before no_item_nodes b = refl
item_definitions_before (item_node nodes a) b = ap (λ z. definitions_in nodes ++ z) (item_definitions_before a b) ∙ sym (append_assoc (definitions_in nodes) (definitions_in_items a) (definitions_in_items b))

-- ---- blocks

pub further : {X : Type 0} (n : ℕ) (xs ys : List X) → n + length (xs ++ ys) ≡ (n + length xs) + length ys
further n xs ys = let l = length-append xs ys in omega (arith, l)

pub leaf_block_before : (n : ℕ) (leaf : Leaf) (a b : Blocks) → leaf_block n leaf (blocks_before a b) ≡ blocks_before (leaf_block n leaf a) b
leaf_block_before n (definition_leaf definition) a b = refl
leaf_block_before n (paragraph_leaf task text) a b = refl
leaf_block_before n (heading_leaf level text) a b = refl
leaf_block_before n break_leaf a b = refl
leaf_block_before n (code_leaf lang meta body) a b = refl
leaf_block_before n (html_leaf lines) a b = refl
leaf_block_before n (table_leaf aligns head rows) a b = refl

-- behind a part with some texts
behind : (n : ℕ) (texts rest : List (List ℕ)) (b : Nodes) → placed ((n + length texts) + length rest) b ≡ placed (n + length (texts ++ rest)) b
behind n texts rest b = ap (λ z. placed z b) (sym (further n texts rest))

pub earlier_placed : (n : ℕ) (a b : Nodes) → placed n (nodes_before a b) ≡ blocks_before (placed n a) (placed (n + length (texts_in a)) b)
unfolding placed placed_items texts_in texts_in_items
earlier_placed n no_nodes b = ap (λ z. placed z b) (let e : n ≡ n + 0 = omega arith in e)
earlier_placed n (leaf_node leaf a) b =
    ap (leaf_block n leaf) (earlier_placed (n + length (leaf_texts leaf)) a b ∙ ap (blocks_before (placed (n + length (leaf_texts leaf)) a)) (behind n (leaf_texts leaf) (texts_in a) b))
    ∙ leaf_block_before n leaf (placed (n + length (leaf_texts leaf)) a) (placed (n + length (leaf_texts leaf ++ texts_in a)) b)
earlier_placed n (quote_node inner a) b =
    ap (block (block_quote (placed n inner))) (earlier_placed (n + length (texts_in inner)) a b ∙ ap (blocks_before (placed (n + length (texts_in inner)) a)) (behind n (texts_in inner) (texts_in a) b))
earlier_placed n (list_node kind tight items a) b =
    ap (block (list kind tight (placed_items n items))) (earlier_placed (n + length (texts_in_items items)) a b ∙ ap (blocks_before (placed (n + length (texts_in_items items)) a)) (behind n (texts_in_items items) (texts_in a) b))

pub placed_items_before : (n : ℕ) (a b : ItemNodes) → placed_items n (items_before a b) ≡ placed_before (placed_items n a) (placed_items (n + length (texts_in_items a)) b)
unfolding placed placed_items texts_in texts_in_items
placed_items_before n no_item_nodes b = ap (λ z. placed_items z b) (let e : n ≡ n + 0 = omega arith in e)
placed_items_before n (item_node nodes a) b =
    ap (item (placed n nodes)) (placed_items_before (n + length (texts_in nodes)) a b ∙ ap (λ z. placed_before (placed_items (n + length (texts_in nodes)) a) (placed_items z b)) (sym (further n (texts_in nodes) (texts_in_items a))))

-- ---- groups

pub leaves_behind : (leaves : List Leaf) (rest : Nodes) → leaves_before leaves rest ≡ nodes_before (leaves_before leaves no_nodes) rest
leaves_behind [] rest = refl
leaves_behind (leaf ∷ leaves) rest = ap (leaf_node leaf) (leaves_behind leaves rest)

pub leaves_append : (xs ys : List Leaf) (rest : Nodes) → leaves_before (xs ++ ys) rest ≡ leaves_before xs (leaves_before ys rest)
leaves_append [] ys rest = refl
leaves_append (leaf ∷ xs) ys rest = ap (leaf_node leaf) (leaves_append xs ys rest)

pub part_behind : (p : Part) (rest : Nodes) → part_before p rest ≡ nodes_before (part_before p no_nodes) rest
part_behind (Leaves leaves) rest = leaves_behind leaves rest
part_behind (Quoted inner) rest = refl
part_behind (Listed kind tight items) rest = refl

-- ---- task markers

-- behind a block a marker is text
pub task_behind_block : (a b : Nodes) → has_block a ≡ true → with_task (nodes_before a b) ≡ nodes_before (with_task a) b
unfolding with_task
task_behind_block no_nodes b h = absurd (let x : ⊥ = cc in x)
task_behind_block (leaf_node (definition_leaf definition) a) b h = ap (leaf_node (definition_leaf definition)) (task_behind_block a b h)
task_behind_block (leaf_node (paragraph_leaf task text) a) b h = refl
task_behind_block (leaf_node (heading_leaf level text) a) b h = refl
task_behind_block (leaf_node break_leaf a) b h = refl
task_behind_block (leaf_node (code_leaf lang meta body) a) b h = refl
task_behind_block (leaf_node (html_leaf lines) a) b h = refl
task_behind_block (leaf_node (table_leaf aligns head rows) a) b h = refl
task_behind_block (quote_node inner a) b h = refl
task_behind_block (list_node kind tight items a) b h = refl

-- behind definitions alone it is looked for
pub task_behind_definitions : (a b : Nodes) → has_block a ≡ false → with_task (nodes_before a b) ≡ nodes_before a (with_task b)
unfolding with_task
task_behind_definitions no_nodes b h = refl
task_behind_definitions (leaf_node (definition_leaf definition) a) b h = ap (leaf_node (definition_leaf definition)) (task_behind_definitions a b h)
task_behind_definitions (leaf_node (paragraph_leaf task text) a) b h = absurd (let x : ⊥ = cc in x)
task_behind_definitions (leaf_node (heading_leaf level text) a) b h = absurd (let x : ⊥ = cc in x)
task_behind_definitions (leaf_node break_leaf a) b h = absurd (let x : ⊥ = cc in x)
task_behind_definitions (leaf_node (code_leaf lang meta body) a) b h = absurd (let x : ⊥ = cc in x)
task_behind_definitions (leaf_node (html_leaf lines) a) b h = absurd (let x : ⊥ = cc in x)
task_behind_definitions (leaf_node (table_leaf aligns head rows) a) b h = absurd (let x : ⊥ = cc in x)
task_behind_definitions (quote_node inner a) b h = absurd (let x : ⊥ = cc in x)
task_behind_definitions (list_node kind tight items a) b h = absurd (let x : ⊥ = cc in x)

task_leaf : (found : Option TaskMark) (text : List ℕ) (a : Nodes) → has_block (leaf_node (task_paragraph found text) a) ≡ true
task_leaf None text a = refl
task_leaf (Some mark) text a = refl

-- taking a marker off leaves a paragraph
pub task_has_block : (a : Nodes) → has_block (with_task a) ≡ has_block a
unfolding with_task
task_has_block no_nodes = refl
task_has_block (leaf_node (definition_leaf definition) a) = task_has_block a
task_has_block (leaf_node (paragraph_leaf task text) a) = task_leaf (task_marker text) text a
task_has_block (leaf_node (heading_leaf level text) a) = refl
task_has_block (leaf_node break_leaf a) = refl
task_has_block (leaf_node (code_leaf lang meta body) a) = refl
task_has_block (leaf_node (html_leaf lines) a) = refl
task_has_block (leaf_node (table_leaf aligns head rows) a) = refl
task_has_block (quote_node inner a) = refl
task_has_block (list_node kind tight items a) = refl

-- nothing but definitions gives no blocks, and has no texts
pub placed_none : (n : ℕ) (a : Nodes) → has_block a ≡ false → placed n a ≡ no_blocks
unfolding placed
placed_none n no_nodes h = refl
placed_none n (leaf_node (definition_leaf definition) a) h = placed_none (n + 0) a h
placed_none n (leaf_node (paragraph_leaf task text) a) h = absurd (let x : ⊥ = cc in x)
placed_none n (leaf_node (heading_leaf level text) a) h = absurd (let x : ⊥ = cc in x)
placed_none n (leaf_node break_leaf a) h = absurd (let x : ⊥ = cc in x)
placed_none n (leaf_node (code_leaf lang meta body) a) h = absurd (let x : ⊥ = cc in x)
placed_none n (leaf_node (html_leaf lines) a) h = absurd (let x : ⊥ = cc in x)
placed_none n (leaf_node (table_leaf aligns head rows) a) h = absurd (let x : ⊥ = cc in x)
placed_none n (quote_node inner a) h = absurd (let x : ⊥ = cc in x)
placed_none n (list_node kind tight items a) h = absurd (let x : ⊥ = cc in x)
