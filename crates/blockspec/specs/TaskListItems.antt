-- Task list items (GFM Task list items (extension)): an item whose first block is a paragraph that begins with a task marker. Here
-- definitions before the paragraph don't hinder.
use Rattle.std.specs.Prelude.{ℕ, List, drop, Option, Some, None}
use Rattle.mdscan.specs.declared.task_list_items.TaskMark.{TaskMark}
use Rattle.mdscan.specs.TaskListItem.{task_marker}
use Rattle.blockspec.specs.NodeTree.{Leaf, definition_leaf, paragraph_leaf, Nodes, no_nodes, leaf_node, quote_node, list_node}

-- a paragraph without the marker that it begins with, if there is one
abbrev pub task_paragraph : Option TaskMark → (text : List ℕ) → Leaf
task_paragraph None text = paragraph_leaf None text
task_paragraph (Some mark) text = paragraph_leaf (Some mark.ticked) (drop mark.after text)

abbrev pub with_task_behind : Leaf → (rest with_task : Nodes) → Nodes
with_task_behind (definition_leaf definition) rest with_task = leaf_node (definition_leaf definition) with_task
with_task_behind (paragraph_leaf task text) rest with_task = leaf_node (task_paragraph (task_marker text) text) rest
with_task_behind leaf rest with_task = leaf_node leaf rest

-- an item's nodes, where its task marker is taken off
unfoldable pub with_task : Nodes → Nodes
with_task no_nodes = no_nodes
with_task (leaf_node leaf rest) = with_task_behind leaf rest (with_task rest)
with_task (quote_node inner rest) = quote_node inner rest
with_task (list_node kind tight items rest) = list_node kind tight items rest
