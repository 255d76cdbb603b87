-- Trees one behind the other, with their texts in place and as a unit has them.
use Rattle.std.specs.Prelude.{Bool, true, false}
use Rattle.blockspec.specs.BlockTree.{Blocks, no_blocks, block, Items, no_items, item}
use Rattle.blockspec.specs.NodeTree.{definition_leaf, Nodes, no_nodes, leaf_node, quote_node, list_node}

abbrev pub nodes_before : Nodes → Nodes → Nodes
nodes_before no_nodes later = later
nodes_before (leaf_node leaf rest) later = leaf_node leaf (nodes_before rest later)
nodes_before (quote_node inner rest) later = quote_node inner (nodes_before rest later)
nodes_before (list_node kind tight items rest) later = list_node kind tight items (nodes_before rest later)

abbrev pub blocks_before : Blocks → Blocks → Blocks
blocks_before no_blocks later = later
blocks_before (block b rest) later = block b (blocks_before rest later)

abbrev pub placed_before : Items → Items → Items
placed_before no_items later = later
placed_before (item blocks rest) later = item blocks (placed_before rest later)

-- whether there is more than definitions
abbrev pub has_block : Nodes → Bool
has_block no_nodes = false
has_block (leaf_node (definition_leaf definition) rest) = has_block rest
has_block (leaf_node leaf rest) = true
has_block (quote_node inner rest) = true
has_block (list_node kind tight items rest) = true
