-- The nodes and edges of the code, as the definitions see them.
use Rattle.std.specs.Prelude.{List, map, drop}
use Rattle.mdblock.specs.BlockView.{block_view, item_view}
use Rattle.mdinline.specs.TreeView.{inline_view}
use Rattle.mdwalk.specs.declared.nodes.Node as n
use Rattle.mdwalk.specs.declared.nodes.Node.TheVariants as nv
use Rattle.mdwalk.specs.declared.nodes.Edge as e
use Rattle.mdwalk.specs.declared.nodes.Edge.TheVariants as ev
use Rattle.mdwalk.specs.declared.walks.Walk.{Walk}
use Rattle.mdwalk.specs.TreeEdges.{TreeNode, block_node, item_node, head_node, row_node, cell_node, inline_node, TreeEdge, enter, leave}

abbrev pub node_view : n.Node → TreeNode
node_view (nv.Block b) = block_node (block_view b.now)
node_view (nv.Item i) = item_node (item_view i.now)
node_view (nv.Head cells) = head_node cells.now
node_view (nv.Row cells) = row_node cells.now
node_view (nv.Cell text) = cell_node text
node_view (nv.Inline i) = inline_node (inline_view i.now)

abbrev pub edge_view : e.Edge → TreeEdge
edge_view (ev.Enter node) = enter (node_view node)
edge_view (ev.Leave node) = leave (node_view node)

abbrev pub edges_view : List e.Edge → List TreeEdge
edges_view edges = map edge_view edges

-- the edges to come
abbrev pub edges_left : Walk → List TreeEdge
edges_left walk = edges_view (drop walk.at walk.edges.items)
