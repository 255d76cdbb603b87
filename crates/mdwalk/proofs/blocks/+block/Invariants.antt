use Rattle.std.proofs.Common.{◌≡◌, ◌++◌, drop}
use Rattle.mdblock.specs.BlockView.{blocks_view, items_view}
use Rattle.mdwalk.specs.TreeEdges.{blocks_edges, items_edges}
use Rattle.mdwalk.specs.EdgeView.{edges_view}
use Rattle.mdwalk.proofs.blocks.+block.Given as goal

abbrev pub invariant-push_blocks-loop-block : goal.invariant-push_blocks-loop-block
invariant-push_blocks-loop-block l =
    edges_view l.edges.items ++ blocks_edges l.texts (blocks_view (drop l.block-index l.blocks)) ≡ edges_view l.fn.edges.items ++ blocks_edges l.texts (blocks_view l.blocks)

abbrev pub invariant-push_items-loop-item : goal.invariant-push_items-loop-item
invariant-push_items-loop-item l =
    edges_view l.edges.items ++ items_edges l.texts (items_view (drop l.item-index l.items)) ≡ edges_view l.fn.edges.items ++ items_edges l.texts (items_view l.items)
