-- The trees of what closes behind the blocks that are over.
use Rattle.std.specs.Prelude.{Bool, not, ◌||◌, List, Option, None, Some}
use Rattle.blockspec.specs.BlockTree as tree
use Rattle.blockspec.specs.BlockTree.{Blocks, no_blocks, no_items}
use Rattle.mdblock.specs.BlockView.{kind_view, block_view, blocks_view, items_view}
use Rattle.mdblock.specs.held.TreesBehind.{placed_before}
use Rattle.mdblock.specs.declared.blocks.Block.{Block}
use Rattle.mdblock.specs.declared.container.lists.OpenList.{OpenList}

-- what a leaf leaves
abbrev pub found_view : Option Block → Blocks
found_view None = no_blocks
found_view (Some block) = tree.block (block_view block) no_blocks

-- a list whose last item is over (CommonMark 5.3)
abbrev pub list_view : OpenList → tree.Block
list_view list = tree.list (kind_view list.kind) (not list.loose) (items_view list.items.items)

-- a list whose last item has these blocks; with a gap between two of them it is loose
abbrev pub list_view_with : OpenList → (blocks : List Block) → (gap : Bool) → tree.Block
list_view_with list blocks gap =
    tree.list (kind_view list.kind) (not (list.loose || gap)) (placed_before (items_view list.items.items) (tree.item (blocks_view blocks) no_items))
