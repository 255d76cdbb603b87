-- Units that are one list.
use Rattle.std.specs.Prelude.{◌≡◌, ℕ, List, []}
use Rattle.blockspec.specs.BlockTree.{list, Blocks, no_blocks, block}
use Rattle.mdblock.specs.BlockView.{kind_view, items_view}
use Rattle.htmlspec.specs.declared.options.Options.{Options}
use Rattle.mdhtml.specs.declared.lists.item_ends.OneList.{OneList}
use Rattle.htmlspec.specs.ListEnds.{unit_ends}

abbrev pub unit_of : OneList → Blocks
unit_of one = block (list (kind_view one.kind) one.tight (items_view one.items.now)) no_blocks

-- the blocks are not one list alone
abbrev pub NoList : Blocks → Type 0
NoList bs = (o : Options) (texts : List (List ℕ)) → unit_ends o texts bs ≡ []
