use Rattle.std.proofs.Common.{take}
use Rattle.mdblock.specs.BlockView.{items_view}
use Rattle.mdhtml.specs.held.Alike.{ItemsAlike}
use Rattle.mdhtml.proofs.lists.same_blocks.same_front.Given as goal

abbrev pub invariant-loop-at : goal.invariant-loop-at
invariant-loop-at l = ItemsAlike l.shared (items_view (take l.at l.items)) (items_view (take l.at l.like))
