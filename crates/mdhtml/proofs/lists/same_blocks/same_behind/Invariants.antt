use Rattle.std.proofs.Common.{◌-◌, drop, length}
use Rattle.mdblock.specs.BlockView.{items_view}
use Rattle.mdhtml.specs.held.Alike.{ItemsAlike}
use Rattle.mdhtml.proofs.lists.same_blocks.same_behind.Given as goal

abbrev pub invariant-loop-count : goal.invariant-loop-count
invariant-loop-count l = ItemsAlike l.shared (items_view (drop (length l.items - l.count) l.items)) (items_view (drop (length l.like - l.count) l.like))
