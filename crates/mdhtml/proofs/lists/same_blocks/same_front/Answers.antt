use Rattle.std.proofs.Common.{arith}
use Rattle.mdhtml.proofs.ItemsTogether.{like_next_front}
use Rattle.mdhtml.proofs.lists.same_blocks.same_front.Goals as goal

pub loop-at-preserved : goal.loop-at-preserved
loop-at-preserved c =
    like_next_front c.args.shared c.args.items.now c.args.like.now c.loop-at.at c.index-items-at.result c.index-like-at.result (omega (arith, c.min-most.ensures)) (omega (arith, c.min-most.ensures)) c.index-items-at.is c.index-like-at.is
    c.loop-at.invariant (c.same_item.ensures c.if-not-same_item.false)
