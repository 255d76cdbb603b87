use Rattle.std.proofs.Common.{◌≡◌, ◌≤◌, ◌∙◌, ap, arith, length, get_or}
use Rattle.mdchunks.proofs.WeightSums.{weigh_inside}
use Rattle.mdchunks.proofs.places.weight_before.Goals as goal

pub returns-then-left-len : goal.returns-then-left-len
returns-then-left-len g c =
    let chunk = c.index-chunks-i.result in
    let read = c.index-chunks-i.is in
    let long : c.len.result ≡ length (get_or c.args.chunks.now c.loop-i.i chunk) = c.len.ensures.value ∙ ap length read in
    let within : c.loop-i.left ≤ length (get_or c.args.chunks.now c.loop-i.i chunk) = omega (arith, long, c.if-left-len.true) in
    let whole = weigh_inside g.T.Weighed.weight c.args.chunks.now c.loop-i.i c.loop-i.left c.args.at chunk c.loop-i-test.true within c.loop-i.invariant.place in
    cc
