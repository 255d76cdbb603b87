use Rattle.std.proofs.Common.{◌-◌, arith}
use Rattle.mdchunks.proofs.Joined.{in_front, member_at}
use Rattle.mdchunks.proofs.places.member.Goals as goal

pub returns : goal.returns
returns g c =
    let xss = c.args.chunks.now in
    let chunk = c.locate-place.result.chunk in
    let inside = c.locate-place.result.inside in
    let at = c.locate-place.ensures in
    let here = at.found (omega arith) in
    let is = in_front xss chunk inside c.args.i here (at.behind (omega arith)) at.inside at.place in
    member_at xss chunk (inside - 1) c.args.i c.index-chunks-place.result c.index-items-place.result here c.index-chunks-place.is is.within is.place
    (rw c.items.ensures.value at c.index-items-place.is)
