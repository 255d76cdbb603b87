use Rattle.std.proofs.Common.{◌∙◌}
use Rattle.mdchunks.proofs.Joined.{drop_place}
use Rattle.mdchunks.proofs.iters.Iter.from_near.Goals as goal

pub returns : goal.returns
returns g c =
    let place = c.locate_near.result in
    c.at.ensures ∙ drop_place c.args.chunks.now place.chunk place.inside c.args.at c.locate_near.ensures.inside c.locate_near.ensures.place
