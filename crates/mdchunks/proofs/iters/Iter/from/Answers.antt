use Rattle.std.proofs.Common.{◌∙◌}
use Rattle.mdchunks.proofs.Joined.{drop_place}
use Rattle.mdchunks.proofs.iters.Iter.from.Goals as goal

pub returns : goal.returns
returns g c =
    let place = c.locate.result in
    c.at.ensures ∙ drop_place c.args.chunks.now place.chunk place.inside c.args.at c.locate.ensures.inside c.locate.ensures.place
