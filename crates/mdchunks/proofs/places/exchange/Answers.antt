use Rattle.std.proofs.Common.{◌-◌, ◌∙◌, ap, arith, get_or}
use Rattle.std.proofs.lemmas.List.{get_or_default}
use Rattle.std.proofs.Math.ListN.{set}
use Rattle.mdchunks.specs.Lists.{joined}
use Rattle.mdchunks.proofs.Joined.{StandsAt, in_front, member_at, set_at}
use Rattle.mdchunks.proofs.places.exchange.Given.{Over}
use Rattle.mdchunks.proofs.places.exchange.Goals.{After-locate-place}
use Rattle.mdchunks.proofs.places.exchange.Goals as goal

found : (g : Over) (c : After-locate-place g) → StandsAt c.args.chunks.now c.locate-place.result.chunk (c.locate-place.result.inside - 1) c.args.i
found g c =
    let at = c.locate-place.ensures in
    let here = at.found (omega arith) in
    in_front c.args.chunks.now c.locate-place.result.chunk c.locate-place.result.inside c.args.i here (at.behind (omega arith)) at.inside at.place

pub returns-clause-members : goal.returns-clause-members
returns-clause-members g c =
    let xss = c.args.chunks.now in
    let chunk = c.locate-place.result.chunk in
    let k = c.locate-place.result.inside - 1 in
    let here = found g (goal.at.returns-clause-members g c).After-locate-place in
    let old = get_or xss chunk c.index-chunks-place.result in
    ap (λ ys. joined (set xss chunk ys)) c.exchange.ensures.value
    ∙ set_at xss chunk k c.args.i old c.args.other.now here.here (get_or_default xss chunk c.index-chunks-place.result old here.here) here.within here.place

pub returns-clause-old : goal.returns-clause-old
returns-clause-old g c =
    let xss = c.args.chunks.now in
    let chunk = c.locate-place.result.chunk in
    let k = c.locate-place.result.inside - 1 in
    let here = found g (goal.at.returns-clause-old g c).After-locate-place in
    let old = get_or xss chunk c.index-chunks-place.result in
    member_at xss chunk k c.args.i old c.exchange.new.member here.here (get_or_default xss chunk c.index-chunks-place.result old here.here) here.within
    here.place c.exchange.ensures.old
