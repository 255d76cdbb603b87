use Rattle.std.proofs.Common.{◌-◌, ◌<◌, ◌∙◌, ap, arith, get_or, length}
use Rattle.std.proofs.Math.ListN.{set}
use Rattle.std.proofs.lemmas.List.{get_or_default, take-set}
use Rattle.std.proofs.lemmas.List.Elements.{All-get_or, All-set}
use Rattle.mdchunks.specs.Lists.{IsFilled, joined}
use Rattle.mdchunks.proofs.Joined.{StandsAt, in_front, item_at, length_same, set_at}
use Rattle.mdchunks.proofs.places.change.Given.{Over}
use Rattle.mdchunks.proofs.places.change.Goals.{After-locate_near-place}
use Rattle.mdchunks.proofs.places.change.Goals as goal

found : (g : Over) (c : After-locate_near-place g) →
    StandsAt c.args.chunks.now c.locate_near-place.result.chunk (c.locate_near-place.result.inside - 1) c.args.i
found g c =
    let at = c.locate_near-place.ensures in
    in_front c.args.chunks.now c.locate_near-place.result.chunk c.locate_near-place.result.inside c.args.i at.found at.behind at.inside at.place

pub change-requires-clause-can : goal.change-requires-clause-can
change-requires-clause-can g c =
    let xss = c.args.chunks.now in
    let chunk = c.locate_near-place.result.chunk in
    let k = c.locate_near-place.result.inside - 1 in
    let old = get_or xss chunk c.index-chunks-place.result in
    let here = found g (goal.at.change-requires-clause-can g c).After-locate_near-place in
    λ d. rw (item_at xss chunk k c.args.i old d here.here (get_or_default xss chunk c.index-chunks-place.result old here.here) here.within here.place)
    (c.requires.can d)

pub returns-clause-members : goal.returns-clause-members
returns-clause-members g c =
    let xss = c.args.chunks.now in
    let chunk = c.locate_near-place.result.chunk in
    let k = c.locate_near-place.result.inside - 1 in
    let old = get_or xss chunk c.index-chunks-place.result in
    let here = found g (goal.at.returns-clause-members g c).After-locate_near-place in
    let read = get_or_default xss chunk c.index-chunks-place.result old here.here in
    λ d.
    ap (λ ys. joined (set xss chunk ys)) (c.change.ensures.value d)
    ∙ set_at xss chunk k c.args.i old (g.C.Change.changed c.args.change (get_or old k d)) here.here read here.within here.place
    ∙ ap (λ x. set (joined xss) c.args.i (g.C.Change.changed c.args.change x)) (item_at xss chunk k c.args.i old d here.here read here.within here.place)

pub returns-clause-filled : goal.returns-clause-filled
returns-clause-filled g c =
    let xss = c.args.chunks.now in
    let chunk = c.locate_near-place.result.chunk in
    let here : chunk < length xss = c.locate_near-place.ensures.found in
    let full : IsFilled (get_or xss chunk c.index-chunks-place.result) = All-get_or IsFilled xss chunk c.index-chunks-place.result here c.requires.filled in
    All-set IsFilled xss chunk c.change.new.self (omega (arith, full, c.change.ensures.len)) c.requires.filled

pub returns-clause-len : goal.returns-clause-len
returns-clause-len g c =
    let here : c.locate_near-place.result.chunk < length c.args.chunks.now = c.locate_near-place.ensures.found in
    length_same c.args.chunks.now c.locate_near-place.result.chunk c.change.new.self c.index-chunks-place.result here c.change.ensures.len

pub returns-clause-near : goal.returns-clause-near
returns-clause-near g c =
    let xss = c.args.chunks.now in
    let chunk = c.locate_near-place.result.chunk in
    let same = ap (λ yss. length (joined yss)) (take-set xss chunk c.change.new.self) in
    omega (arith, same, c.locate_near-place.ensures.place)
