use Rattle.std.proofs.Common.{◌+◌, arith}
use Rattle.std.proofs.lemmas.List.{take_rest}
use Rattle.std.proofs.lemmas.List.Elements.{All-drop}
use Rattle.mdchunks.specs.Lists.{IsFilled}
use Rattle.mdchunks.proofs.Joined.{length_rest}
use Rattle.mdchunks.proofs.iters.Iter.at.Goals as goal

pub invariant_of-result-2 : goal.invariant_of-result-2
invariant_of-result-2 g c =
    let xss = c.args.chunks.now in
    let chunk = c.args.place.chunk in
    let short = length_rest xss chunk c.args.place.inside c.index-chunks-place.result c.if-place-chunks.false c.index-chunks-place.is in
    rw (take_rest c.items.result.now c.args.place.inside, take_rest xss (chunk + 1), c.items.ensures.value)
    (All-drop IsFilled (chunk + 1) xss c.requires.filled, omega (arith, short, c.requires.few))
