use Rattle.std.proofs.Common.{◌∙◌, arith, sym}
use Rattle.std.proofs.lemmas.List.Elements.{All-rest}
use Rattle.mdchunks.specs.Lists.{IsFilled}
use Rattle.mdchunks.proofs.Joined.{length_behind}
use Rattle.mdchunks.proofs.iters.IterIterator.next.Goals as goal

pub invariant_of-self-2 : goal.invariant_of-self-2
invariant_of-self-2 g c =
    let chunk = c.in_ok-chunk.chunk.now in
    let rest = c.in_ok-chunk.rest.now in
    let member = sym c.items.ensures.value ∙ c.in_ok-first.ensures.cases.0 in
    let fewer = length_behind c.self.inside.inside.now c.self.inside.rest.now chunk rest c.in_ok-first.first.now c.in_ok-first.others.now c.in_ok-chunk.ensures.cases.0 member in
    (All-rest IsFilled chunk rest c.self.inside.rest.now c.in_ok-chunk.ensures.cases.0 c.self.invariant.0, omega (arith, fewer, c.self.invariant.1))
