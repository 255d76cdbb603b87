use Rattle.std.proofs.Common.{◌≡◌, ◌+◌, ℕ, List, arith, subst}
use Rattle.std.proofs.lemmas.List.{take_rest}
use Rattle.mdscan.specs.Tag.{attribute_length, attributes_length}
use Rattle.mdscan.proofs.Sequences.{element_passed, elements_end}
use Rattle.mdscan.proofs.tags.attributes.Goals as goal

pub loop-length-preserved : goal.loop-length-preserved
loop-length-preserved c =
    let text = c.args.text.now in
    let at : ℕ = c.loop-length.at + c.loop-length.length in
    let next = c.attribute-length-in-loop-length in
    (omega arith, subst (λ (t : List ℕ). next.result ≡ attribute_length t) (take_rest text at) next.ensures.value, element_passed attribute_length text c.loop-length.at c.loop-length.length (attributes_length text) (omega arith) (omega arith) c.loop-length.invariant.1 c.loop-length.invariant.2)

pub returns-clause-value : goal.returns-clause-value
returns-clause-value c = elements_end attribute_length c.args.text.now c.loop-length.at c.loop-length.length (attributes_length c.args.text.now) (omega arith) c.loop-length.invariant.1 c.loop-length.invariant.2
