use Rattle.std.proofs.Common.{◌≡◌, ◌+◌, ℕ, List, arith, subst}
use Rattle.std.proofs.lemmas.List.{take_rest}
use Rattle.mdscan.specs.Autolink.{dotted_label_length}
use Rattle.mdscan.specs.Repeats.{repeats}
use Rattle.mdscan.proofs.Sequences.{element_passed, elements_end}
use Rattle.mdscan.proofs.autolinks.dotted_labels.Goals as goal

pub loop-length-preserved : goal.loop-length-preserved
loop-length-preserved c =
    let text = c.args.text.now in
    let at : ℕ = c.loop-length.at + c.loop-length.length in
    let next = c.dotted_label-length-in-loop-length in
    (omega arith, subst (λ (t : List ℕ). next.result ≡ dotted_label_length t) (take_rest text at) next.ensures.value, element_passed dotted_label_length text c.loop-length.at c.loop-length.length (repeats dotted_label_length text) (omega arith) (omega arith) c.loop-length.invariant.1 c.loop-length.invariant.2)

pub returns-clause-value : goal.returns-clause-value
returns-clause-value c = elements_end dotted_label_length c.args.text.now c.loop-length.at c.loop-length.length (repeats dotted_label_length c.args.text.now) (omega arith) c.loop-length.invariant.1 c.loop-length.invariant.2
