use Rattle.std.proofs.Common.{ℕ, List, subst}
use Rattle.mdscan.specs.LinkTail.{AreTailSpans}
use Rattle.mdscan.proofs.Ends.{if_some, end_is}
use Rattle.mdscan.proofs.link_tails.inline_tail.Goals as goal

pub returns-clause-end : goal.returns-clause-end
returns-clause-end c =
    if_some c.parentheses.result _ _ (λ tail h. end_is c.args.text.now c.as_bytes.result.now c.args.at tail.end c.as_bytes.ensures.value c.utf8.text h) c.parentheses.ensures.end

pub returns-clause-spans : goal.returns-clause-spans
returns-clause-spans c =
    if_some c.parentheses.result _ _ (λ tail h. subst (λ (t : List ℕ). AreTailSpans t tail) c.as_bytes.ensures.value h) (c.parentheses.ensures.spans c.as_bytes.ensures.utf8)
