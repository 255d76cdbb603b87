use Rattle.std.proofs.Common.{◌≤◌, subst}
use Rattle.std.proofs.lemmas.List.{get_or_default}
use Rattle.mdtext.proofs.HeldMembers.{table_more}
use Rattle.mdtext.proofs.ResortedTexts.{no_span}
use Rattle.mdtext.proofs.member_texts.is_table.Goals as goal

pub loop-at-preserved : goal.loop-at-preserved
loop-at-preserved c =
    let l = c.loop-at in
    let spans = c.args.spans.now in
    table_more c.args.bytes.now spans l.at l.invariant (λ d. subst (λ s. s.text ≤ s.end) (get_or_default spans l.at no_span d c.loop-at-test.true) c.if-span.false)
    (λ d more. c.is_given_again.ensures.last c.if-is_given_again.false more d)
