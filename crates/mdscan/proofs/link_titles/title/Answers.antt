use Rattle.mdscan.proofs.Ends.{if_some, if_both, span_is, after_enclosed}
use Rattle.mdscan.proofs.link_titles.title.Goals as goal

pub returns-clause-span : goal.returns-clause-span
returns-clause-span c =
    if_some c.quoted.result _ _ (λ dest h. span_is c.args.text.now c.as_bytes.result.now c.args.at dest.span c.as_bytes.ensures.value c.utf8.text h) c.quoted.ensures.enclosed

pub returns-clause-end : goal.returns-clause-end
returns-clause-end c =
    if_both c.quoted.result _ _ _ (λ dest h e. after_enclosed c.args.text.now c.as_bytes.result.now c.args.at dest.span dest.end c.as_bytes.ensures.value c.utf8.text h e) c.quoted.ensures.enclosed c.quoted.ensures.end
