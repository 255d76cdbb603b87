use Rattle.mdscan.proofs.Ends.{if_some, span_is}
use Rattle.mdscan.proofs.link_labels.link_label.Goals as goal

pub returns-clause-span : goal.returns-clause-span
returns-clause-span c =
    if_some c.brackets.result _ _ (λ span h. span_is c.args.text.now c.as_bytes.result.now c.args.at span c.as_bytes.ensures.value c.utf8.text h) c.brackets.ensures.enclosed
