use Rattle.mdscan.proofs.Ends.{if_some, end_is}
use Rattle.mdscan.proofs.raw_html.html_tag.Goals as goal

pub returns-clause-end : goal.returns-clause-end
returns-clause-end c =
    if_some c.html_at.result _ _ (λ end h. end_is c.args.text.now c.as_bytes.result.now c.args.at end c.as_bytes.ensures.value c.utf8.text h) c.html_at.ensures.end
