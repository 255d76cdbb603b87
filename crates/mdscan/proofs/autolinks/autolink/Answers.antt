use Rattle.mdscan.proofs.Ends.{if_some, end_is}
use Rattle.mdscan.proofs.autolinks.autolink.Goals as goal

pub returns-clause-end : goal.returns-clause-end
returns-clause-end c =
    if_some c.auto_at.result _ _ (λ auto h. end_is c.args.text.now c.as_bytes.result.now c.args.at auto.end c.as_bytes.ensures.value c.utf8.text h) c.auto_at.ensures.end
