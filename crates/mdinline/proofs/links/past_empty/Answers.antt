use Rattle.mdinline.proofs.Marks.{past_pair}
use Rattle.mdinline.proofs.links.past_empty.Goals as goal

pub returns-then-bytes-after-eq93-clause-end : goal.returns-then-bytes-after-eq93-clause-end
returns-then-bytes-after-eq93-clause-end c =
    past_pair c.args.text.now c.as_bytes-bytes.result.now c.args.after c.as_bytes-bytes.ensures.value c.utf8.text c.if-after-bytes.true c.if-bytes-after-eq93.true
