use Rattle.mdscan.proofs.Headings.{atx_is}
use Rattle.mdscan.proofs.atx_headings.atx.Goals as goal

pub returns-then-blank_follows-clause-line : goal.returns-then-blank_follows-clause-line
returns-then-blank_follows-clause-line c =
    atx_is c.args.rest.now c.as_bytes-line.result.now c.leading-level.result c.content.result c.as_bytes-line.ensures.value c.leading-level.ensures.count c.if-level-gt0.true c.if-level-le6.true c.if-blank_follows.ensures c.content.ensures.value
