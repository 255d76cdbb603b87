use Rattle.std.proofs.Common.{length, arith}
use Rattle.mdscan.proofs.Closes.{close_ends}
use Rattle.mdscan.proofs.raw_html.closed.Goals as goal

pub returns-in-Some-clause-end : goal.returns-in-Some-clause-end
returns-in-Some-clause-end c =
    close_ends c.args.text.now c.args.close.now (length c.args.front.now) c.in-Some.place (omega arith) c.in-Some.ensures.within c.in-Some.ensures.there c.requires.some c.requires.mark
