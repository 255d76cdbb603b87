use Rattle.mdscan.proofs.Ends.{span_of}
use Rattle.mdscan.proofs.link_definitions.defined.Goals as goal

pub returns-in-Some-clause-spans : goal.returns-in-Some-clause-spans
returns-in-Some-clause-spans c utf8 = c.labelled.ensures.spans utf8 (span_of c.args.text.now 0 c.in-Some.label utf8 c.in-Some.ensures.enclosed)
