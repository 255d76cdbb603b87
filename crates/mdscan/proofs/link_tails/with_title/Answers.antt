use Rattle.mdscan.proofs.Ends.{span_of}
use Rattle.mdscan.proofs.link_tails.with_title.Goals as goal

pub returns-in-Some-clause-spans : goal.returns-in-Some-clause-spans
returns-in-Some-clause-spans c utf8 span =
    c.close.ensures.spans span (span_of c.args.text.now c.after_spacing-next.result c.in-Some.title.span utf8 c.in-Some.ensures.enclosed)
