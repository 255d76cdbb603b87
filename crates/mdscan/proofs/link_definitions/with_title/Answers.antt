use Rattle.std.proofs.Common.{Some, refl}
use Rattle.mdscan.proofs.Ends.{after_enclosed, def_spans, span_of}
use Rattle.mdscan.proofs.link_definitions.with_title.Goals as goal

pub returns-in-Some-clause-spans : goal.returns-in-Some-clause-spans
returns-in-Some-clause-spans c utf8 label dest =
    let text = c.args.text.now in
    let next = c.after_spacing-next.result in
    let title = c.in-Some.title in
    let after = after_enclosed text text next title.span title.end refl utf8 c.in-Some.ensures.enclosed c.in-Some.ensures.end in
    def_spans text c.args.label c.args.dest (Some title.span) c.rest_of_line.result c.up_to.result c.up_to.ensures.end c.up_to.ensures.label c.up_to.ensures.destination c.up_to.ensures.title label dest (span_of text next title.span utf8 c.in-Some.ensures.enclosed) (c.rest_of_line.ensures.boundary utf8 after.whole)
