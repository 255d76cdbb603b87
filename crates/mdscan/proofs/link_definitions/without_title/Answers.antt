use Rattle.std.proofs.Common.{None}
use Rattle.mdscan.proofs.Ends.{def_spans}
use Rattle.mdscan.proofs.link_definitions.without_title.Goals as goal

pub returns-clause-spans : goal.returns-clause-spans
returns-clause-spans c utf8 label dest end =
    def_spans c.args.text.now c.args.label c.args.dest None c.rest_of_line.result c.up_to.result c.up_to.ensures.end c.up_to.ensures.label c.up_to.ensures.destination c.up_to.ensures.title label dest tt (c.rest_of_line.ensures.boundary utf8 end)
