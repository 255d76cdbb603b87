use Rattle.std.proofs.Common.{ap, codes}
use Rattle.std.proofs.lemmas.Result.{on_ok_weaker}
use Rattle.inlinespec.specs.InlineEvents.{HardBreak}
use Rattle.htmlspec.specs.InlineWriting.{shows, shown_in}
use Rattle.mdhtml.specs.held.InlineWriter.{writing_of}
use Rattle.mdhtml.proofs.InlineWriterSteps.{takes_leaf}
use Rattle.mdhtml.proofs.inline_writer.InlineWriterInlineSink.hard_break.Goals as goal

pub returns-then-self : goal.returns-then-self
returns-then-self c =
    let w = c.args.self.now in
    takes_leaf w c.push_str.new.self HardBreak (codes " ") (ap (λ t. shows (writing_of w) (shown_in t (codes " ") (codes "<br />\n"))) c.if-self.true)
    c.in_ok-push_str.ensures.bytes

pub returns : goal.returns
returns c =
    let w = c.args.self.now in
    on_ok_weaker c.write_hard.result (takes_leaf w c.write_hard.new.out HardBreak (codes "<br />\n")
    (ap (λ t. shows (writing_of w) (shown_in t (codes " ") (codes "<br />\n"))) c.if-self.false)) c.write_hard.ensures
