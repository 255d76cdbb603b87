use Rattle.std.proofs.Common.{ap, codes}
use Rattle.std.proofs.lemmas.Result.{on_ok_weaker}
use Rattle.inlinespec.specs.InlineEvents.{SoftBreak}
use Rattle.htmlspec.specs.InlineHtml.{break_html}
use Rattle.htmlspec.specs.InlineWriting.{shows, shown_in}
use Rattle.mdhtml.specs.held.InlineWriter.{writing_of}
use Rattle.mdhtml.proofs.InlineWriterSteps.{takes_leaf}
use Rattle.mdhtml.proofs.inline_writer.InlineWriterInlineSink.soft_break.Goals as goal

pub returns-then-self : goal.returns-then-self
returns-then-self c =
    let w = c.args.self.now in
    takes_leaf w c.push_str.new.self SoftBreak (codes " ") (ap (λ t. shows (writing_of w) (shown_in t (codes " ") (break_html w.options.breaks))) c.if-self.true)
    c.in_ok-push_str.ensures.bytes

pub returns : goal.returns
returns c =
    let w = c.args.self.now in
    on_ok_weaker c.write_soft.result (takes_leaf w c.write_soft.new.out SoftBreak (break_html w.options.breaks)
    (ap (λ t. shows (writing_of w) (shown_in t (codes " ") (break_html w.options.breaks))) c.if-self.false)) c.write_soft.ensures
