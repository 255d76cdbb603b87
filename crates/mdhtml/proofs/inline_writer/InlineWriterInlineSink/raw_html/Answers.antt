use Rattle.std.proofs.Common.{ap}
use Rattle.std.proofs.lemmas.Result.{on_ok_weaker}
use Rattle.mdtext.specs.HtmlEscapes.{escaped}
use Rattle.inlinespec.specs.InlineEvents.{RawHtml}
use Rattle.htmlspec.specs.InlineHtml.{raw_html}
use Rattle.htmlspec.specs.InlineWriting.{shows, shown_in}
use Rattle.mdhtml.specs.held.InlineWriter.{writing_of}
use Rattle.mdhtml.proofs.InlineWriterSteps.{takes_leaf}
use Rattle.mdhtml.proofs.inline_writer.InlineWriterInlineSink.raw_html.Goals as goal

pub returns-then-self : goal.returns-then-self
returns-then-self c =
    let s = c.args.html.now in
    let w = c.args.self.now in
    on_ok_weaker c.escape_text.result (takes_leaf w c.escape_text.new.out (RawHtml s) (escaped s)
    (ap (λ t. shows (writing_of w) (shown_in t (escaped s) (raw_html w.options s))) c.if-self.true)) c.escape_text.ensures.ok

pub returns-else-self : goal.returns-else-self
returns-else-self c =
    let s = c.args.html.now in
    let w = c.args.self.now in
    on_ok_weaker c.write_raw.result (takes_leaf w c.write_raw.new.out (RawHtml s) (raw_html w.options s)
    (ap (λ t. shows (writing_of w) (shown_in t (escaped s) (raw_html w.options s))) c.if-self.false)) c.write_raw.ensures
