use Rattle.std.proofs.Common.{ap, ◌∙◌, ◌++◌, codes, string_bytes}
use Rattle.std.proofs.lemmas.Result.{on_ok_weaker}
use Rattle.mdtext.specs.HtmlEscapes.{escaped}
use Rattle.inlinespec.specs.CodeSpans.{as_one_line}
use Rattle.inlinespec.specs.InlineEvents.{CodeSpan}
use Rattle.htmlspec.specs.InlineHtml.{wrapped}
use Rattle.htmlspec.specs.InlineWriting.{shows, shown_in}
use Rattle.mdhtml.specs.held.InlineWriter.{writing_of}
use Rattle.htmlspec.proofs.WrittenEvents.{tags_whole}
use Rattle.mdhtml.proofs.InlineWriterSteps.{takes_leaf}
use Rattle.mdhtml.proofs.inline_writer.InlineWriterInlineSink.code_span.Goals as goal

pub returns-then-self : goal.returns-then-self
returns-then-self c =
    let w = c.args.self.now in
    let shown = escaped (as_one_line c.args.content.now) in
    on_ok_weaker c.write_as_one_line.result (takes_leaf w c.write_as_one_line.new.out (CodeSpan (as_one_line c.args.content.now)) shown
    (ap (λ t. shows (writing_of w) (shown_in t shown (wrapped (codes "code") shown))) c.if-self.true)) c.write_as_one_line.ensures

pub returns : goal.returns
returns c =
    let w = c.args.self.now in
    let shown = escaped (as_one_line c.args.content.now) in
    takes_leaf w c.push_str-2.new.self (CodeSpan (as_one_line c.args.content.now)) (wrapped (codes "code") shown)
    (ap (λ t. shows (writing_of w) (shown_in t shown (wrapped (codes "code") shown))) c.if-self.false)
    (c.in_ok-push_str-2.ensures.bytes ∙ ap (λ h. h ++ codes "</code>") (c.in_ok-write_as_one_line.ensures ∙ ap (λ h. h ++ shown) c.in_ok-push_str.ensures.bytes)
    ∙ tags_whole (string_bytes w.html) (codes "<") (codes "code") (codes ">") shown (codes "</"))
