use Rattle.std.proofs.Common.{ap, ◌∙◌, ◌∷◌, ◌++◌, true, append-nil, map, reverse, string_bytes}
use Rattle.inlinespec.specs.InlineEvents.{ImageOf}
use Rattle.htmlspec.specs.InlineHtml.{image_begins}
use Rattle.htmlspec.specs.InlineWriting.{EndImage, writing}
use Rattle.mdhtml.specs.held.InlineWriter.{end_of}
use Rattle.mdhtml.proofs.InlineWriterSteps.{takes_in_image, takes_tag}
use Rattle.mdhtml.proofs.inline_writer.InlineWriterInlineSink.enter_image.Goals as goal

pub returns-then-self : goal.returns-then-self
returns-then-self c =
    takes_in_image c.begin.result c.args.self.now c.begin.new.self (ImageOf (record { url = c.args.url.now; title = c.args.title.now })) c.if-self.true c.begin.ensures.options c.begin.ensures.begun

pub returns : goal.returns
returns c =
    let w = c.args.self.now in
    let ends = reverse (map end_of w.spans.items) in
    takes_tag w _ (ImageOf (record { url = c.args.url.now; title = c.args.title.now })) c.if-self.false c.in_ok-begin.ensures.options
    (ap (λ v. writing v.html v.ends true) c.in_ok-begin.ensures.begun
    ∙ ap (λ h. writing h (EndImage (string_bytes c.in_ok-title.title) ∷ ends) true) (append-nil (string_bytes c.begin_image.new.out) ∙ c.in_ok-begin_image.ensures)
    ∙ ap (λ t. writing (string_bytes w.html ++ image_begins w.options c.args.url.now) (EndImage t ∷ ends) true) c.in_ok-title.ensures.ok)
