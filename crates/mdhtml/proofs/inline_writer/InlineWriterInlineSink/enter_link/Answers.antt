use Rattle.std.proofs.Common.{ap, ◌∙◌, ◌∷◌, append-nil, codes, map, reverse, string_bytes}
use Rattle.std.proofs.lemmas.Result.{on_ok_weaker}
use Rattle.inlinespec.specs.InlineEvents.{LinkTo}
use Rattle.htmlspec.specs.InlineWriting.{EndTag, writing}
use Rattle.mdhtml.specs.held.InlineWriter.{end_of}
use Rattle.mdhtml.proofs.InlineWriterSteps.{takes_in_image, takes_tag}
use Rattle.mdhtml.proofs.inline_writer.InlineWriterInlineSink.enter_link.Goals as goal

pub returns-then-self : goal.returns-then-self
returns-then-self c =
    takes_in_image c.begin.result c.args.self.now c.begin.new.self (LinkTo (record { url = c.args.url.now; title = c.args.title.now })) c.if-self.true c.begin.ensures.options c.begin.ensures.begun

pub returns : goal.returns
returns c =
    let w = c.args.self.now in
    on_ok_weaker c.begin-2.result (λ begun. takes_tag w c.begin-2.new.self (LinkTo (record { url = c.args.url.now; title = c.args.title.now })) c.if-self.false c.begin-2.ensures.options
    (begun ∙ ap (λ h. writing h (EndTag (codes "</a>") ∷ reverse (map end_of w.spans.items)) w.in_image) (append-nil (string_bytes c.open_link.new.out) ∙ c.in_ok-open_link.ensures))) c.begin-2.ensures.begun
