use Rattle.std.proofs.lemmas.Result.{on_ok_weaker}
use Rattle.inlinespec.specs.InlineEvents.{Emphasis, StrongEmphasis, Strikethrough}
use Rattle.mdinline.specs.SpanKinds.{span_of}
use Rattle.mdhtml.proofs.InlineWriterSteps.{takes_in_image, takes_tag}
use Rattle.mdhtml.proofs.inline_writer.InlineWriterInlineSink.enter.Goals as goal

pub returns-then-self : goal.returns-then-self
returns-then-self c =
    takes_in_image c.begin.result c.args.self.now c.begin.new.self (span_of c.args.kind) c.if-self.true c.begin.ensures.options c.begin.ensures.begun

pub returns-in-Emph : goal.returns-in-Emph
returns-in-Emph c =
    on_ok_weaker c.begin-in-Emph.result (λ w. rw c.in-Emph.is (takes_tag c.args.self.now c.begin-in-Emph.new.self Emphasis c.if-self.false c.begin-in-Emph.ensures.options w)) c.begin-in-Emph.ensures.begun

pub returns-in-Strong : goal.returns-in-Strong
returns-in-Strong c =
    on_ok_weaker c.begin-in-Strong.result (λ w. rw c.in-Strong.is (takes_tag c.args.self.now c.begin-in-Strong.new.self StrongEmphasis c.if-self.false c.begin-in-Strong.ensures.options w))
    c.begin-in-Strong.ensures.begun

pub returns-in-Strike : goal.returns-in-Strike
returns-in-Strike c =
    on_ok_weaker c.begin-in-Strike.result (λ w. rw c.in-Strike.is (takes_tag c.args.self.now c.begin-in-Strike.new.self Strikethrough c.if-self.false c.begin-in-Strike.ensures.options w))
    c.begin-in-Strike.ensures.begun
