use Rattle.std.proofs.Common.{ap, sym, ◌∙◌, ◌++◌, string_bytes}
use Rattle.mdhtml.proofs.InlineWriterSteps.{takes_text}
use Rattle.mdhtml.proofs.inline_writer.InlineWriterInlineSink.plain.Goals as goal

pub returns : goal.returns
returns c = takes_text c.args.self.now c.push_str.new.self c.args.text.now (c.in_ok-push_str.ensures.bytes ∙ ap (λ s. string_bytes c.args.self.now.html ++ s) (sym c.requires))
