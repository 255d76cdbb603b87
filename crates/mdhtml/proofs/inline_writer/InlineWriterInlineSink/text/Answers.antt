use Rattle.std.proofs.lemmas.Result.{on_ok_weaker}
use Rattle.mdhtml.proofs.InlineWriterSteps.{takes_text}
use Rattle.mdhtml.proofs.inline_writer.InlineWriterInlineSink.text.Goals as goal

pub returns : goal.returns
returns c = on_ok_weaker c.write_text.result (λ e. takes_text c.args.self.now c.write_text.new.out c.args.text.now e) c.write_text.ensures
