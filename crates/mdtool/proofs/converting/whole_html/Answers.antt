use Rattle.mdtext.specs.Lines.{text_lines}
use Rattle.mdtool.proofs.Conversions.{page_html, page_refused}
use Rattle.mdtool.proofs.converting.whole_html.Goals as goal

pub returns-in-Ok-clause-html : goal.returns-in-Ok-clause-html
returns-in-Ok-clause-html c = λ given is.
    page_html c.in-Ok.html (record { entities = c.args.entities.now; options = c.args.options.now }) given (text_lines c.args.text.now) c.args.prelude.now is c.in-Ok.ensures.viewed

pub returns-in-Err-clause-html : goal.returns-in-Err-clause-html
returns-in-Err-clause-html c = λ given is.
    page_refused c.in-Err.fault c.refusal.result (record { entities = c.args.entities.now; options = c.args.options.now }) given (text_lines c.args.text.now) c.args.prelude.now
    c.refusal.ensures is c.in-Err.ensures.viewed

pub returns-in-Err-clause-refusal : goal.returns-in-Err-clause-refusal
returns-in-Err-clause-refusal c = (c.in-Err.fault, c.refusal.ensures)
