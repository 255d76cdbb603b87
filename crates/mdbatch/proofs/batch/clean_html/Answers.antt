use Rattle.std.proofs.lemmas.Result.{IfErr-weaker, err_from_is_err_and}
use Rattle.mdbatch.specs.CleanText.{units_in}
use Rattle.mdbatch.proofs.WholeTexts.{of_reading, of_texts}
use Rattle.mdbatch.proofs.batch.clean_html.Goals as goal

pub returns-in_err-html-clause-fault : goal.returns-in_err-html-clause-fault
returns-in_err-html-clause-fault c =
    let p = err_from_is_err_and c.from_residual.result c.from_residual.ensures.1 in
    rw (p.1, p.2) (of_reading _ _ c.in_err-html.field-0.0 c.in_err-html.ensures.fault)

pub returns-in_err-gathered-clause-fault : goal.returns-in_err-gathered-clause-fault
returns-in_err-gathered-clause-fault c =
    let p = err_from_is_err_and c.from_residual-in_err-gathered.result c.from_residual-in_err-gathered.ensures.1 in
    rw (p.1, p.2) (of_reading _ _ c.in_err-gathered.field-0.0 c.in_err-gathered.ensures.fault)

pub returns-clause-html : goal.returns-clause-html
returns-clause-html c = c.gathered_html.ensures.html (units_in c.args.clean) c.in_ok-gathered.ensures.gathers

pub returns-clause-fault : goal.returns-clause-fault
returns-clause-fault c =
    IfErr-weaker c.gathered_html.result _ _ (λ fault h. of_texts _ _ fault c.in_ok-gathered.ensures.nesting h)
    (c.gathered_html.ensures.fault (units_in c.args.clean) c.in_ok-gathered.ensures.gathers)
