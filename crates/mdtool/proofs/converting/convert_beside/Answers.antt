use Rattle.std.proofs.Common.{ap, ◌∙◌, string_bytes}
use Rattle.std.specs.Prelude.{not}
use Rattle.std.proofs.lemmas.Result.{err_from_is_err_and}
use Rattle.mdtool.proofs.Conversions.{page_no_html, page_reads, page_refusal_stays, page_unread}
use Rattle.mdtool.proofs.converting.convert_beside.Goals as goal

pub returns-in_err-text-clause-converted : goal.returns-in_err-text-clause-converted
returns-in_err-text-clause-converted g c = λ given is.
    let p = err_from_is_err_and c.from_residual.result c.from_residual.ensures.1 in
    rw (p.1, p.2) (page_unread _ given _ _ _ (Unit {0}) c.in_err-text.field-0.0 _ is.stands c.in_err-text.ensures.steps)

pub returns-in_err-html-clause-converted : goal.returns-in_err-html-clause-converted
returns-in_err-html-clause-converted g c = λ given is.
    page_no_html _ given _ _ _ c.from_residual-in_err-html.result c.in_err-html.field-0.0 _ _ c.from_residual-in_err-html.ensures.1 c.deref.ensures is.stands
    c.in_ok-text.ensures.steps (c.in_err-html.ensures.html given is)

pub returns-in_err-html-clause-feed : goal.returns-in_err-html-clause-feed
returns-in_err-html-clause-feed g c =
    c.in_ok-text.ensures.failures
    ∙ (page_refusal_stays c.from_residual-in_err-html.result c.in_err-html.field-0.0 _ 0 c.from_residual-in_err-html.ensures.1 c.in_err-html.ensures.refusal).0

pub returns-in_err-html-clause-out : goal.returns-in_err-html-clause-out
returns-in_err-html-clause-out g c =
    (page_refusal_stays c.from_residual-in_err-html.result c.in_err-html.field-0.0 0 _ c.from_residual-in_err-html.ensures.1 c.in_err-html.ensures.refusal).1

pub returns-then-is_err-clause-converted : goal.returns-then-is_err-clause-converted
returns-then-is_err-clause-converted g c = λ given is.
    let front = rw (c.is_err.ensures.negation ∙ ap not c.if-is_err.true, c.as_bytes.ensures.value) at c.send.ensures in
    let html = string_bytes c.in_ok-html.html in
    (html, page_reads _ given _ _ _ _ html c.deref.ensures is.stands c.in_ok-text.ensures.steps (c.in_ok-html.ensures.html given is), front.0)

pub returns-clause-converted : goal.returns-clause-converted
returns-clause-converted g c = λ given is.
    let all = rw (c.is_err.ensures.negation ∙ ap not c.if-is_err.false, c.as_bytes.ensures.value) at c.send.ensures in
    let html = string_bytes c.in_ok-html.html in
    (html, page_reads _ given _ _ _ _ html c.deref.ensures is.stands c.in_ok-text.ensures.steps (c.in_ok-html.ensures.html given is), all.0)
