use Rattle.std.proofs.Common.{◌≡◌, get_or, IfOk, sym, subst, rules}
use Rattle.mdinline.specs.held.Recognised.{IsFound}
use Rattle.mdinline.proofs.Marks.{if_ok}
use Rattle.mdinline.proofs.SignItems.{at_backslash, at_ampersand, at_backtick, at_less_than, at_space, at_feed, at_quiet}
use Rattle.mdinline.proofs.scanner.Scanner.marked.Goals as goal

pub returns-in-92-clause-value : goal.returns-in-92-clause-value
returns-in-92-clause-value c = λ no_run no_bracket known.
    let entities = c.args.entities.now in
    let first = subst (λ t. get_or t c.args.at 0 ≡ 92) c.as_bytes.ensures.value c.in-92.is in
    subst (λ l. IsFound entities c.args.text.now c.args.at l c.escape.result) (sym (at_backslash entities c.args.text.now c.args.at first)) (c.escape.ensures.value first entities)

pub returns-in-38-clause-value : goal.returns-in-38-clause-value
returns-in-38-clause-value c = λ no_run no_bracket known.
    let entities = c.args.entities.now in
    let first = subst (λ t. get_or t c.args.at 0 ≡ 38) c.as_bytes.ensures.value c.in-38.is in
    subst (λ l. IsFound entities c.args.text.now c.args.at l c.reference.result) (sym (at_ampersand entities c.args.text.now c.args.at first)) c.reference.ensures.value

pub returns-in-96-clause-value : goal.returns-in-96-clause-value
returns-in-96-clause-value c = λ no_run no_bracket known.
    let entities = c.args.entities.now in
    let first = subst (λ t. get_or t c.args.at 0 ≡ 96) c.as_bytes.ensures.value c.in-96.is in
    subst (λ l. IfOk c.code_or_run.result (λ found. IsFound entities c.args.text.now c.args.at l found)) (sym (at_backtick entities c.args.text.now c.args.at first))
    (if_ok c.code_or_run.result _ _ (λ found h. h entities) (c.code_or_run.ensures.value first known.strings))

pub returns-in-60-clause-value : goal.returns-in-60-clause-value
returns-in-60-clause-value c = λ no_run no_bracket known.
    let entities = c.args.entities.now in
    let first = subst (λ t. get_or t c.args.at 0 ≡ 60) c.as_bytes.ensures.value c.in-60.is in
    subst (λ l. IsFound entities c.args.text.now c.args.at l c.autolink_or_html.result) (sym (at_less_than entities c.args.text.now c.args.at first)) (c.autolink_or_html.ensures.value first known.ends entities)

pub returns-in-32-clause-value : goal.returns-in-32-clause-value
returns-in-32-clause-value c = λ no_run no_bracket known.
    let entities = c.args.entities.now in
    let first = subst (λ t. get_or t c.args.at 0 ≡ 32) c.as_bytes.ensures.value c.in-32.is in
    subst (λ l. IsFound entities c.args.text.now c.args.at l c.line_break.result) (sym (at_space entities c.args.text.now c.args.at first)) (c.line_break.ensures.value entities)

pub returns-in-10-clause-value : goal.returns-in-10-clause-value
returns-in-10-clause-value c = λ no_run no_bracket known.
    let entities = c.args.entities.now in
    let first = subst (λ t. get_or t c.args.at 0 ≡ 10) c.as_bytes.ensures.value c.in-10.is in
    subst (λ l. IsFound entities c.args.text.now c.args.at l c.line_break-in-10.result) (sym (at_feed entities c.args.text.now c.args.at first)) (c.line_break-in-10.ensures.value entities)

pub returns-in_default-clause-value : goal.returns-in_default-clause-value
returns-in_default-clause-value c = λ no_run no_bracket known.
    let same = c.as_bytes.ensures.value in
    at_quiet c.args.entities.now c.args.text.now c.args.at (λ e. (let there = subst (λ t. get_or t c.args.at 0 ≡ 92) (sym same) e in search rules)) (λ e. (let there = subst (λ t. get_or t c.args.at 0 ≡ 38) (sym same) e in search rules))
    (λ e. (let there = subst (λ t. get_or t c.args.at 0 ≡ 96) (sym same) e in search rules)) (λ e. (let there = subst (λ t. get_or t c.args.at 0 ≡ 60) (sym same) e in search rules))
    (λ e. (let there = subst (λ t. get_or t c.args.at 0 ≡ 32) (sym same) e in search rules)) (λ e. (let there = subst (λ t. get_or t c.args.at 0 ≡ 10) (sym same) e in search rules)) no_run no_bracket
