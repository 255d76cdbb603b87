use Rattle.std.proofs.Common.{◌∙◌, ap, map, subst, sym}
use Rattle.mdtext.specs.Lines.{split_lines, text_lines, without_nul}
use Rattle.mdsource.specs.SourceLimits.{refusal}
use Rattle.mdbatch.specs.BatchHtml.{TextHtml}
use Rattle.mdbatch.proofs.DueRefusals.{clean_within}
use Rattle.mdbatch.proofs.PageViews.{page_viewed}
use Rattle.mdbatch.proofs.SplitText.{lines_of_clean}
use Rattle.mdbatch.proofs.WholeTexts.{text_html}
use Rattle.mdbatch.proofs.batch.to_html.Goals as goal

pub invariant_of-clean-clause-small : goal.invariant_of-clean-clause-small
invariant_of-clean-clause-small c =
    let text = c.after_mark-text.result.now in
    (clean_within text text (sym (c.is_clean.ensures.clean c.if-is_clean.true)) c.in_ok-within_limits.ensures.within).1

pub invariant_of-clean-2-clause-few : goal.invariant_of-clean-2-clause-few
invariant_of-clean-2-clause-few c =
    (clean_within c.after_mark-text.result.now c.deref.result.now (c.deref.ensures ∙ c.in_ok-cleaned.ensures) c.in_ok-within_limits.ensures.within).0

pub invariant_of-clean-2-clause-small : goal.invariant_of-clean-2-clause-small
invariant_of-clean-2-clause-small c =
    (clean_within c.after_mark-text.result.now c.deref.result.now (c.deref.ensures ∙ c.in_ok-cleaned.ensures) c.in_ok-within_limits.ensures.within).1

pub returns-then-is_clean-clause-html : goal.returns-then-is_clean-clause-html
returns-then-is_clean-clause-html c =
    let text = c.after_mark-text.result.now in
    let lines = ap split_lines (sym (c.is_clean.ensures.clean c.if-is_clean.true)) ∙ lines_of_clean text in
    subst (λ ls. TextHtml c.clean_html.result (record { entities = c.args.entities.now; options = c.args.options.now }) c.args.prelude.now ls) (lines ∙ ap (λ t. map without_nul (split_lines t)) c.after_mark-text.ensures)
    (text_html c.clean_html.result (record { entities = c.args.entities.now; options = c.args.options.now }) c.args.prelude.now (split_lines text) (ap refusal lines ∙ c.in_ok-within_limits.ensures.within)
    c.clean_html.ensures.html c.clean_html.ensures.nesting c.clean_html.ensures.fault)

pub returns-then-is_clean-clause-viewed : goal.returns-then-is_clean-clause-viewed
returns-then-is_clean-clause-viewed c = λ defined.
    page_viewed (record { entities = c.args.entities.now; options = c.args.options.now }) (text_lines c.args.text.now) c.args.prelude.now defined c.clean_html.result
    (returns-then-is_clean-clause-html c)

pub returns-clause-html : goal.returns-clause-html
returns-clause-html c =
    let text = c.after_mark-text.result.now in
    let clean = c.deref.result.now in
    let lines = ap split_lines (c.deref.ensures ∙ c.in_ok-cleaned.ensures) ∙ lines_of_clean text in
    subst (λ ls. TextHtml c.clean_html-2.result (record { entities = c.args.entities.now; options = c.args.options.now }) c.args.prelude.now ls) (lines ∙ ap (λ t. map without_nul (split_lines t)) c.after_mark-text.ensures)
    (text_html c.clean_html-2.result (record { entities = c.args.entities.now; options = c.args.options.now }) c.args.prelude.now (split_lines clean) (ap refusal lines ∙ c.in_ok-within_limits.ensures.within)
    c.clean_html-2.ensures.html c.clean_html-2.ensures.nesting c.clean_html-2.ensures.fault)

pub returns-clause-viewed : goal.returns-clause-viewed
returns-clause-viewed c = λ defined.
    page_viewed (record { entities = c.args.entities.now; options = c.args.options.now }) (text_lines c.args.text.now) c.args.prelude.now defined c.clean_html-2.result
    (returns-clause-html c)
