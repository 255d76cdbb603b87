use Rattle.std.proofs.Common.{◌∙◌, Some, ap, arith, get_or, refl, sym}
use Rattle.std.specs.BTreeMap.{insert_entry}
use Rattle.std.specs.Cmp.Lexicographic.{slice_cmp}
use Rattle.std.specs.Ordering.{nat_cmp}
use Rattle.mdtext.proofs.HeldMembers.{named_at, no_part, text_at}
use Rattle.mdtext.proofs.ResortedTexts.{given_again, no_span, table_ends, text_missing, text_put}
use Rattle.mdtext.proofs.member_texts.table_of.Goals as goal

pub loop-at-preserved-then-is_given_again : goal.loop-at-preserved-then-is_given_again
loop-at-preserved-then-is_given_again c =
    let l = c.loop-at in
    let again = c.is_given_again.ensures.again c.if-is_given_again.true in
    given_again c.args.bytes.now c.args.spans.now l.at l.table no_span c.loop-at-test.true l.invariant again.0 (again.1 no_span)

pub returns-then-span-clause-err : goal.returns-then-span-clause-err
returns-then-span-clause-err c =
    let l = c.loop-at in
    let bytes = c.args.bytes.now in
    let spans = c.args.spans.now in
    let span = get_or spans l.at no_span in
    let last = c.is_given_again.ensures.last c.if-is_given_again.false in
    λ other. (refl, text_missing bytes spans l.at no_span c.requires.order c.loop-at-test.true l.table l.invariant (λ more. last more no_span) (no_part bytes span.text span.end c.if-span.true))

pub loop-at-preserved : goal.loop-at-preserved
loop-at-preserved c =
    let l = c.loop-at in
    let bytes = c.args.bytes.now in
    let spans = c.args.spans.now in
    let span = get_or spans l.at no_span in
    let held = c.requires.held l.at no_span c.loop-at-test.true in
    let text = c.named_text.result.1.now in
    let lent = c.named_text.ensures in
    text_put bytes spans l.at l.table no_span c.loop-at-test.true text c.put.new.self l.invariant (text_at bytes span held c.if-span.false ∙ ap (λ p. Some p.1) (sym lent))
    (c.in_ok-put.ensures ∙ ap (λ n. insert_entry (slice_cmp nat_cmp) l.table n text) (ap (λ p. p.0) lent ∙ sym (named_at bytes span held)))

pub returns-clause-ok : goal.returns-clause-ok
returns-clause-ok c =
    let l = c.loop-at in
    table_ends c.args.bytes.now c.args.spans.now l.at l.table l.invariant (omega (arith, c.loop-at-test.false)) ∙ ap Some (sym c.fit.ensures)
