use Rattle.std.proofs.Common.{refl, ap, get_or, sym, subst, ◌∙◌, arith}
use Rattle.mdinline.specs.held.PlainText.{is_escaped}
use Rattle.mdscan.specs.Spans.{IsEndAfter}
use Rattle.mdinline.proofs.FoundLeaves.{token_kept}
use Rattle.mdinline.proofs.Marks.{behind}
use Rattle.mdinline.proofs.PlainTokens.{escaped_mark}
use Rattle.mdinline.proofs.texts.plain.Goals as goal

pub returns-then-is_escaped-clause-end : goal.returns-then-is_escaped-clause-end
returns-then-is_escaped-clause-end c =
    let text = c.args.text.now in
    let inside = c.requires.inside in
    subst (λ k. IsEndAfter text c.args.at k) (sym c.leaf_of.ensures.end)
    (record {
      later = omega arith;
      within = omega (arith, inside);
      whole = behind text text c.args.at refl c.utf8.text inside (escaped_mark text c.as_bytes-bytes.result.now c.args.at c.as_bytes-bytes.ensures.value (sym c.is_escaped.ensures ∙ c.if-is_escaped.true));
    })

pub plain_end-end-requires-clause-first : goal.plain_end-end-requires-clause-first
plain_end-end-requires-clause-first c = ap (λ t. is_escaped (get_or t c.args.at 0)) (sym c.as_bytes-bytes.ensures.value) ∙ sym c.is_escaped.ensures ∙ c.if-is_escaped.false

pub returns-clause-token : goal.returns-clause-token
returns-clause-token c = token_kept c.args.text.now c.leaf_of-2.result _ c.leaf_of-2.ensures.token c.plain_end-end.ensures.token
