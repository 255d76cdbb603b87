use Rattle.std.proofs.Common.{◌≡◌, ◌<◌, ◌∙◌, true, ◌||◌, get_or, sym, subst}
use Rattle.std.specs.Prelude.{◌==◌, slice_index}
use Rattle.mdinline.proofs.LoneMarks.{mark_end, mark_there, small_mark}
use Rattle.mdinline.proofs.PlainTokens.{byte_span}
use Rattle.mdinline.proofs.texts.begins_mark.Goals as goal

pub returns-clause-end : goal.returns-clause-end
returns-clause-end c = λ is.
    let small : slice_index c.args.text.now c.args.at < 128 = subst (λ t. slice_index t c.args.at < 128) c.as_bytes.ensures.value (small_mark _ (sym c.is_lone.ensures ∙ is)) in
    mark_end c.args.text.now c.args.at c.utf8.text c.requires small

pub returns-clause-token : goal.returns-clause-token
returns-clause-token c = λ is whole.
    let small : slice_index c.args.text.now c.args.at < 128 = subst (λ t. slice_index t c.args.at < 128) c.as_bytes.ensures.value (small_mark _ (sym c.is_lone.ensures ∙ is)) in
    byte_span c.args.text.now c.args.at c.utf8.text whole c.requires small

pub returns-clause-value : goal.returns-clause-value
returns-clause-value c = λ is entities.
    mark_there entities c.args.text.now c.args.at
    (subst (λ t. (get_or t c.args.at 0 == 34 || get_or t c.args.at 0 == 62) ≡ true) c.as_bytes.ensures.value (sym c.is_lone.ensures ∙ is))
