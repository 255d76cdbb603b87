use Rattle.std.proofs.Common.{ap, sym, ◌∙◌, string_bytes, fold}
use Rattle.mdtext.specs.Labels.{add_word, words}
use Rattle.mdtext.proofs.LabelWords.{fold_run}
use Rattle.mdtext.proofs.labels.append_collapsed.Goals as goal

pub returns-in_default : goal.returns-in_default
returns-in_default c =
    c.in_ok-push_word.ensures ∙ ap (λ r. fold add_word (string_bytes c.loop-after.text) (words r)) (sym (rw c.in_default.is at c.split_at_special.ensures.whole)) ∙ c.loop-after.invariant.so_far

pub loop-after-preserved : goal.loop-after-preserved
loop-after-preserved c =
    let plain = rw c.of-spaces.ensures at c.split_at_special.ensures.plain in
    let space = rw (c.in-Some.is, c.of-spaces.ensures) at c.split_at_special.ensures.special in
    record {
      text = rw c.in-Some.is at c.split_at_special.ensures.text;
      so_far = ap (λ t. fold add_word t (words c.in-Some.after.now)) c.in_ok-push_word.ensures ∙ sym (fold_run _ _ _ _ plain space)
          ∙ ap (λ r. fold add_word (string_bytes c.loop-after.text) (words r)) (sym (rw c.in-Some.is at c.split_at_special.ensures.whole)) ∙ c.loop-after.invariant.so_far;
    }
