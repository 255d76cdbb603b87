use Rattle.std.proofs.Common.{◌++◌, sym, ap, ◌∙◌}
use Rattle.mdtext.proofs.TidyLabels.{tidy_collapsed, tidy_is_label}
use Rattle.mdtext.proofs.labels.collapse.Goals as goal

pub returns-then-is_tidy-clause-label : goal.returns-then-is_tidy-clause-label
returns-then-is_tidy-clause-label c = sym (tidy_is_label c.args.inside.now (sym c.is_tidy.ensures ∙ c.if-is_tidy.true))

pub returns-then-is_tidy-clause-words : goal.returns-then-is_tidy-clause-words
returns-then-is_tidy-clause-words c =
    λ _. c.in_ok-push_str.ensures.bytes ∙ ap (λ t. t ++ c.args.inside.now) c.clear.ensures.bytes ∙ sym (tidy_collapsed c.args.inside.now (sym c.is_tidy.ensures ∙ c.if-is_tidy.true))
