use Rattle.std.proofs.Common.{ap, ap₂, codes, ◌∙◌}
use Rattle.std.proofs.lemmas.Result.{IfOk-weaker}
use Rattle.clap.specs.Words.{app_of, with_rule}
use Rattle.mdwords.specs.ToolWords.{flag_rule, valued_rule}
use Rattle.mdwords.proofs.commands.with_done_anyway.Goals as goal

pub returns : goal.returns
returns c =
    let to = c.in_ok-arg.ensures.shape c.format.ensures.local ∙ ap (with_rule (app_of c.args.command)) c.format.ensures.rule in
    let both = c.in_ok-lettered.ensures.shape c.extension.ensures.local ∙ ap₂ with_rule to c.extension.ensures.rule in
    IfOk-weaker c.with_options.result _ _ (λ all is. is ∙ ap (λ app. with_rule (with_rule app (flag_rule (codes "validate-utf8"))) (valued_rule (codes "width"))) both) c.with_options.ensures
