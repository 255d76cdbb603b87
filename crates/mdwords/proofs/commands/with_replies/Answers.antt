use Rattle.std.proofs.Common.{ap, sym, ◌∙◌, if◌then◌else◌}
use Rattle.std.proofs.lemmas.Result.{IfOk-weaker}
use Rattle.clap.specs.Words.{app_of}
use Rattle.mdwords.specs.ToolWords.{with_lines}
use Rattle.mdwords.proofs.commands.with_replies.Goals as goal

pub returns-then-has_lines : goal.returns-then-has_lines
returns-then-has_lines c =
    let own = app_of c.args.command in
    IfOk-weaker c.with_options.result _ _ (λ all is. is ∙ ap (λ b. if b then with_lines own else own) (sym (sym c.has_lines.ensures ∙ c.if-has_lines.true))) c.with_options.ensures
