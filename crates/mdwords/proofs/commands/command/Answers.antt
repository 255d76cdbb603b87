use Rattle.std.proofs.Common.{rules, ap, ap₂, ◌≡◌, ◌∙◌}
use Rattle.clap.specs.Words.{App, rule_of, with_rule}
use Rattle.mdwords.specs.ToolWords.{file_rule, with_done_anyway, with_names, with_reading, with_replies, with_version, with_writing}
use Rattle.mdwords.proofs.commands.command.Goals as goal

pub returns : goal.returns
returns c =
    let file : rule_of c.help.result ≡ file_rule = search rules in
    c.versioned.ensures ∙ ap with_version
    (c.described.ensures ∙ c.in_ok-command-3.ensures.shape (search rules) ∙ ap₂ with_rule
    (c.in_ok-with_done_anyway.ensures ∙ ap with_done_anyway
    (c.in_ok-command-2.ensures ∙ ap (with_replies c.args.program.now)
    (c.in_ok-command.ensures ∙ ap (λ (app : App). with_reading (with_names (with_writing app))) c.new.ensures.app)))
    file)
