use Rattle.std.proofs.Common.{◌≡◌, drop}
use Rattle.clap.specs.Words.{app_of}
use Rattle.mdwords.specs.ToolWords.{with_choices}
use Rattle.mdwords.proofs.commands.with_options.Given as goal

-- What is there with the options that are left is all.
abbrev pub invariant-loop-choice : goal.invariant-loop-choice
invariant-loop-choice l = with_choices (drop l.choice-index l.fn.options) (app_of l.all) ≡ with_choices l.fn.options (app_of l.fn.command)
