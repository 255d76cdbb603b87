-- Strikethrough (GFM Strikethrough (extension)): whether one tilde is a delimiter.
use Rattle.std.specs.Prelude.{ℕ, Bool, false, ◌&&◌, ◌==◌, Option, Some, None, if◌then◌else◌}
use Rattle.mdtext.specs.EntityTable.{EntityTable}
use Rattle.mdpair.specs.declared.delimiter_runs.DelimiterChar.{DelimiterChar}
use Rattle.mdpair.specs.declared.delimiter_runs.DelimiterChar.TheVariants.{Asterisk, Underscore, Tilde}
use Rattle.mdpair.specs.declared.delimiter_runs.DelimiterRun.{DelimiterRun}

-- so many of these characters are one tilde
abbrev pub is_lone_tilde : DelimiterChar → ℕ → Bool
is_lone_tilde Asterisk n = false
is_lone_tilde Underscore n = false
is_lone_tilde Tilde n = n == 1

-- a run, unless it is one tilde and one alone is text
abbrev pub kept_run : EntityTable → Option DelimiterRun → Option DelimiterRun
kept_run entities None = None
kept_run entities (Some run) = if is_lone_tilde run.delimiter run.length && entities.double_tilde then None else Some run
