-- Delimiter runs (CommonMark 6.2; GFM Strikethrough (extension)).
use Rattle.std.specs.Prelude.{ℕ, List, Option, Some, None}
use Rattle.mdtext.specs.EntityTable.{EntityTable}
use Rattle.mdpair.specs.declared.delimiter_runs.DelimiterRun.{DelimiterRun}
use Rattle.mdpair.specs.Neighbours.{run_at}
use Rattle.inlinespec.specs.Lexemes.{Delimiters, Lexeme, as_written}
use Rattle.inlinespec.specs.Strikethrough.{kept_run}

-- the run of delimiters that begins at a place (CommonMark 6.2, GFM Strikethrough (extension))
abbrev pub delimiters_at : EntityTable → List ℕ → ℕ → Option DelimiterRun
delimiters_at entities text at = kept_run entities (run_at text at)

-- a run of delimiters with what it can do
abbrev pub run_lexeme : List ℕ → Option DelimiterRun → Lexeme
run_lexeme text None = as_written 1 text
run_lexeme text (Some run) = record { size = run.length; kind = Delimiters run }
