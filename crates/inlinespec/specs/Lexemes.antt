-- What may begin at a place of a text (CommonMark 6), and how many bytes it takes.
use Rattle.std.specs.Prelude.{ℕ, Bool, List, take}
use Rattle.mdpair.specs.declared.delimiter_runs.DelimiterRun.{DelimiterRun}
use Rattle.inlinespec.specs.InlineEvents.{Event, written}

-- A leaf is an inline with nothing to be read inside it, or a text.
pub data Kind : Type 0 where
  Leaf : List Event → Kind
  Delimiters : DelimiterRun → Kind
  OpenBracket : (image : Bool) → Kind
  CloseBracket : Kind

-- how many bytes it takes, and what it is
pub record Lexeme : Type 0 where
  pub size : ℕ
  pub kind : Kind

abbrev pub leaf : ℕ → List Event → Lexeme
leaf size events = record { size = size; kind = Leaf events }

-- so many bytes of a text as they are written
abbrev pub as_written : ℕ → List ℕ → Lexeme
as_written n text = leaf n (written (take n text))

abbrev pub bracket_lexeme : ℕ → (image : Bool) → Lexeme
bracket_lexeme size image = record { size = size; kind = OpenBracket image }
