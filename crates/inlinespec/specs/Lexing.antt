-- What begins at a place of a text, whatever labels are defined (CommonMark 2.4, 2.5, 6; GFM Strikethrough (extension)). The text is read from the left;
-- what none of the rules takes is text, byte by byte.
use Rattle.std.specs.Prelude.{ℕ, true, false, ◌||◌, ◌==◌, List, drop, slice_index, if◌then◌else◌}
use Rattle.mdtext.specs.EntityTable.{EntityTable}
use Rattle.mdtext.specs.CharacterReferences.{reference}
use Rattle.mdscan.specs.Autolink.{autolink_at}
use Rattle.mdscan.specs.Blanks.{begins_with}
use Rattle.mdscan.specs.RawHtml.{raw_html}
use Rattle.inlinespec.specs.CodeSpans.{code_inside, code_lexeme}
use Rattle.inlinespec.specs.LineBreaks.{spaced_break, break_or_written}
use Rattle.inlinespec.specs.Lexemes.{CloseBracket, Lexeme, as_written, bracket_lexeme}
use Rattle.inlinespec.specs.BackslashEscapes.{escape_lexeme}
use Rattle.inlinespec.specs.CharacterReferences.{reference_lexeme}
use Rattle.inlinespec.specs.RawHtml.{angle_lexeme}
use Rattle.inlinespec.specs.DelimiterRuns.{delimiters_at, run_lexeme}

-- the rules by their first characters
pub data Sign : Type 0 where
  Backslash : Sign
  Ampersand : Sign
  Backtick : Sign
  LessThan : Sign
  Blank : Sign
  DelimiterMark : Sign
  Bracket : Sign
  Exclamation : Sign
  ClosingBracket : Sign
  Other : Sign

abbrev pub sign_of : ℕ → Sign
sign_of b =
    if b == 92 then Backslash else
    if b == 38 then Ampersand else
    if b == 96 then Backtick else
    if b == 60 then LessThan else
    if b == 32 || b == 10 then Blank else
    if b == 42 || b == 95 || b == 126 then DelimiterMark else
    if b == 91 then Bracket else
    if b == 33 then Exclamation else
    if b == 93 then ClosingBracket else Other

-- by the sign that stands at a place, where the text from there on is the second
abbrev pub lexeme_by : EntityTable → List ℕ → ℕ → List ℕ → Sign → Lexeme
lexeme_by entities text at rest Backslash = escape_lexeme rest
lexeme_by entities text at rest Ampersand = reference_lexeme rest (reference entities (drop 1 rest))
lexeme_by entities text at rest Backtick = code_lexeme rest (code_inside rest)
lexeme_by entities text at rest LessThan = angle_lexeme entities text at (autolink_at text at) (raw_html rest)
lexeme_by entities text at rest Blank = break_or_written rest (spaced_break rest)
lexeme_by entities text at rest DelimiterMark = run_lexeme rest (delimiters_at entities text at)
lexeme_by entities text at rest Bracket = bracket_lexeme 1 false
lexeme_by entities text at rest Exclamation = if begins_with 91 (drop 1 rest) then bracket_lexeme 2 true else as_written 1 rest
lexeme_by entities text at rest ClosingBracket = record { size = 1; kind = CloseBracket }
lexeme_by entities text at rest Other = as_written 1 rest

unfoldable pub lex : EntityTable → List ℕ → ℕ → Lexeme
lex entities text at = lexeme_by entities text at (drop at text) (sign_of (slice_index text at))
