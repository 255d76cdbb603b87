-- Backslash escapes (CommonMark 2.4).
use Rattle.std.specs.Prelude.{ℕ, List, take, drop, if◌then◌else◌}
use Rattle.mdscan.specs.BackslashEscapes.{begins_escape}
use Rattle.inlinespec.specs.InlineEvents.{written}
use Rattle.inlinespec.specs.LineBreaks.{backslash_break, break_or_written}
use Rattle.inlinespec.specs.Lexemes.{Lexeme, leaf}

-- A backslash before ASCII punctuation is dropped, and before a line ending it makes a hard break (CommonMark 6.7).
unfoldable pub escape_lexeme : List ℕ → Lexeme
escape_lexeme text = if begins_escape text then leaf 2 (written (take 1 (drop 1 text))) else break_or_written text (backslash_break text)
