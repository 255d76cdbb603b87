-- Text as it is written (CommonMark 6.9).
use Rattle.std.specs.Prelude.{◌≡◌, ◌<◌, ◌≤◌, ℕ, Bool, true, false, ◌&&◌, ◌||◌, ◌==◌, not, List, drop}
use Rattle.std.specs.Char.{is_ascii_lowercase}
use Rattle.mdtext.specs.EntityTable.{EntityTable}
use Rattle.inlinespec.specs.Lexemes.{Kind, OpenBracket, CloseBracket, as_written}
use Rattle.inlinespec.specs.Lexing.{lex}

-- from a place up to another each byte is text
abbrev pub IsWritten : List ℕ → ℕ → ℕ → Type 0
IsWritten text start end = (entities : EntityTable) (i : ℕ) → start ≤ i → i < end → lex entities text i ≡ as_written 1 (drop i text)

-- bytes at which something may begin that is not text, save of spaces before a line ending; and those that HTML escapes
abbrev pub is_stop : ℕ → Bool
is_stop b =
    not (is_ascii_lowercase b) &&
    (b == 10 || b == 33 || b == 34 || b == 38 || b == 42 || b == 60 || b == 62 || b == 91 || b == 92 || b == 93 || b == 95 || b == 96 || b == 126)

-- the bytes that HTML escapes
abbrev pub is_escaped : ℕ → Bool
is_escaped b = b == 38 || b == 60 || b == 62 || b == 34

abbrev pub is_bracket : Kind → Bool
is_bracket (OpenBracket image) = true
is_bracket CloseBracket = true
is_bracket _ = false
