-- The text that an open paragraph's lines make (CommonMark 4.8), and what it tells of them.
use Rattle.std.specs.Prelude.{◌≡◌, ℕ, ◌+◌, Bool, ◌||◌, List, length, map}
use Rattle.mdscan.specs.Blanks.{begins_with}
use Rattle.mdleaf.specs.ParagraphText.{joined_lines}
use Rattle.blockspec.specs.BlockLine.{BlockLine, rest}
use Rattle.blockspec.specs.Tables.{last_text}

-- a text, and where its last line begins
pub record HeldText : Type 0 where
  pub text : List ℕ
  pub last : ℕ

-- the text is that of the lines
pub record HoldsLines (lines : List BlockLine) (held : HeldText) : Type 0 where
  pub whole : held.text ≡ joined_lines (map rest lines)
  pub last_one : held.last + length (last_text lines) ≡ length held.text

-- a bar, a hyphen or a colon first, as a delimiter row has (GFM Tables (extension))
abbrev pub begins_row : List ℕ → Bool
begins_row text = begins_with 124 text || begins_with 45 text || begins_with 58 text
