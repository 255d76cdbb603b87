-- Blank lines (CommonMark 2.1, 4.9).
use Rattle.std.specs.Prelude.{Bool}
use Rattle.mdscan.specs.Blanks.{is_blank_text}
use Rattle.blockspec.specs.BlockLine.{BlockLine}

-- nothing but spaces and tabs
abbrev pub is_blank_line : BlockLine → Bool
is_blank_line l = is_blank_text l.line.text
