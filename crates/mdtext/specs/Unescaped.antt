-- A text after backslash escapes (CommonMark 2.4) and entity and numeric character references (CommonMark 2.5).
use Rattle.std.specs.Prelude.{ℕ, zero, suc, List, [], ◌∷◌, ◌++◌, codes, take, slice_index, ◌==◌, if◌then◌else◌}
use Rattle.std.specs.Char.{is_ascii_punctuation}
use Rattle.mdtext.specs.EntityTable.{EntityTable}
use Rattle.mdtext.specs.CharacterReferences.{reference, reference_or}

-- after a backslash: ASCII punctuation is literal, and before another character the backslash is one
abbrev pub escape : List ℕ → ℕ × List ℕ
escape rest = if is_ascii_punctuation (slice_index rest 0) then (1, take 1 rest) else (0, 92 ∷ [])

-- at a character, by the text after it: how much of that text goes with the character, and what they stand for
unfoldable pub meaning : EntityTable → ℕ → List ℕ → ℕ × List ℕ
meaning table b rest = if b == 92 then escape rest else if b == 38 then reference_or 38 (reference table rest) else (0, b ∷ [])

unfoldable pub unescaped_from : EntityTable → ℕ → List ℕ → List ℕ
unescaped_from table skip [] = []
unescaped_from table (suc skip) (b ∷ rest) = unescaped_from table skip rest
unescaped_from table zero (b ∷ rest) = (meaning table b rest).1 ++ unescaped_from table (meaning table b rest).0 rest

-- the text with each backslash escape and each reference replaced by what it stands for
abbrev pub unescaped : EntityTable → List ℕ → List ℕ
unescaped table text = unescaped_from table 0 text

-- the characters that may stand for more than themselves
abbrev pub unescape_specials : List ℕ
unescape_specials = codes "\\&"

-- what a text becomes by a meaning, and how much goes with it
abbrev pub added : List ℕ → ℕ × List ℕ → ℕ × List ℕ
added text m = (m.0, text ++ m.1)
