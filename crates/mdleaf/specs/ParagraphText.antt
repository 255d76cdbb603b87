-- A paragraph's text (CommonMark 4.8), and what is left of it behind its definitions (CommonMark 4.7).
use Rattle.std.specs.Prelude.{ℕ, ◌-◌, Bool, ◌==◌, List, [], ◌∷◌, ◌++◌, length, take, drop}
use Rattle.std.specs.List.{suffix_len}
use Rattle.mdscan.specs.Blanks.{is_blank}
use Rattle.mdleaf.specs.ParagraphDefinitions.{leading_end}

-- lines with a line ending between each two of them
unfoldable pub joined_lines : List (List ℕ) → List ℕ
joined_lines [] = []
joined_lines (line ∷ []) = line
joined_lines (line ∷ next ∷ lines) = line ++ 10 ∷ joined_lines (next ∷ lines)

-- a text without the spaces and tabs at its end
unfoldable pub without_end_blanks : List ℕ → List ℕ
without_end_blanks text = take (length text - suffix_len is_blank text) text

-- The lines of a paragraph, each without its indentation, are joined, and the spaces and tabs at the end go.
abbrev pub paragraph_text : List (List ℕ) → List ℕ
paragraph_text lines = without_end_blanks (joined_lines lines)

-- what is left of a paragraph's text behind the definitions at its front
abbrev pub behind_definitions : List ℕ → List ℕ
behind_definitions text = drop (leading_end text) text

-- the text is definitions and nothing else
abbrev pub is_definitions_alone : List ℕ → Bool
is_definitions_alone text = leading_end text == length text
