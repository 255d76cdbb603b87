-- Entity and numeric character references (CommonMark 2.5).
use Rattle.std.specs.Prelude.{ℕ, ◌==◌, List, [], ◌∷◌, Option, Some, None, if◌then◌else◌, zero, suc, ◌++◌}
use Rattle.mdtext.specs.EntityTable.{EntityTable}
use Rattle.mdtext.specs.CharacterReferences.{Meaning, reference, reference_or}
use Rattle.inlinespec.specs.InlineEvents.{written}
use Rattle.inlinespec.specs.Lexemes.{Lexeme, leaf, as_written}

-- A reference stands for its text.
abbrev pub reference_lexeme : List ℕ → Option Meaning → Lexeme
reference_lexeme text None = as_written 1 text
reference_lexeme text (Some m) = leaf m.0 (written m.1)

-- what a character stands for, and how much of the text after it goes with it
abbrev pub referred : EntityTable → ℕ → List ℕ → ℕ × List ℕ
referred entities b rest = if b == 38 then reference_or 38 (reference entities rest) else (0, b ∷ [])

-- the text without its first bytes, with each reference replaced by what it stands for
unfoldable pub without_references : EntityTable → ℕ → List ℕ → List ℕ
without_references entities skip [] = []
without_references entities (suc skip) (b ∷ rest) = without_references entities skip rest
without_references entities zero (b ∷ rest) =
    (referred entities b rest).1 ++ without_references entities (referred entities b rest).0 rest
