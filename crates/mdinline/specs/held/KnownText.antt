-- What the reader keeps of a whole text, and what it finds at a place by it (CommonMark 6).
use Rattle.std.specs.Prelude.{◌≡◌, ◌+◌, ◌-◌, ◌⊎◌, ℕ, List, drop}
use Rattle.mdtext.specs.EntityTable.{EntityTable}
use Rattle.mdinline.specs.held.BacktickTable.{KnowsStrings}
use Rattle.inlinespec.specs.Lexing.{lex}
use Rattle.inlinespec.specs.Lexemes.{as_written}
use Rattle.mdinline.specs.held.LongTags.{KnowsEnds}
use Rattle.mdinline.specs.held.PlainText.{IsWritten}
use Rattle.mdinline.specs.held.Recognised.{lexeme_of}
use Rattle.mdinline.specs.declared.scanner.Found.{Found}
use Rattle.mdinline.specs.declared.scanner.Scanner.{Scanner}

-- what is kept is true of the text from a place on
pub record KnowsText (text : List ℕ) (at : ℕ) (scanner : Scanner) : Type 0 where
  pub strings : KnowsStrings text scanner.backticks
  pub ends : KnowsEnds text at scanner.endless_tags

-- A text that was found at a place is many leaves: one for each of its bytes.
pub record IsPlainAt (entities : EntityTable) (text : List ℕ) (at : ℕ) (found : Found) : Type 0 where
  pub first : lex entities text at ≡ as_written 1 (drop at text)
  pub rest : IsWritten text (at + 1) found.end
  pub whole : lexeme_of entities text at found ≡ as_written (found.end - at) (drop at text)

-- what was found at a place is the leaf that stands there, or a text
abbrev pub IsLeafAt : EntityTable → List ℕ → ℕ → Found → Type 0
IsLeafAt entities text at found = (lexeme_of entities text at found ≡ lex entities text at) ⊎ IsPlainAt entities text at found
