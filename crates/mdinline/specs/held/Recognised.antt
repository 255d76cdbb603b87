-- What the reader finds at a place of a text, as what stands there (CommonMark 6).
use Rattle.std.specs.Prelude.{◌≡◌, ◌-◌, ℕ, true, false, List, drop, Option, Some, None}
use Rattle.mdtext.specs.EntityTable.{EntityTable}
use Rattle.inlinespec.specs.Lexemes.{Lexeme, Kind, OpenBracket, CloseBracket, leaf, as_written}
use Rattle.mdinline.specs.declared.bracket_stack.Bracket.{Bracket}
use Rattle.mdinline.specs.declared.bracket_stack.BracketKind.{BracketKind}
use Rattle.mdinline.specs.declared.bracket_stack.BracketKind.TheVariants.{Link, Image, Closing}
use Rattle.mdinline.specs.declared.scanner.Found.{Found}
use Rattle.mdinline.specs.held.LeafEvents.{leaf_events}

-- what was found at a place, as a leaf
abbrev pub lexeme_of : EntityTable → List ℕ → ℕ → Found → Lexeme
lexeme_of entities text at found = leaf (found.end - at) (leaf_events entities text found.token)

-- what was found at a place is this leaf; where nothing was, it is one byte of text
abbrev pub IsFound : EntityTable → List ℕ → ℕ → Lexeme → Option Found → Type 0
IsFound entities text at lexeme None = lexeme ≡ as_written 1 (drop at text)
IsFound entities text at lexeme (Some found) = lexeme_of entities text at found ≡ lexeme

abbrev pub kind_of : BracketKind → Kind
kind_of Link = OpenBracket false
kind_of Image = OpenBracket true
kind_of Closing = CloseBracket

-- a bracket that was found at a place, as what stands there
abbrev pub bracket_of : ℕ → Bracket → Lexeme
bracket_of at bracket = record { size = bracket.end - at; kind = kind_of bracket.kind }
