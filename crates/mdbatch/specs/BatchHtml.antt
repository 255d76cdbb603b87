-- What each end of the reading of a whole text says.
use Rattle.std.specs.Prelude.{◌≡◌, ℕ, List, [], ◌++◌, Option, Some, None, Result, Ok, Err, find, map, option_map, string_bytes, String}
use Rattle.std.specs.Global.{Global}
use Rattle.std.specs.List.{concat}
use Rattle.inlinespec.specs.LinkTails.{Table}
use Rattle.blockspec.specs.BlockUnits.{units}
use Rattle.blockspec.specs.Nesting.{first_too_deep}
use Rattle.blockspec.specs.UnitTree.{FoundUnit}
use Rattle.mdsource.specs.Refusals.{is_too_deep}
use Rattle.mdsource.specs.Setting.{Setting}
use Rattle.mdsource.specs.View.{ViewedUnit, viewed}
use Rattle.mdsource.specs.declared.fault.EditFault.{EditFault}
use Rattle.mdsource.specs.declared.fault.EditFault.TheVariants.{OutOfRange, BreakInLine, TooManyLines, TooLarge, NestedTooDeep, InlineTooDeep, NoMemory, NotDefinitions}
use Rattle.mdsource.specs.SourceLimits.{refusal}
use Rattle.mdsource.specs.Preludes.{HeldPrelude}
use Rattle.mdbatch.specs.TextLabels.{page_table}

abbrev pub piece_in : ViewedUnit → List ℕ
piece_in one = one.piece

abbrev pub begin_in : ViewedUnit → ℕ
begin_in one = one.begin

-- the pieces of these units, each text read under these labels, one after the other
abbrev pub pieces_of : Setting → Table → List FoundUnit → List ℕ
pieces_of setting labels found = concat (map piece_in (map (viewed setting labels) found))

-- the line at which the first of them begins in which spans lie too deep
abbrev pub deep_line : Setting → Table → List FoundUnit → Option ℕ
deep_line setting labels found = option_map begin_in (find (is_too_deep setting.options.max_spans) (map (viewed setting labels) found))

-- behind the text so far stand the pieces of these units, in none of which spans lie too deep
pub record WritesUnits (setting : Setting) (labels : Table) (found : List FoundUnit) (old new : List ℕ) : Type 0 where
  pub within : deep_line setting labels found ≡ None
  pub written : new ≡ old ++ pieces_of setting labels found

-- a fault of the reading of a text in which this line, if any, begins a container too many
abbrev pub IsReadFault : (nested : Option ℕ) → EditFault → Type 0
IsReadFault nested (NestedTooDeep line) = nested ≡ Some line
IsReadFault nested NoMemory = Unit {0}
IsReadFault nested (InlineTooDeep line) = ⊥
IsReadFault nested TooManyLines = ⊥
IsReadFault nested TooLarge = ⊥
IsReadFault nested (OutOfRange lines) = ⊥
IsReadFault nested (BreakInLine index) = ⊥
IsReadFault nested (NotDefinitions line) = ⊥

-- one of these
abbrev pub IsFaultOf : (nested deep : Option ℕ) → EditFault → Type 0
IsFaultOf nested deep (NestedTooDeep line) = nested ≡ Some line
IsFaultOf nested deep (InlineTooDeep line) = (nested ≡ None) × (deep ≡ Some line)
IsFaultOf nested deep NoMemory = Unit {0}
IsFaultOf nested deep TooManyLines = ⊥
IsFaultOf nested deep TooLarge = ⊥
IsFaultOf nested deep (OutOfRange lines) = ⊥
IsFaultOf nested deep (BreakInLine index) = ⊥
IsFaultOf nested deep (NotDefinitions line) = ⊥

-- the pieces of a text with these lines beside this prelude
abbrev pub WritesPage : Setting → HeldPrelude → List (List ℕ) → List ℕ → Type 0
WritesPage setting prelude lines html = WritesUnits setting (page_table (units setting.entities lines) prelude) (units setting.entities lines) [] html

-- the line at which the first of its units begins in which spans lie too deep
abbrev pub deep_on_page : Setting → HeldPrelude → List (List ℕ) → Option ℕ
deep_on_page setting prelude lines = deep_line setting (page_table (units setting.entities lines) prelude) (units setting.entities lines)

-- What each end says of the text whose lines are these; there is no other. A refusal of its lines or bytes is the answer where it is due, whatever the memory;
-- where none is, the first line on which a container begins too deep is the answer, or else the first line of the first unit with spans too deep, or memory was
-- refused, or there is no such line and this is the HTML of all its units.
abbrev pub TextHtml : Result (String Global) EditFault → Setting → HeldPrelude → List (List ℕ) → Type 0
TextHtml (Ok html) setting prelude lines =
    (refusal lines ≡ None) × (first_too_deep setting.options.max_containers lines ≡ None) × WritesPage setting prelude lines (string_bytes html)
TextHtml (Err TooManyLines) setting prelude lines = refusal lines ≡ Some TooManyLines
TextHtml (Err TooLarge) setting prelude lines = refusal lines ≡ Some TooLarge
TextHtml (Err (NestedTooDeep line)) setting prelude lines = (refusal lines ≡ None) × (first_too_deep setting.options.max_containers lines ≡ Some line)
TextHtml (Err (InlineTooDeep line)) setting prelude lines =
    (refusal lines ≡ None) × (first_too_deep setting.options.max_containers lines ≡ None) × (deep_on_page setting prelude lines ≡ Some line)
TextHtml (Err NoMemory) setting prelude lines = refusal lines ≡ None
TextHtml (Err (OutOfRange count)) setting prelude lines = ⊥
TextHtml (Err (BreakInLine index)) setting prelude lines = ⊥
TextHtml (Err (NotDefinitions line)) setting prelude lines = ⊥
