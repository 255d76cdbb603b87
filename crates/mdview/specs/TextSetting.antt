-- What inline texts are read under after an edit: what was held of them, what their reading gives, when it is refused, and what stays.
use Rattle.std.specs.Prelude.{◌≡◌, ℕ, Bool, false, true, List, ◌++◌, Option, None, Result, IfErr, IfOk, IfSome, IsErrOf, OnOk, length, map, slice_get}
use Rattle.std.specs.List.{All, list_any}
use Rattle.mdtext.specs.EntityTable.{EntityTable}
use Rattle.blockspec.specs.UnitTree.{FoundUnit, UnitTree}
use Rattle.inlinespec.specs.LinkTails.{Table}
use Rattle.mdblock.specs.FoundLists.{FoundList}
use Rattle.htmlspec.specs.declared.options.Options.{Options}
use Rattle.inlinespec.specs.ParsedText.{ParsedText}
use Rattle.mdinline.specs.declared.faults.InlineFault.{InlineFault}
use Rattle.mdinline.specs.declared.faults.InlineFault.TheVariants.{TooDeep}
use Rattle.mdsource.specs.Refusals.{is_deep}
use Rattle.mdsource.specs.TextFaults.{IsTextFault}
use Rattle.mdsource.specs.LaterTexts.{asking_of}
use Rattle.mdsource.specs.UnitTexts.{asking_texts, asking_units, deep_found, deep_from}
use Rattle.mdsource.specs.View.{reading_of}
use Rattle.mdsource.specs.declared.fault.EditFault.{EditFault}
use Rattle.mdview.specs.declared.inlines.UnitTextReader.{UnitTextReader}
use Rattle.mdview.specs.declared.inlines.concerned_texts.Again.{Again}
use Rattle.mdview.specs.declared.inlines.kept_texts.KeptReadings.{KeptReadings}
use Rattle.mdview.specs.declared.pieces.text_room.TextRoom.{TextRoom}
use Rattle.mdview.specs.HeldBlocks.{held_tile}
use Rattle.mdview.specs.HeldLists.{list_in, unplaced}
use Rattle.mdview.specs.ReadUnits.{IsReadUnder, IsShallow}
use Rattle.mdview.specs.HeldTexts.{entities_in, labels_before, labels_behind}
use Rattle.mdview.specs.HeldUnit.{AreEnds, HeldUnit, IsRendered, html_of, unit_in}
use Rattle.mdview.specs.KeptTexts.{AreReadingsOf, texts_with_kept}

-- the entities and options that they are read and written with, where labels led before the edit, and where they lead behind it
pub record TextSetting : Type 0 where
  pub entities : EntityTable
  pub options : Options
  pub before : Table
  pub behind : Table

abbrev pub texts_under : UnitTextReader → TextRoom → TextSetting
texts_under reader room = record { entities = entities_in room; options = reader.options.now; before = labels_before reader; behind = labels_behind reader }

-- ---- what is held

-- A text read so before the edit, and in it spans do not lie too deep.
abbrev pub DidRead : TextSetting → (text : List ℕ) → ParsedText → Type 0
DidRead s text reading = (reading ≡ reading_of s.entities s.before text) × (is_deep s.options.max_spans reading ≡ false)

-- So did the texts of a held unit.
pub record DidReadIn (s : TextSetting) (u : HeldUnit) : Type 0 where
  pub read : IsReadUnder s.entities s.before u
  pub shallow : IsShallow s.options.max_spans s.entities s.before u

-- So did all of these texts.
abbrev pub DidReadAll : TextSetting → (texts : List (List ℕ)) → List ParsedText → Type 0
DidReadAll s texts readings = (readings ≡ map (reading_of s.entities s.before) texts) × (list_any (is_deep s.options.max_spans) readings ≡ false)

-- So did the last of these texts, which a held unit has too.
abbrev pub DidReadRest : TextSetting → (texts : List (List ℕ)) → KeptReadings → Type 0
DidReadRest s texts kept = AreReadingsOf s.options.max_spans s.entities s.before texts kept

-- So they did, and the piece of the unit that has them is its HTML.
pub record DidReadLast (s : TextSetting) (texts : List (List ℕ)) (kept : KeptReadings) : Type 0 where
  pub readings : DidReadRest s texts kept
  pub rendered : IsRendered s.options kept.unit.now

-- ---- what is read

abbrev pub reading_as : TextSetting → (text : List ℕ) → ParsedText
reading_as s text = reading_of s.entities s.behind text

abbrev pub readings_as : TextSetting → (texts : List (List ℕ)) → List ParsedText
readings_as s texts = map (reading_as s) texts

-- in one of the texts spans lie too deep
abbrev pub are_deep : TextSetting → (texts : List (List ℕ)) → Bool
are_deep s texts = list_any (is_deep s.options.max_spans) (readings_as s texts)

-- how many of the texts asked for a label that leads elsewhere now
abbrev pub asking : TextSetting → (texts : List (List ℕ)) → ℕ
asking s texts = asking_of s.entities s.before s.behind texts

-- each text reads so
pub record ReadSo (s : TextSetting) (texts : List (List ℕ)) (readings : List ParsedText) : Type 0 where
  pub all : length readings ≡ length texts
  pub are : readings ≡ readings_as s texts

-- A unit is held as it was found, with what its texts read as, and its piece is its HTML.
pub record IsReadFrom (s : TextSetting) (found : FoundList) (u : HeldUnit) : Type 0 where
  pub list : list_in u ≡ unplaced found
  pub read : IsReadUnder s.entities s.behind u
  pub rendered : IsRendered s.options u

-- the same of several units
pub record AreReadFrom (s : TextSetting) (found : List FoundList) (units : List HeldUnit) : Type 0 where
  pub all : length units ≡ length found
  pub lists : map list_in units ≡ map unplaced found
  pub read : All (IsReadUnder s.entities s.behind) units
  pub rendered : All (IsRendered s.options) units

-- A unit's texts were read again, and its piece is its HTML then.
pub record IsReadAgain (s : TextSetting) (tree : UnitTree) (again : Again) : Type 0 where
  pub readings : again.inlines.items ≡ readings_as s tree.texts
  pub html : again.piece.html ≡ html_of s.options tree again.inlines.items
  pub ends : AreEnds s.options again.inlines.items tree.blocks again.piece.ends

-- those of one of these units, if there is one with its number
abbrev pub IsOneReadAgain : TextSetting → List UnitTree → Again → Type 0
IsOneReadAgain s trees again = IfSome (slice_get trees again.unit) (λ tree. IsReadAgain s tree again)

-- ---- some of the held units, one behind the other

-- the numbers of those with a text that asked for a label which leads elsewhere now; the first of them has this number
abbrev pub asking_numbers : TextSetting → (first : ℕ) → List HeldUnit → List ℕ
asking_numbers s first units = asking_units s.entities s.before s.behind first (map unit_in units)

-- how many such texts they have
abbrev pub asking_texts_of : TextSetting → List HeldUnit → ℕ
asking_texts_of s units = asking_texts s.entities s.before s.behind (map unit_in units)

-- the line in which the first of them begins that has spans too deep, if there is one; the first of all begins in this line
abbrev pub deep_line : TextSetting → (begin : ℕ) → List HeldUnit → Option ℕ
deep_line s begin units = deep_from s.options.max_spans s.entities s.behind begin (map held_tile units)

-- the same of units that were found
abbrev pub deep_place : TextSetting → List FoundUnit → Option ℕ
deep_place s found = deep_found s.options.max_spans s.entities s.behind found

-- how many texts of units that were found are read, where the last of them has texts that are kept from a number on
abbrev pub texts_beside : TextSetting → (kept : Option ℕ) → List UnitTree → ℕ
texts_beside s kept trees = texts_with_kept s.entities s.before s.behind kept trees

-- ---- how a reading ends

-- It is refused for spans too deep just where they lie so; want of memory apart.
abbrev pub TellsDeep : {T : Type 0} → Result T InlineFault → (deep : Bool) → Type 0
TellsDeep result deep = OnOk result (deep ≡ false) × (IsErrOf result TooDeep → deep ≡ true)

-- the same of units, the first of which with spans too deep begins in this line, if there is one
abbrev pub TellsLine : {T : Type 0} → Result T EditFault → (line : Option ℕ) → Type 0
TellsLine result line = OnOk result (line ≡ None) × IfErr result (IsTextFault line)

-- what a text reads as is answered, or that spans lie too deep in it
abbrev pub Reads : TextSetting → (text : List ℕ) → Result ParsedText InlineFault → Type 0
Reads s text result = IfOk result (λ reading. reading ≡ reading_as s text) × TellsDeep result (is_deep s.options.max_spans (reading_as s text))

-- what texts read as comes behind other readings
abbrev pub Appends : {T : Type 0} → TextSetting → (texts : List (List ℕ)) → (old new : List ParsedText) → Result T InlineFault → Type 0
Appends s texts old new result = OnOk result (new ≡ old ++ readings_as s texts) × TellsDeep result (are_deep s texts)

-- the entities and the count of lines stay
abbrev pub Stays : (old new : TextRoom) → (lines counted : ℕ) → Type 0
Stays old new lines counted = (entities_in new ≡ entities_in old) × (counted ≡ lines)
