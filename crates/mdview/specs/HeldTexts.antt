-- What the inline texts of held units read as, which units are read again, and what an edit is refused for then.
use Rattle.std.specs.Prelude.{◌≡◌, ℕ, ◌+◌, ◌-◌, ◌^◌, if◌then◌else◌, nat_eq, min, List, ◌++◌, Option, Some, None, IfSome, drop, length, map, option_map, slice_get, take}
use Rattle.std.specs.Option.{option_or}
use Rattle.std.specs.List.{All}
use Rattle.mdtext.specs.EntityTable.{EntityTable}
use Rattle.blockspec.specs.UnitTree.{UnitTree}
use Rattle.inlinespec.specs.LinkTails.{Table}
use Rattle.mdsource.specs.UnitTexts.{asking_texts, asking_units, deep_found, deep_from, readings_under}
use Rattle.mdsource.specs.UnitTiles.{front_of}
use Rattle.mdsource.specs.Refusals.{Refusal, break_in_line, inline_refusal, inline_too_deep, nested_too_deep, not_definitions, out_of_range, too_large, too_many_lines}
use Rattle.mdsource.specs.Setting.{Setting, Source}
use Rattle.mdview.specs.declared.source.new_text.NewText.{NewText}
use Rattle.mdview.specs.declared.held.HeldText.{HeldText}
use Rattle.mdview.specs.NewText.{lines_of as new_lines}
use Rattle.mdview.specs.HeldBlocks.{held_tile, old_lines}
use Rattle.mdview.specs.declared.blocks.reparse.Reparsed.{Reparsed}
use Rattle.mdsource.specs.declared.fault.EditFault.{EditFault}
use Rattle.mdsource.specs.declared.fault.EditFault.TheVariants.{OutOfRange, BreakInLine, TooManyLines, TooLarge, NestedTooDeep, InlineTooDeep, NoMemory, NotDefinitions}
use Rattle.mdview.specs.declared.inlines.concerned_texts.Again.{Again}
use Rattle.mdview.specs.declared.inlines.UnitTextReader.{UnitTextReader}
use Rattle.mdview.specs.declared.pieces.text_room.TextRoom.{TextRoom}
use Rattle.mdview.specs.HeldUnit.{HeldUnit, unit_in}
use Rattle.mdview.specs.KeptTexts.{number_kept, texts_with_kept}
use Rattle.mdview.specs.LabelTargets.{Leads, target_after, target_held}
use Rattle.mdsource.specs.Preludes.{HeldPrelude, IsDefinedBy}
use Rattle.mdview.specs.declared.held.labels.HeldLabels.{HeldLabels}
use Rattle.mdview.specs.ReadUnits.{IsReadUnder}
use Rattle.mdview.specs.UnitsFound.{trees_found, units_found}

-- these are the readings of the unit with this number, if there is one
abbrev pub IsReread : EntityTable → Table → List UnitTree → Again → Type 0
IsReread e labels units again = IfSome (slice_get units again.unit) (λ u. again.inlines.items ≡ readings_under e labels u)

abbrev pub number_again : Again → ℕ
number_again again = again.unit

-- the entities that texts are read with
abbrev pub entities_in : TextRoom → EntityTable
entities_in room = room.reader.entities.now

-- where labels led before, and where they lead behind, for one who reads texts
abbrev pub labels_before : UnitTextReader → Table
labels_before reader = target_held reader.labels.now.held.now

abbrev pub labels_behind : UnitTextReader → Table
labels_behind reader = target_after reader.labels.now

-- the units from one number on and before another
abbrev pub between : {A : Type 0} → (first next : ℕ) → List A → List A
between first next xs = take (next - first) (drop first xs)

-- a line further on in numbers that go no further than this
abbrev pub line_on : ℕ → ℕ → ℕ
line_on from line = min (from + line) (2 ^ 64 - 1)

-- What is read of a text: units in front, those found between, and those behind. Where spans lie too deep first under these labels, if so many lines stand before the units in front.
abbrev pub deep_in_parts : (limit : ℕ) → EntityTable → Table → (head : ℕ) → List HeldUnit → Reparsed → Option ℕ
deep_in_parts limit e labels head units r =
    option_or (deep_from limit e labels head (map held_tile (between 0 r.first units)))
    (option_or (option_map (line_on r.from) (deep_found limit e labels (units_found r))) (deep_from limit e labels r.meet (map held_tile (between r.next (length units) units))))

-- the units that are read again in front and behind
abbrev pub asking_in_parts : EntityTable → (old new : Table) → List HeldUnit → (first next : ℕ) → List ℕ
asking_in_parts e old new units first next =
    asking_units e old new 0 (map unit_in (between 0 first units)) ++ asking_units e old new next (map unit_in (between next (length units) units))

-- how many texts are read: those in front and behind that ask, and of the units found all but those that are kept and do not ask
abbrev pub texts_in_parts : EntityTable → (old new : Table) → List HeldUnit → Reparsed → ℕ
texts_in_parts e old new units r =
    (asking_texts e old new (map unit_in (between 0 r.first units)) + texts_with_kept e old new (option_map number_kept r.kept) (trees_found r))
    + asking_texts e old new (map unit_in (between r.next (length units) units))

-- how many lines stand before the first unit then
abbrev pub head_read : ℕ → Reparsed → ℕ
head_read held r = if nat_eq r.from 0 then front_of r.meet (units_found r) else held

-- what a text is read with, and the source before an edit and behind it
abbrev pub setting_in : HeldText → Setting
setting_in held = record { entities = held.entities.now; options = held.options.now }

abbrev pub source_before : HeldText → NewText → Source
source_before held text = record { lines = old_lines text; prelude = held.prelude.now.lines }

abbrev pub source_behind : HeldText → NewText → Source
source_behind held text = record { lines = new_lines text; prelude = held.prelude.now.lines }

-- A call is refused for this, or memory was refused.
abbrev pub IsRefusedBy : Option Refusal → EditFault → Type 0
IsRefusedBy due NoMemory = Unit {0}
IsRefusedBy due (NestedTooDeep line) = due ≡ Some (nested_too_deep line)
IsRefusedBy due (InlineTooDeep line) = due ≡ Some (inline_too_deep line)
IsRefusedBy due (NotDefinitions line) = due ≡ Some (not_definitions line)
IsRefusedBy due TooManyLines = due ≡ Some too_many_lines
IsRefusedBy due TooLarge = due ≡ Some too_large
IsRefusedBy due (OutOfRange lines) = due ≡ Some (out_of_range lines)
IsRefusedBy due (BreakInLine index) = due ≡ Some (break_in_line index)

-- The labels lead where the units and the prelude say, each text was read under them, and no text is too deep.
pub record HoldsTexts (setting : Setting) (lines : List (List ℕ)) (prelude : HeldPrelude) (labels : HeldLabels) (held : List HeldUnit) : Type 0 where
  pub led : Leads labels (map unit_in held) prelude
  pub defined : IsDefinedBy setting.entities prelude
  pub read : All (IsReadUnder setting.entities (target_held labels)) held
  pub spans : inline_refusal setting (record { lines = lines; prelude = prelude.lines }) ≡ None
