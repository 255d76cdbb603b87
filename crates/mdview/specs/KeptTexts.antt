-- Texts of the last of some units that a held unit has too: they read as before an edit, but for those that asked for a label which leads elsewhere now.
use Rattle.std.specs.Prelude.{◌≡◌, ◌≤◌, ℕ, ◌+◌, ◌-◌, false, List, [], Option, Some, None, drop, fold, length, map, slice_get, sum_by}
use Rattle.std.specs.List.{list_any}
use Rattle.mdtext.specs.EntityTable.{EntityTable}
use Rattle.blockspec.specs.UnitTree.{UnitTree}
use Rattle.inlinespec.specs.LinkTails.{Table}
use Rattle.mdsource.specs.Refusals.{is_deep}
use Rattle.mdsource.specs.View.{reading_of}
use Rattle.mdsource.specs.UnitTexts.{is_deep_under, readings_under}
use Rattle.mdsource.specs.LaterTexts.{asking_of}
use Rattle.mdview.specs.declared.inlines.kept_texts.KeptReadings.{KeptReadings}
use Rattle.mdview.specs.declared.blocks.reparse.KeptTexts.{KeptTexts}
use Rattle.mdview.specs.HeldUnit.{HeldUnit, texts_in}

-- the texts of the last of some units
abbrev pub last_texts : List UnitTree → List (List ℕ)
last_texts trees = fold (λ (before : List (List ℕ)) (unit : UnitTree). unit.texts) [] trees

-- the texts that are kept, if those of the last unit from a number on are
abbrev pub kept_texts : Option ℕ → List UnitTree → List (List ℕ)
kept_texts None trees = []
kept_texts (Some at) trees = drop at (last_texts trees)

-- how many texts of these units are read: all but those that are kept, and of these the ones that asked for a label which leads elsewhere
abbrev pub texts_with_kept : EntityTable → (old new : Table) → Option ℕ → List UnitTree → ℕ
texts_with_kept e old new at trees = (sum_by texts_in trees - length (kept_texts at trees)) + asking_of e old new (kept_texts at trees)

-- a held unit has texts from this number on
abbrev pub IsHeldPart : List HeldUnit → KeptTexts → Type 0
IsHeldPart units kept = (unit : HeldUnit) × (slice_get units kept.unit ≡ Some unit) × (kept.from ≤ length unit.read.unit.texts)

-- The texts of the last unit found from a number on are those of a held unit from a number on.
pub record IsKept (units : List HeldUnit) (found : List UnitTree) (kept : KeptTexts) : Type 0 where
  pub unit : HeldUnit
  pub held : slice_get units kept.unit ≡ Some unit
  pub from : kept.from ≤ length unit.read.unit.texts
  pub at : kept.at ≤ length (last_texts found)
  pub texts : drop kept.at (last_texts found) ≡ drop kept.from unit.read.unit.texts

-- These are readings of the texts of a unit from a number on, and in none of them do spans lie too deep; the held unit that has them reads so too.
pub record AreReadingsOf (limit : ℕ) (e : EntityTable) (labels : Table) (texts : List (List ℕ)) (kept : KeptReadings) : Type 0 where
  pub at : kept.at ≤ length texts
  pub readings : kept.readings.now ≡ map (reading_of e labels) (drop kept.at texts)
  pub shallow : list_any (is_deep limit) kept.readings.now ≡ false
  pub part : kept.readings.now ≡ drop (length kept.unit.now.read.readings - length kept.readings.now) kept.unit.now.read.readings
  pub within : length kept.readings.now ≤ length kept.unit.now.read.readings
  pub like : kept.unit.now.read.readings ≡ readings_under e labels kept.unit.now.read.unit
  pub like_shallow : is_deep_under limit e labels kept.unit.now.read.unit ≡ false

abbrev pub number_kept : KeptTexts → ℕ
number_kept kept = kept.at

abbrev pub number_read : KeptReadings → ℕ
number_read kept = kept.at
