-- The units of a whole text while it is read: those that are written, and those that wait for all labels.
use Rattle.std.specs.Prelude.{◌≡◌, ◌==◌, ℕ, Bool, List, [], ◌∷◌, ◌++◌, true, Some, None, string_bytes}
use Rattle.std.specs.List.{All, list_any}
use Rattle.inlinespec.specs.LinkTails.{Table}
use Rattle.blockspec.specs.UnitTree.{FoundUnit}
use Rattle.mdblock.specs.FoundLists.{found_unit}
use Rattle.htmlspec.specs.BlockHtml.{ends_line}
use Rattle.mdhtml.specs.UnitWriters.{entities_of, options_of}
use Rattle.mdhtml.specs.declared.unit_writer.UnitWriter.{UnitWriter}
use Rattle.mdsource.specs.Setting.{Setting}
use Rattle.mdbatch.specs.declared.gathered.Gathered.{Gathered}
use Rattle.mdbatch.specs.declared.gathered.Waiting.{Waiting}
use Rattle.mdbatch.specs.BatchHtml.{WritesUnits, deep_line}
use Rattle.mdsource.specs.LabelTable.{with_units}

-- what a writer reads texts with
abbrev pub setting_of : UnitWriter → Setting
setting_of writer = record { entities = entities_of writer; options = options_of writer }

-- a bracket may close in the text
abbrev pub closes_bracket : List ℕ → Bool
closes_bracket text = list_any (λ byte. byte == 93) text

-- this is the HTML of these units, and spans lie too deep in none of them, whatever labels are defined
abbrev pub IsWritten : Setting → List FoundUnit → List ℕ → Type 0
IsWritten setting found html = (labels : Table) → WritesUnits setting labels found [] html

-- before each unit that waits stands the HTML of the units between it and the one that waits before it, and behind the last one this HTML of the others
abbrev pub IsWoven : Setting → List FoundUnit → List Waiting → List ℕ → Type 0
IsWoven setting all [] html = IsWritten setting all html
IsWoven setting all (waits ∷ waiting) html =
    (front : List FoundUnit) × (rest : List FoundUnit) × (all ≡ front ++ found_unit waits.found ∷ rest) × IsWritten setting front (string_bytes waits.before)
    × IsWoven setting rest waiting html

-- at this line begins the first unit, of those that do not wait, in which spans lie too deep; the units before it are written or wait
pub record IsCut (setting : Setting) (all : List FoundUnit) (waiting : List Waiting) (line : ℕ) : Type 0 where
  pub front : List FoundUnit
  pub deep : FoundUnit
  pub rest : List FoundUnit
  pub order : all ≡ front ++ deep ∷ rest
  pub is_deep : (labels : Table) → deep_line setting labels (deep ∷ []) ≡ Some line
  pub html : List ℕ
  pub woven : IsWoven setting front waiting html

abbrev pub EndsLine : Waiting → Type 0
EndsLine waits = ends_line (string_bytes waits.before) ≡ true

-- all these units are written or wait, in order, up to the first of those that are written which is too deep; the labels are those that all of them define
pub record Gathers (setting : Setting) (all : List FoundUnit) (gathered : Gathered) : Type 0 where
  pub labels : gathered.labels ≡ with_units [] all
  pub lines : All EndsLine gathered.waiting.items
  pub line : gathered.too_deep ≡ None → ends_line (string_bytes gathered.html) ≡ true
  pub woven : gathered.too_deep ≡ None → IsWoven setting all gathered.waiting.items (string_bytes gathered.html)
  pub cut : (line : ℕ) → gathered.too_deep ≡ Some line → IsCut setting all gathered.waiting.items line

abbrev pub HasGathered : Setting → Gathered → Type 0
HasGathered setting gathered = (all : List FoundUnit) × Gathers setting all gathered

-- of all units those up to some place are written behind the old HTML under these labels, and what waits holds the others
abbrev pub IsWrittenTo : Setting → Table → List FoundUnit → List Waiting → List ℕ → List ℕ → List ℕ → Type 0
IsWrittenTo setting labels all waiting html old new =
    (front : List FoundUnit) × (rest : List FoundUnit) × (all ≡ front ++ rest) × WritesUnits setting labels front old new × IsWoven setting rest waiting html
