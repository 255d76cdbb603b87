-- Units that define no label, written one after the other.
use Rattle.std.proofs.Common.{◌≡◌, ℕ, List, [], ◌++◌, Option, Some, None, String, refl, ap, sym, ◌∙◌}
use Rattle.std.specs.Global.{Global}
use Rattle.std.specs.Prelude.{IfSome, string_bytes}
use Rattle.std.specs.Option.{option_or}
use Rattle.std.proofs.lemmas.Grind.{flat_map-append}
use Rattle.blockspec.specs.BlockUnits.{definitions_of}
use Rattle.blockspec.specs.UnitTree.{FoundUnit}
use Rattle.inlinespec.specs.LabelMap.{LabelMap}
use Rattle.inlinespec.specs.LinkTails.{Table}
use Rattle.mdsource.specs.LabelTable.{table_of}
use Rattle.mdsource.specs.Setting.{Setting}
use Rattle.mdsource.specs.Preludes.{HeldPrelude, target_beside}
use Rattle.mdbatch.specs.BatchHtml.{WritesUnits}
use Rattle.mdbatch.specs.TextLabels.{page_table, target_by}
use Rattle.mdbatch.specs.UnitsAtOnce.{AddsUnits}
use Rattle.mdbatch.proofs.UnitsWritten.{none_written, written_behind, written_under}

module _ (setting : Setting) (labels : Table) where
  pub none_added : AddsUnits setting labels [] [] []
  none_added = record { written = none_written setting labels []; undefining = refl; line = refl }

  -- some units behind others
  pub added_behind : (front more : List FoundUnit) (old mid new : List ℕ) → AddsUnits setting labels front old mid → AddsUnits setting labels more mid new
      → AddsUnits setting labels (front ++ more) old new
  added_behind front more old mid new before after = record {
    written = written_behind setting labels front more old mid new before.written after.written;
    undefining = flat_map-append (λ one. one.unit.definitions) front more ∙ ap (λ ds. ds ++ definitions_of more) before.undefining ∙ after.undefining;
    line = after.line;
  }

-- Where they are all of a text, its labels lead where its prelude says.
added_page : (setting : Setting) (own : LabelMap) (prelude : HeldPrelude) (found : List FoundUnit) (html : List ℕ) → own ≡ []
    → AddsUnits setting (target_by own prelude) found [] html → WritesUnits setting (page_table found prelude) found [] html
added_page setting own prelude found html none adds = written_under setting (target_by own prelude) (page_table found prelude) found [] html leads adds.written
  where
    leads : (label : List ℕ) → target_by own prelude label ≡ page_table found prelude label
    leads label = ap (λ own. target_by own prelude label) none ∙ ap (λ ds. option_or (table_of ds label) (target_beside prelude label)) (sym adds.undefining)

pub added_if_some : (setting : Setting) (own : LabelMap) (prelude : HeldPrelude) (found : List FoundUnit) (html : Option (String Global)) → own ≡ []
    → IfSome html (λ html. AddsUnits setting (target_by own prelude) found [] (string_bytes html))
    → IfSome html (λ html. WritesUnits setting (page_table found prelude) found [] (string_bytes html))
added_if_some setting own prelude found None none adds = tt
added_if_some setting own prelude found (Some html) none adds = added_page setting own prelude found (string_bytes html) none adds
