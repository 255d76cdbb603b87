use Rattle.std.proofs.Common.{◌++◌, ◌∙◌, ap, eqb-true, string_bytes, sym, append-nil}
use Rattle.std.proofs.lemmas.List.{nil_from_length}
use Rattle.std.specs.Prelude.{map}
use Rattle.htmlspec.specs.WrittenUnits.{is_deep_unit, written_unit}
use Rattle.mdleaf.specs.DefinedLinks.{definition_of}
use Rattle.mdblock.specs.FoundLists.{found_unit}
use Rattle.mdbatch.specs.GatheredUnits.{setting_of}
use Rattle.mdbatch.specs.TextLabels.{target_on_page}
use Rattle.mdbatch.proofs.UnitsWritten.{one_written}
use Rattle.mdbatch.proofs.at_once.write_unit.Goals as goal

pub returns-in-Ok-clause-adds : goal.returns-in-Ok-clause-adds
returns-in-Ok-clause-adds c = λ _.
    let setting = setting_of c.args.writer.now in
    let found = found_unit c.args.found.now in
    let old = string_bytes c.args.html.now in
    let new = string_bytes c.append_unit.new.out in
    let table = target_on_page c.args.labels.now in
    let writes = c.in-Ok.ensures.html ∙ ap (λ unit. old ++ written_unit setting.options setting.entities table unit) c.unit-unit.ensures in
    let within = ap (is_deep_unit setting.options setting.entities table) (sym c.unit-unit.ensures) ∙ c.in-Ok.ensures.within in
    record {
      written = one_written setting table found old new within writes;
      undefining = append-nil found.unit.definitions ∙ sym (c.definitions.ensures ∙ ap (λ unit. unit.definitions) c.unit-unit.ensures)
          ∙ ap (map definition_of) (nil_from_length _ (eqb-true _ _ (sym c.is_empty.ensures ∙ c.if-not-is_empty.false)));
      line = c.in-Ok.ensures.ends_line;
    }
