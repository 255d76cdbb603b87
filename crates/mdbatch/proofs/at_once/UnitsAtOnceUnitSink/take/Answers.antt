use Rattle.std.proofs.Common.{◌++◌, [], ◌∷◌, string_bytes, subst, sym}
use Rattle.mdblock.specs.FoundLists.{found_unit}
use Rattle.mdsource.specs.Setting.{Setting}
use Rattle.mdbatch.specs.GatheredUnits.{setting_of}
use Rattle.mdbatch.specs.TextLabels.{target_on_page}
use Rattle.mdbatch.specs.UnitsAtOnce.{AddsUnits}
use Rattle.mdbatch.proofs.UnitsAtOnce.{added_behind}
use Rattle.mdbatch.proofs.at_once.UnitsAtOnceUnitSink.take.Goals as goal

pub returns-clause-took : goal.returns-clause-took
returns-clause-took c = λ all before is.
    let found = found_unit c.args.found in
    let table = target_on_page c.args.self.now.labels.now in
    let new = string_bytes c.write_unit.new.html in
    subst (λ (s : Setting). AddsUnits s table (all ++ found ∷ []) [] new) (sym c.write_unit.ensures.setting)
    (added_behind (setting_of c.args.self.now.writer) table all (found ∷ []) [] (string_bytes c.args.self.now.html) new before (c.in_ok-write_unit.ensures.adds is))
