use Rattle.std.proofs.Common.{◌++◌, [], ◌∷◌, subst, sym}
use Rattle.mdblock.specs.FoundLists.{found_unit}
use Rattle.mdsource.specs.Setting.{Setting}
use Rattle.mdbatch.specs.GatheredUnits.{Gathers}
use Rattle.mdbatch.proofs.gathered.UnitGathererUnitSink.take.Goals as goal

pub returns-clause-took : goal.returns-clause-took
returns-clause-took c = λ all before is.
    subst (λ (s : Setting). Gathers s (all ++ found_unit c.args.found ∷ []) c.take_unit.new.self) (sym c.take_unit.ensures.setting) (c.in_ok-take_unit.ensures.gathers all before)
