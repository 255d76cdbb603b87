use Rattle.std.proofs.Common.{take}
use Rattle.blockspec.specs.BlockUnits.{units}
use Rattle.mdsource.proofs.AheadUnits.{next_holds}
use Rattle.mdsource.proofs.laws.unit_items.next_units_have_lines.Goals as goal

pub returns : goal.returns
returns c = λ entities lines sizes unit begin low size later line all ahead is above below.
    let h = next_holds entities lines sizes unit begin low size later line all ahead is above below in
    (take unit (units entities lines), h.one, h.back, h.holds, h.count, h.first, h.lines_are)
