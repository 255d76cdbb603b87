use Rattle.mdsource.proofs.UnitCuts.{unit_alone}
use Rattle.mdsource.proofs.laws.unit_items.own_lines_give_the_unit.Goals as goal

pub returns : goal.returns
returns c = unit_alone
