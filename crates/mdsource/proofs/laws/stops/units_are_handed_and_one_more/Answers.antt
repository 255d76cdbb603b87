use Rattle.mdsource.proofs.ReadJoins.{handed_inside}
use Rattle.mdsource.proofs.laws.stops.units_are_handed_and_one_more.Goals as goal

pub returns : goal.returns
returns c = handed_inside
