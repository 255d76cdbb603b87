use Rattle.mdsource.proofs.ReadingBegins.{counted_between}
use Rattle.mdsource.proofs.laws.stretches.units_between_are_counted.Goals as goal

pub returns : goal.returns
returns c = counted_between
