use Rattle.mdsource.proofs.ReadJoins.{stretch_joins}
use Rattle.mdsource.proofs.laws.stops.readers_tell_joins.Goals as goal

pub returns : goal.returns
returns c = stretch_joins
