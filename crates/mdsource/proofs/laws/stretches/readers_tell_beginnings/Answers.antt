use Rattle.mdsource.proofs.StretchReadings.{stretch_begins}
use Rattle.mdsource.proofs.laws.stretches.readers_tell_beginnings.Goals as goal

pub returns : goal.returns
returns c = stretch_begins
