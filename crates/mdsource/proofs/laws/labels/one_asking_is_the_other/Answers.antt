use Rattle.mdsource.proofs.Readings.{asks_alike}
use Rattle.mdsource.proofs.laws.labels.one_asking_is_the_other.Goals as goal

pub returns : goal.returns
returns c = asks_alike
