use Rattle.mdsource.proofs.TooDeep.{deep_asks}
use Rattle.mdsource.proofs.laws.labels.too_deep_units_asked.Goals as goal

pub returns : goal.returns
returns c = deep_asks
