use Rattle.std.proofs.Common.{arith}
use Rattle.mdsource.specs.Calls.{edit}
use Rattle.mdsource.specs.Stops.{stops}
use Rattle.mdsource.proofs.NearLines.{stop_low}
use Rattle.mdsource.proofs.laws.stops.stops_are_no_later.Goals as goal

pub returns : goal.returns
returns c = λ setting old at del add. let low = stop_low (stops setting old (edit at del add)) in omega (arith, low)
