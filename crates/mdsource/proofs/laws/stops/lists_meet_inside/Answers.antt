use Rattle.mdsource.specs.Calls.{edit, put}
use Rattle.mdsource.specs.Stops.{stops}
use Rattle.mdsource.proofs.NearLines.{stop_is, met_inside}
use Rattle.mdsource.proofs.laws.stops.lists_meet_inside.Goals as goal

pub returns : goal.returns
returns c = λ setting old at del add fits small.
    met_inside setting.entities old.lines (put old (edit at del add)).lines (stops setting old (edit at del add)) (stop_is setting old at del add fits) small
