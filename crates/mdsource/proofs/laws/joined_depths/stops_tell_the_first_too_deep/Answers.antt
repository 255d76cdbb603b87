use Rattle.mdsource.specs.Calls.{edit, put}
use Rattle.mdsource.specs.Stops.{stops}
use Rattle.mdsource.proofs.NearDepths.{near_deep}
use Rattle.mdsource.proofs.NearLines.{stop_is}
use Rattle.mdsource.proofs.laws.joined_depths.stops_tell_the_first_too_deep.Goals as goal

pub returns : goal.returns
returns c = λ setting limit old at del add fits.
    near_deep setting.entities limit old.lines (put old (edit at del add)).lines (stops setting old (edit at del add)) (stop_is setting old at del add fits)
