use Rattle.mdsource.specs.Calls.{edit, put}
use Rattle.mdsource.specs.Stops.{stops}
use Rattle.mdsource.proofs.NearLines.{stop_is}
use Rattle.mdsource.proofs.StoppedLists.{one_more}
use Rattle.mdsource.proofs.laws.stops.stretches_are_handed_and_one_more.Goals as goal

pub returns : goal.returns
returns c = λ setting old at del add fits small.
    one_more setting.entities old.lines (put old (edit at del add)).lines (stops setting old (edit at del add)) (stop_is setting old at del add fits) small
