use Rattle.mdsource.specs.Calls.{edit, put}
use Rattle.mdsource.specs.Stops.{stops}
use Rattle.mdsource.proofs.NearLines.{stop_is}
use Rattle.mdsource.proofs.StoppedLists.{held_there, stopped_in}
use Rattle.mdsource.proofs.laws.stops.reading_stops_in_the_last_list.Goals as goal

pub returns-clause-holds : goal.returns-clause-holds
returns-clause-holds c = λ setting old at del add fits small.
    held_there setting.entities old.lines (put old (edit at del add)).lines (stops setting old (edit at del add)) (stop_is setting old at del add fits) small

pub returns-clause-is : goal.returns-clause-is
returns-clause-is c = λ setting old at del add before one back fits small.
    stopped_in setting.entities old.lines (put old (edit at del add)).lines (stops setting old (edit at del add)) (stop_is setting old at del add fits) small before one back
