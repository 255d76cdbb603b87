use Rattle.mdsource.specs.Calls.{edit, put}
use Rattle.mdsource.specs.Stops.{stops}
use Rattle.mdsource.proofs.NearLines.{stop_is, near_at, near_nowhere}
use Rattle.mdsource.proofs.laws.stops.reading_stops_where_lists_go_on.Goals as goal

pub returns-clause-near : goal.returns-clause-near
returns-clause-near c = λ setting old at del add line fits.
    near_at setting.entities old.lines (put old (edit at del add)).lines (stops setting old (edit at del add)) (stop_is setting old at del add fits) line

pub returns-clause-ends : goal.returns-clause-ends
returns-clause-ends c = λ setting old at del add fits.
    near_nowhere setting.entities old.lines (put old (edit at del add)).lines (stops setting old (edit at del add)) (stop_is setting old at del add fits)
