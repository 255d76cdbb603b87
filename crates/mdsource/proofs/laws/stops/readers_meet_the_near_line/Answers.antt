use Rattle.mdsource.specs.Calls.{edit, put}
use Rattle.mdsource.specs.Stops.{stops}
use Rattle.mdsource.proofs.NearLines.{stop_is}
use Rattle.mdsource.proofs.NearStretch.{near_above, near_before, near_told, near_within, stop_high}
use Rattle.mdsource.proofs.laws.stops.readers_meet_the_near_line.Goals as goal

pub returns-clause-begins : goal.returns-clause-begins
returns-clause-begins c = λ setting old at del add fits. (
  near_above setting.entities old.lines (put old (edit at del add)).lines (stops setting old (edit at del add)) (stop_is setting old at del add fits),
  near_within setting.entities old.lines (put old (edit at del add)).lines (stops setting old (edit at del add)) (stop_is setting old at del add fits),
)

pub returns-clause-told : goal.returns-clause-told
returns-clause-told c = λ setting old at del add line fits.
    near_told setting.entities old.lines (put old (edit at del add)).lines (stops setting old (edit at del add)) (stop_is setting old at del add fits) line

pub returns-clause-before : goal.returns-clause-before
returns-clause-before c = λ setting old at del add fits.
    near_before setting.entities old.lines (put old (edit at del add)).lines (stops setting old (edit at del add)) (stop_is setting old at del add fits)

pub returns-clause-stop : goal.returns-clause-stop
returns-clause-stop c = stop_high
