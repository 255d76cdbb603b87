use Rattle.mdsource.specs.Calls.{edit, put}
use Rattle.mdsource.specs.Stops.{stops}
use Rattle.mdsource.proofs.NearLines.{stop_is}
use Rattle.mdsource.proofs.StopTexts.{soon_by_later}
use Rattle.mdsource.proofs.laws.texts.later_texts_are_read_where_they_asked.Goals as goal

pub returns : goal.returns
returns c = λ setting old at del add fits. soon_by_later setting old (put old (edit at del add)) (stops setting old (edit at del add)) (stop_is setting old at del add fits)
