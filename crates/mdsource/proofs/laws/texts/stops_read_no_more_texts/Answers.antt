use Rattle.mdsource.specs.Calls.{edit, put}
use Rattle.mdsource.specs.Stops.{stops}
use Rattle.mdsource.proofs.NearLines.{stop_is}
use Rattle.mdsource.proofs.StopTexts.{soon_few}
use Rattle.mdsource.proofs.laws.texts.stops_read_no_more_texts.Goals as goal

pub returns : goal.returns
returns c = λ setting old at del add fits. soon_few setting old (put old (edit at del add)) (stops setting old (edit at del add)) (stop_is setting old at del add fits)
