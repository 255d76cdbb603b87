use Rattle.mdsource.specs.Calls.{edit, put}
use Rattle.mdsource.specs.Stops.{stops}
use Rattle.mdsource.proofs.NearLines.{stop_is}
use Rattle.mdsource.proofs.StopTexts.{soon_at_meeting}
use Rattle.mdsource.proofs.laws.texts.texts_up_to_the_meeting_line_are_read.Goals as goal

pub returns : goal.returns
returns c = λ setting old at del add fits. soon_at_meeting setting old (put old (edit at del add)) (stops setting old (edit at del add)) (stop_is setting old at del add fits)
