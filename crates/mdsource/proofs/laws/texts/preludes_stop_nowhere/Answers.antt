use Rattle.mdsource.proofs.StopTexts.{soon_of_prelude}
use Rattle.mdsource.proofs.laws.texts.preludes_stop_nowhere.Goals as goal

pub returns : goal.returns
returns c = soon_of_prelude
