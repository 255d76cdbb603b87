use Rattle.mdsource.proofs.Readings.{reads_as_before}
use Rattle.mdsource.proofs.laws.labels.unasked_texts_stay.Goals as goal

pub returns : goal.returns
returns c = reads_as_before
