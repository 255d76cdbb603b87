use Rattle.inlinespec.proofs.ReadingBalanced.{reading_balanced}
use Rattle.inlinespec.proofs.readings.spans_end.Goals as goal

pub returns : goal.returns
returns c = λ entities table text rest. reading_balanced entities table text rest
