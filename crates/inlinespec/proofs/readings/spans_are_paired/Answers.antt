use Rattle.inlinespec.proofs.ReadingBalanced.{reading_paired}
use Rattle.inlinespec.proofs.readings.spans_are_paired.Goals as goal

pub returns : goal.returns
returns c = λ entities table text. reading_paired entities table text
