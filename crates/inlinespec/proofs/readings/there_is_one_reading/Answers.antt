use Rattle.inlinespec.proofs.OneReading.{one_reading}
use Rattle.inlinespec.proofs.readings.there_is_one_reading.Goals as goal

pub returns : goal.returns
returns c = λ entities table text. one_reading entities table text
