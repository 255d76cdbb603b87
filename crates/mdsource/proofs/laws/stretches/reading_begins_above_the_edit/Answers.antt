use Rattle.mdsource.proofs.ReadingBegins.{begins_inside, begins_in_front}
use Rattle.mdsource.proofs.laws.stretches.reading_begins_above_the_edit.Goals as goal

pub returns-clause-inside : goal.returns-clause-inside
returns-clause-inside c = begins_inside

pub returns-clause-front : goal.returns-clause-front
returns-clause-front c = begins_in_front
