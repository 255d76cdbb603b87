use Rattle.blockspec.proofs.ItemLaws.{items_that_meet}
use Rattle.blockspec.proofs.laws.items_meet.Goals as goal

pub returns : goal.returns
returns c = λ entities front line later joins. items_that_meet entities front line later joins
