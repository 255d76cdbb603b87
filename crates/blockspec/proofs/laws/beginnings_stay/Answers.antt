use Rattle.blockspec.proofs.BeginLaws.{document_stays}
use Rattle.blockspec.proofs.laws.beginnings_stay.Goals as goal

pub returns : goal.returns
returns c = λ entities front line later other begins. document_stays entities front line later other begins
