use Rattle.blockspec.proofs.DocumentItems.{document_lists_meet}
use Rattle.blockspec.proofs.items.lists_go_on.Goals as goal

pub returns : goal.returns
returns c = λ entities front line later there. document_lists_meet entities front line later there
