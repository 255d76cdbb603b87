use Rattle.blockspec.proofs.DocumentLaws.{tables_append}
use Rattle.blockspec.proofs.laws.first_units_define.Goals as goal

pub returns : goal.returns
returns c = λ one other label. tables_append one other label
