use Rattle.blockspec.proofs.UnitReaderLaws.{document_handed, fault_first, holds_summary, holds_one}
use Rattle.blockspec.proofs.laws.summaries_give_the_units.Goals as goal

pub returns-clause-units : goal.returns-clause-units
returns-clause-units c = λ entities limit lines fits. document_handed entities limit lines fits

pub returns-clause-refuses : goal.returns-clause-refuses
returns-clause-refuses c = λ entities limit lines. fault_first entities limit lines

pub returns-clause-holds : goal.returns-clause-holds
returns-clause-holds c = λ entities limit lines fits. holds_summary entities limit lines fits

pub returns-clause-one : goal.returns-clause-one
returns-clause-one c = λ entities lines. holds_one entities lines
