use Rattle.blockspec.proofs.BeginLaws.{document_there, document_only}
use Rattle.blockspec.proofs.laws.lines_before_tell_beginnings.Goals as goal

pub returns-clause-there : goal.returns-clause-there
returns-clause-there c = λ entities front line later begins. document_there entities front line later begins

pub returns-clause-only : goal.returns-clause-only
returns-clause-only c = λ entities front line later begins. document_only entities front line later begins
