use Rattle.blockspec.proofs.JoinLines.{document_joins_there, document_joins_only}
use Rattle.blockspec.proofs.items.lines_before_tell_joins.Goals as goal

pub returns-clause-there : goal.returns-clause-there
returns-clause-there c = λ entities front line later joins. document_joins_there entities front line later joins

pub returns-clause-only : goal.returns-clause-only
returns-clause-only c = λ entities front line later there. document_joins_only entities front line later there
