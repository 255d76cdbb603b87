use Rattle.std.proofs.Common.{sym}
use Rattle.blockspec.proofs.LimitLaws.{summary_limited}
use Rattle.blockspec.proofs.ReaderLaws.{summary_none, summary_closed, summary_begins, summary_sinks}
use Rattle.blockspec.proofs.laws.summary_goes_on.Goals as goal

pub returns-clause-none : goal.returns-clause-none
returns-clause-none c = λ entities. summary_none entities

pub returns-clause-gives : goal.returns-clause-gives
returns-clause-gives c = λ entities front. sym (summary_closed entities front)

pub returns-clause-begins : goal.returns-clause-begins
returns-clause-begins c = λ entities front line. sym (summary_begins entities front line)

pub returns-clause-sinks : goal.returns-clause-sinks
returns-clause-sinks c = λ entities limit front line. summary_sinks entities limit front line

pub returns-clause-adds : goal.returns-clause-adds
returns-clause-adds c = λ entities limit front line fits. summary_limited entities limit front line fits
