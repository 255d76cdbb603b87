use Rattle.blockspec.proofs.LimitLaws.{lines_limited, refused_first}
use Rattle.blockspec.proofs.NestingLaws.{too_deep_stays}
use Rattle.blockspec.proofs.laws.summaries_tell_the_first_too_deep.Goals as goal

pub returns-clause-holds : goal.returns-clause-holds
returns-clause-holds c = λ entities limit lines fits. lines_limited entities limit lines fits

pub returns-clause-refuses : goal.returns-clause-refuses
returns-clause-refuses c = λ entities limit lines. refused_first entities limit lines

pub returns-clause-stays : goal.returns-clause-stays
returns-clause-stays c = λ limit lines more n first. too_deep_stays limit lines more n first
