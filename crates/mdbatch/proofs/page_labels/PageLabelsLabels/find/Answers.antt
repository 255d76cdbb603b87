use Rattle.mdbatch.proofs.PageTargets.{own_leads, beside_leads}
use Rattle.mdbatch.proofs.page_labels.PageLabelsLabels.find.Goals as goal

pub returns-in-Some : goal.returns-in-Some
returns-in-Some c = own_leads _ _ c.in-Some.target c.in-Some.ensures

pub returns-in-None : goal.returns-in-None
returns-in-None c = beside_leads c.find-in-None.result _ _ c.in-None.ensures c.find-in-None.ensures
