use Rattle.std.proofs.Common.{ap, ◌∙◌, sym}
use Rattle.std.specs.Option.{option_copied}
use Rattle.mdview.proofs.Targets.{target_changed, target_stays}
use Rattle.mdview.proofs.labels.changes.LabelsAfterLabels.find.Goals as goal

pub returns-in-Some : goal.returns-in-Some
returns-in-Some c = target_changed c.as_ref.result _ c.in-Some.target.now _ (sym c.get.ensures ∙ ap option_copied c.in-Some.is) c.as_ref.ensures.value

pub returns-in-None : goal.returns-in-None
returns-in-None c = target_stays c.find.result _ _ (sym c.get.ensures ∙ ap option_copied c.in-None.is) c.find.ensures
