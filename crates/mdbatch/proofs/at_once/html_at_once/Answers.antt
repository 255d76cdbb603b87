use Rattle.std.proofs.lemmas.Result.{IfOk-weaker}
use Rattle.mdbatch.specs.CleanText.{setting_for, units_in}
use Rattle.mdbatch.proofs.UnitsAtOnce.{added_if_some}
use Rattle.mdbatch.proofs.at_once.html_at_once.Goals as goal

pub returns-clause-html : goal.returns-clause-html
returns-clause-html c =
    IfOk-weaker c.written_units.result _ _
    (λ html adds. added_if_some (setting_for c.args.clean) _ c.args.prelude.now (units_in c.args.clean) html c.new-no_labels.ensures adds)
    c.written_units.ensures.adds
