use Rattle.mdview.specs.Document.{nothing}
use Rattle.mdview.proofs.Runs.{run_is_document}
use Rattle.mdview.proofs.laws.edits_leave_the_present_text.Goals as goal

pub returns : goal.returns
returns c = λ entities options turns. run_is_document (record { entities = entities; options = options }) turns nothing
