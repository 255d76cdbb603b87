use Rattle.mdview.proofs.Outcomes.{refused_keeps}
use Rattle.mdview.proofs.laws.refused_calls_change_nothing.Goals as goal

pub returns : goal.returns
returns c = λ held new call fault starved. refused_keeps held call fault starved new
