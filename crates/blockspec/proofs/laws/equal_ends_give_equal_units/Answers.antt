use Rattle.std.proofs.Common.{◌∷◌}
use Rattle.blockspec.specs.BlockUnits.{units}
use Rattle.blockspec.proofs.BeginLaws.{document_only}
use Rattle.blockspec.proofs.DocumentLaws.{document_meets}
use Rattle.blockspec.proofs.laws.equal_ends_give_equal_units.Goals as goal

pub returns : goal.returns
returns c = λ entities one other line later in_one in_other. (
  units entities (line ∷ later),
  document_meets entities one line later (document_only entities one line later in_one),
  document_meets entities other line later (document_only entities other line later in_other),
)
