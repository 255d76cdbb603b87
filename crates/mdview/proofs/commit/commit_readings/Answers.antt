use Rattle.std.proofs.Common.{◌∙◌, refl}
use Rattle.mdview.proofs.commit.commit_readings.Goals as goal

pub commit-requires : goal.commit-requires
commit-requires c = record { room = c.requires.labels }

pub returns-clause-units : goal.returns-clause-units
returns-clause-units c = c.renew_units.ensures.value ∙ (rw (c.requires.none.2, c.requires.none.0, c.requires.none.1) refl)
