use Rattle.mdsource.specs.Calls.{edit, put}
use Rattle.mdsource.specs.Changes.{places}
use Rattle.mdsource.proofs.PutLines.{edit_is}
use Rattle.mdsource.proofs.StretchReadings.{meets_at, meets_nowhere}
use Rattle.mdsource.proofs.laws.stretches.stretches_end_where_both_begin.Goals as goal

pub returns-clause-meets : goal.returns-clause-meets
returns-clause-meets c = λ setting old at del add line fits.
    meets_at setting.entities old.lines (put old (edit at del add)).lines (places setting old (edit at del add)) (edit_is setting old at del add fits) line

pub returns-clause-ends : goal.returns-clause-ends
returns-clause-ends c = λ setting old at del add fits.
    meets_nowhere setting.entities old.lines (put old (edit at del add)).lines (places setting old (edit at del add)) (edit_is setting old at del add fits)
