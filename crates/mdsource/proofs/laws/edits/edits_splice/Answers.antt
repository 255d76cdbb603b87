use Rattle.mdsource.specs.Calls.{edit, put}
use Rattle.mdsource.specs.Changes.{places}
use Rattle.mdsource.proofs.Counts.{spliced}
use Rattle.mdsource.proofs.PutLines.{edit_is}
use Rattle.mdsource.proofs.laws.edits.edits_splice.Goals as goal

pub returns : goal.returns
returns c = λ setting old at del add fits.
    spliced setting.entities old.lines (put old (edit at del add)).lines (places setting old (edit at del add)) (edit_is setting old at del add fits)
