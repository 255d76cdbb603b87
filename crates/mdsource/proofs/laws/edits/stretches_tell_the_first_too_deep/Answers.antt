use Rattle.mdsource.specs.Calls.{edit, put}
use Rattle.mdsource.specs.Changes.{places}
use Rattle.mdsource.proofs.Depths.{deep_spliced}
use Rattle.mdsource.proofs.PutLines.{edit_is}
use Rattle.mdsource.proofs.laws.edits.stretches_tell_the_first_too_deep.Goals as goal

pub returns : goal.returns
returns c = λ setting limit old at del add fits none.
    deep_spliced setting.entities limit old.lines (put old (edit at del add)).lines (places setting old (edit at del add)) (edit_is setting old at del add fits) none
