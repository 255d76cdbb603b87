use Rattle.mdsource.specs.Calls.{edit, put}
use Rattle.mdsource.specs.Changes.{places}
use Rattle.mdsource.proofs.Definitions.{undefined_stays}
use Rattle.mdsource.proofs.PutLines.{edit_is}
use Rattle.mdsource.proofs.laws.labels.undefined_labels_stay.Goals as goal

pub returns : goal.returns
returns c = λ setting old at del add label fits gone come.
    undefined_stays setting.entities old.lines (put old (edit at del add)).lines old.prelude (places setting old (edit at del add)) (edit_is setting old at del add fits) label gone come
