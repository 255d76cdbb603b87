use Rattle.mdsource.specs.Calls.{edit, put}
use Rattle.mdsource.specs.Changes.{places}
use Rattle.mdsource.proofs.PutLines.{edit_is}
use Rattle.mdsource.proofs.OwnLines.{own_spliced}
use Rattle.mdsource.proofs.laws.unit_items.own_lines_are_spliced.Goals as goal

pub returns : goal.returns
returns c = λ setting old at del add fits.
    own_spliced setting.entities old.lines (put old (edit at del add)).lines (places setting old (edit at del add)) (edit_is setting old at del add fits)
