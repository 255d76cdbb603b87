use Rattle.mdsource.specs.Calls.{edit, put}
use Rattle.mdsource.specs.Changes.{places}
use Rattle.mdsource.proofs.PutLines.{edit_is}
use Rattle.mdtool.proofs.UnitsBehind.{units_move}
use Rattle.mdtool.proofs.laws.units_behind_move_alike.Goals as goal

pub returns : goal.returns
returns c = λ setting old at del add fits.
    units_move setting.entities old.lines (put old (edit at del add)).lines (places setting old (edit at del add)) (edit_is setting old at del add fits)
