use Rattle.mdsource.proofs.UnitTiles.{units_tile}
use Rattle.mdsource.proofs.laws.stretches.units_tile.Goals as goal

pub returns : goal.returns
returns c = units_tile
