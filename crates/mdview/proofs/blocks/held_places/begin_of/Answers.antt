use Rattle.std.proofs.Common.{arith}
use Rattle.mdview.proofs.UnitSizes.{lines_before}
use Rattle.mdview.proofs.blocks.held_places.begin_of.Goals as goal

pub returns : goal.returns
returns c =
    let same = lines_before c.args.units.now.items c.args.number in
    grind (arith, same, c.saturating_add.ensures, c.weight_before.ensures)
