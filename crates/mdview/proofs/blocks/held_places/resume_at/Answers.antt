use Rattle.std.proofs.Common.{ap, arith, length}
use Rattle.mdview.proofs.UnitSizes.{lines_before}
use Rattle.mdview.proofs.WhereReading.{resumed_found, resumed_front, resumed_none}
use Rattle.mdview.proofs.blocks.held_places.resume_at.Goals as goal

pub returns-then-at-head-clause-resumed : goal.returns-then-at-head-clause-resumed
returns-then-at-head-clause-resumed c = λ e lines few many is. resumed_front e lines few c.args.units.now.items c.args.head c.args.at many is c.if-at-head.true

pub returns-in-Some-clause-resumed : goal.returns-in-Some-clause-resumed
returns-in-Some-clause-resumed c = λ e lines few many is.
    resumed_found e lines few c.args.units.now.items c.args.head c.args.at many is c.in-Some.place.member c.in-Some.place.front c.if-at-head.false c.ranges.at.fits c.in-Some.ensures

pub returns-in-None-clause-resumed : goal.returns-in-None-clause-resumed
returns-in-None-clause-resumed c = λ e lines few many is. resumed_none e lines few c.args.units.now.items c.args.head c.args.at many is (ap (λ us. length us) c.in-None.ensures)

pub returns-in-Some-clause-counted : goal.returns-in-Some-clause-counted
returns-in-Some-clause-counted c =
    let sums = lines_before c.args.units.now.items c.in-Some.place.member in
    let front = c.in-Some.ensures.sum in
    let low = c.in-Some.ensures.below in
    grind (arith, sums, front, low, c.if-at-head.false, c.ranges.at.fits)
