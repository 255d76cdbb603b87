use Rattle.std.proofs.Common.{◌-◌, arith, ap, ◌∙◌}
use Rattle.mdview.specs.Lists.{replaced}
use Rattle.mdview.specs.Update.{end_gone, inset_put, units_brought}
use Rattle.mdview.proofs.PutUnits.{end_within, inset_fits, inset_left}
use Rattle.mdview.proofs.commit.commit.Goals as goal

pub put_inset-end-requires : goal.put_inset-end-requires
put_inset-end-requires c =
    let u = c.args.update in
    inset_fits c.args.held.now.items c.renew_units.new.units.items u.again.items u.inset u.first u.next c.renew_units.ensures.value c.requires.inset c.requires.apart

pub splice-requires-clause-within : goal.splice-requires-clause-within
splice-requires-clause-within c =
    let u = c.args.update in
    let ends = end_within c.args.held.now.items u.inset u.first u.next c.requires.inset c.requires.order in
    omega (arith, ends.0, ends.1, c.put_inset-end.ensures.end, c.put_inset-end.ensures.room.0, c.renew_units.ensures.room.0, c.requires.within)

pub splice-requires-clause-room : goal.splice-requires-clause-room
splice-requires-clause-room c = rw (c.put_inset-end.ensures.room.0, c.put_inset-end.ensures.room.1, c.renew_units.ensures.room.0, c.renew_units.ensures.room.1) c.requires.room

pub commit-requires : goal.commit-requires
commit-requires c = record { room = c.requires.labels }

pub returns-clause-units : goal.returns-clause-units
unfolding units_brought
returns-clause-units c =
    let u = c.args.update in
    let held = c.args.held.now.items in
    c.splice.ensures
    ∙ ap (λ n. replaced c.put_inset-end.new.units.items u.first (n - u.first) u.units.items) c.put_inset-end.ensures.end
    ∙ ap (λ us. replaced us u.first (end_gone u.next u.inset - u.first) u.units.items) (c.put_inset-end.ensures.value ∙ ap (λ us. inset_put us u.inset) c.renew_units.ensures.value)
    ∙ inset_left held u.units.items u.again.items u.inset u.first u.next c.requires.inset c.requires.within c.requires.apart
