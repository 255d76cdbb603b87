use Rattle.std.proofs.Common.{◌<◌, List, arith, ap, length, refl, subst, sym, ◌∙◌}
use Rattle.std.specs.Prelude.{IfSome}
use Rattle.std.proofs.Math.ListN.{length-set}
use Rattle.mdview.specs.HeldUnit.{HeldUnit}
use Rattle.mdview.specs.UnitInsets.{FitsUnit, put_in}
use Rattle.mdview.proofs.MemberChanges.{changed_by_set, changed_past}
use Rattle.std.proofs.lemmas.Option.{slice_get-get_or}
use Rattle.mdview.proofs.UnitsBetween.{the_member}
use Rattle.mdview.proofs.commit.put_unit.Goals as goal

pub change-requires : goal.change-requires
change-requires c =
    let units : List HeldUnit = c.args.units.now.items in
    let below : c.args.inset.unit < length units = omega (arith, c.if-number-len.true, c.len.ensures) in
    record {
      within = below;
      can = λ d. subst (λ o. IfSome o (FitsUnit c.args.inset)) (slice_get-get_or units c.args.inset.unit d below) c.requires;
    }

pub returns-then-number-len-clause-value : goal.returns-then-number-len-clause-value
returns-then-number-len-clause-value c =
    let units : List HeldUnit = c.args.units.now.items in
    let below : c.args.inset.unit < length units = omega (arith, c.if-number-len.true, c.len.ensures) in
    let d : HeldUnit = (the_member units c.args.inset.unit below).0 in
    c.change.ensures.items d ∙ changed_by_set (put_in c.args.inset) c.args.inset.unit units d _ below refl

pub returns-then-number-len-clause-room : goal.returns-then-number-len-clause-room
returns-then-number-len-clause-room c =
    let units : List HeldUnit = c.args.units.now.items in
    let below : c.args.inset.unit < length units = omega (arith, c.if-number-len.true, c.len.ensures) in
    let d : HeldUnit = (the_member units c.args.inset.unit below).0 in
    (ap length (c.change.ensures.items d) ∙ simp length-set, c.change.ensures.room)

pub returns-else-number-len-clause-value : goal.returns-else-number-len-clause-value
returns-else-number-len-clause-value c =
    sym (changed_past (put_in c.args.inset) c.args.inset.unit c.args.units.now.items (omega (arith, c.if-number-len.false, c.len.ensures)))
