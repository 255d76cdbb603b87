use Rattle.std.proofs.Common.{arith, ap, map, sym, ◌∙◌, subst, refl}
use Rattle.std.specs.List.{All}
use Rattle.mdview.specs.HeldUnit.{unit_in}
use Rattle.mdview.specs.Update.{Fits, all_renewed, renewed}
use Rattle.mdview.proofs.MemberChanges.{all_first, all_rest, map_changed}
use Rattle.std.proofs.lemmas.List.{nil_from_length}
use Rattle.mdview.proofs.RenewedUnits.{renewed_first, renewed_none}
use Rattle.mdview.proofs.commit.renew_units.Goals as goal

pub renew_unit-requires : goal.renew_unit-requires
renew_unit-requires c =
    let fits = Fits (map unit_in c.loop-one.units.items) in
    all_first fits c.in-Some.one c.next.new.self.rest.items (subst (All fits) c.in-Some.ensures.steps.0 c.loop-one.invariant.fits)

pub loop-one-preserved : goal.loop-one-preserved
loop-one-preserved c =
    let fits = Fits (map unit_in c.loop-one.units.items) in
    let rest = all_rest fits c.in-Some.one c.next.new.self.rest.items (subst (All fits) c.in-Some.ensures.steps.0 c.loop-one.invariant.fits) in
    let same = ap (map unit_in) c.renew_unit.ensures.value ∙ map_changed unit_in (renewed c.in-Some.one) (λ u. refl) c.in-Some.one.unit c.loop-one.units.items in
    record {
      fits = rw same rest;
      all = ap (λ us. all_renewed us c.next.new.self.rest.items) c.renew_unit.ensures.value ∙ sym (renewed_first c.loop-one.units.items c.in-Some.one c.next.new.self.rest.items)
          ∙ ap (all_renewed c.loop-one.units.items) (sym c.in-Some.ensures.steps.0) ∙ c.loop-one.invariant.all;
      len = c.renew_unit.ensures.room.0 ∙ c.loop-one.invariant.len;
      room = c.renew_unit.ensures.room.1 ∙ c.loop-one.invariant.room;
    }

pub returns-clause-value : goal.returns-clause-value
returns-clause-value c = sym (renewed_none c.loop-one.units.items _ (nil_from_length _ (omega (arith, c.in-None.ensures.steps.0, c.loop-one.one-iterator.rest.ok.0)))) ∙ c.loop-one.invariant.all
