use Rattle.std.proofs.Common.{◌≡◌, IfSome, subst, sym}
use Rattle.std.specs.Prelude.{option_map}
use Rattle.mdblock.specs.held.ReaderState.{AreKept, unit_so_far}
use Rattle.mdblock.specs.held.HeldLevel.{GivesUnit}
use Rattle.mdblock.specs.held.Reads.{Reads}
use Rattle.mdblock.proofs.NextLineLaws.{finish_hands, finish_joins, finish_stands}
use Rattle.mdblock.proofs.readers.Reader.finish.Goals as goal

pub returns-in_ok-into_unit-in-Some-clause-hands : goal.returns-in_ok-into_unit-in-Some-clause-hands
returns-in_ok-into_unit-in-Some-clause-hands c = λ limit e ls r.
    let i = c.self.inside in
    let seen = subst (λ z. Reads limit e z ls) (sym c.self.view_is) r in
    let kept = subst (λ z. IfSome z (λ held. AreKept held × (held.gathering.entities.now ≡ i.entities.now))) c.in-Some.is c.self.invariant in
    finish_hands limit e i.entities.now i.limit i.fed c.in-Some.held c.in_ok-into_unit-in-Some.field-0 ls kept.1
    (subst (λ z. GivesUnit z i.fed c.in_ok-into_unit-in-Some.field-0) c.in-Some.held-is c.in_ok-into_unit-in-Some.ensures)
    (subst (λ z. Reads limit e (record { entities = i.entities.now; limit = i.limit; fed = i.fed; held = option_map unit_so_far z }) ls) c.in-Some.is seen)

pub returns-in_ok-into_unit-in-Some-clause-joins : goal.returns-in_ok-into_unit-in-Some-clause-joins
returns-in_ok-into_unit-in-Some-clause-joins c = λ limit e ls r.
    let i = c.self.inside in
    let seen = subst (λ z. Reads limit e z ls) (sym c.self.view_is) r in
    let kept = subst (λ z. IfSome z (λ held. AreKept held × (held.gathering.entities.now ≡ i.entities.now))) c.in-Some.is c.self.invariant in
    finish_joins limit e i.entities.now i.limit i.fed c.in-Some.held c.in_ok-into_unit-in-Some.field-0 ls kept.1
    (subst (λ z. GivesUnit z i.fed c.in_ok-into_unit-in-Some.field-0) c.in-Some.held-is c.in_ok-into_unit-in-Some.ensures)
    (subst (λ z. Reads limit e (record { entities = i.entities.now; limit = i.limit; fed = i.fed; held = option_map unit_so_far z }) ls) c.in-Some.is seen)

pub returns-in_ok-into_unit-in-Some-clause-stands : goal.returns-in_ok-into_unit-in-Some-clause-stands
returns-in_ok-into_unit-in-Some-clause-stands c = λ limit e ls r.
    let i = c.self.inside in
    let seen = subst (λ z. Reads limit e z ls) (sym c.self.view_is) r in
    let kept = subst (λ z. IfSome z (λ held. AreKept held × (held.gathering.entities.now ≡ i.entities.now))) c.in-Some.is c.self.invariant in
    finish_stands limit e i.entities.now i.limit i.fed c.in-Some.held c.in_ok-into_unit-in-Some.field-0 ls kept.1
    (subst (λ z. GivesUnit z i.fed c.in_ok-into_unit-in-Some.field-0) c.in-Some.held-is c.in_ok-into_unit-in-Some.ensures)
    (subst (λ z. Reads limit e (record { entities = i.entities.now; limit = i.limit; fed = i.fed; held = option_map unit_so_far z }) ls) c.in-Some.is seen)
