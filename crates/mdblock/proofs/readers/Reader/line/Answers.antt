use Rattle.std.proofs.Common.{◌≡◌, Err, IfSome, None, Some, ap, refl, subst, sym, ◌∙◌}
use Rattle.std.specs.Prelude.{option_map}
use Rattle.mdblock.specs.held.ReaderState.{AreKept, unit_so_far}
use Rattle.mdblock.specs.held.Reads.{Reads}
use Rattle.mdblock.specs.declared.faults.BlockFault.TheVariants.{NestedTooDeep}
use Rattle.mdblock.proofs.LevelBegins.{err_is}
use Rattle.mdblock.proofs.NextLineLaws.{reads_next, hands_next, joins_next, stands_next, deep_next}
use Rattle.mdblock.proofs.readers.Reader.line.Goals as goal

pub returns-in-Ok-None-clause-reads : goal.returns-in-Ok-None-clause-reads
returns-in-Ok-None-clause-reads g c = λ limit e ls r.
    let i = c.self.inside in
    let seen = subst (λ z. Reads limit e z ls) (sym c.self.view_is) r in
    let kept = subst (λ z. IfSome z (λ held. AreKept held × (held.gathering.entities.now ≡ i.entities.now))) c.in-Some.is c.self.invariant in
    reads_next limit e i.entities.now i.limit i.fed c.in-Some.held c.read.new.self None c.args.text.now ls kept.1 (c.in-Ok-None.ensures.entities ∙ kept.1) (rw c.in-Ok-None.field-0-is at c.in-Ok-None.ensures.next)
    (subst (λ z. Reads limit e (record { entities = i.entities.now; limit = i.limit; fed = i.fed; held = option_map unit_so_far z }) ls) c.in-Some.is seen)

pub returns-in-Ok-None-clause-hands : goal.returns-in-Ok-None-clause-hands
returns-in-Ok-None-clause-hands g c = λ limit e ls r.
    let i = c.self.inside in
    let seen = subst (λ z. Reads limit e z ls) (sym c.self.view_is) r in
    let kept = subst (λ z. IfSome z (λ held. AreKept held × (held.gathering.entities.now ≡ i.entities.now))) c.in-Some.is c.self.invariant in
    hands_next limit e i.entities.now i.limit i.fed c.in-Some.held c.read.new.self None c.args.text.now ls kept.1 (rw c.in-Ok-None.field-0-is at c.in-Ok-None.ensures.next)
    (subst (λ z. Reads limit e (record { entities = i.entities.now; limit = i.limit; fed = i.fed; held = option_map unit_so_far z }) ls) c.in-Some.is seen)

pub returns-in-Ok-Some-clause-reads : goal.returns-in-Ok-Some-clause-reads
returns-in-Ok-Some-clause-reads g c = λ limit e ls r.
    let i = c.self.inside in
    let seen = subst (λ z. Reads limit e z ls) (sym c.self.view_is) r in
    let kept = subst (λ z. IfSome z (λ held. AreKept held × (held.gathering.entities.now ≡ i.entities.now))) c.in-Some.is c.self.invariant in
    reads_next limit e i.entities.now i.limit i.fed c.in-Some.held c.read.new.self (Some c.in-Ok-Some.found) c.args.text.now ls kept.1 (c.in-Ok-Some.ensures.entities ∙ kept.1) (rw c.in-Ok-Some.field-0-is at c.in-Ok-Some.ensures.next)
    (subst (λ z. Reads limit e (record { entities = i.entities.now; limit = i.limit; fed = i.fed; held = option_map unit_so_far z }) ls) c.in-Some.is seen)

pub returns-in-Ok-Some-clause-hands : goal.returns-in-Ok-Some-clause-hands
returns-in-Ok-Some-clause-hands g c = λ limit e ls r.
    let i = c.self.inside in
    let seen = subst (λ z. Reads limit e z ls) (sym c.self.view_is) r in
    let kept = subst (λ z. IfSome z (λ held. AreKept held × (held.gathering.entities.now ≡ i.entities.now))) c.in-Some.is c.self.invariant in
    hands_next limit e i.entities.now i.limit i.fed c.in-Some.held c.read.new.self (Some c.in-Ok-Some.found) c.args.text.now ls kept.1 (rw c.in-Ok-Some.field-0-is at c.in-Ok-Some.ensures.next)
    (subst (λ z. Reads limit e (record { entities = i.entities.now; limit = i.limit; fed = i.fed; held = option_map unit_so_far z }) ls) c.in-Some.is seen)

pub returns-in-Ok-Some-clause-joins : goal.returns-in-Ok-Some-clause-joins
returns-in-Ok-Some-clause-joins g c = λ limit e ls r.
    let i = c.self.inside in
    let seen = subst (λ z. Reads limit e z ls) (sym c.self.view_is) r in
    let kept = subst (λ z. IfSome z (λ held. AreKept held × (held.gathering.entities.now ≡ i.entities.now))) c.in-Some.is c.self.invariant in
    joins_next limit e i.entities.now i.limit i.fed c.in-Some.held c.read.new.self (Some c.in-Ok-Some.found) c.args.text.now ls kept.1 (rw c.in-Ok-Some.field-0-is at c.in-Ok-Some.ensures.next)
    (subst (λ z. Reads limit e (record { entities = i.entities.now; limit = i.limit; fed = i.fed; held = option_map unit_so_far z }) ls) c.in-Some.is seen)

pub returns-in-Ok-Some-clause-stands : goal.returns-in-Ok-Some-clause-stands
returns-in-Ok-Some-clause-stands g c = λ limit e ls r.
    let i = c.self.inside in
    let seen = subst (λ z. Reads limit e z ls) (sym c.self.view_is) r in
    let kept = subst (λ z. IfSome z (λ held. AreKept held × (held.gathering.entities.now ≡ i.entities.now))) c.in-Some.is c.self.invariant in
    stands_next limit e i.entities.now i.limit i.fed c.in-Some.held c.read.new.self (Some c.in-Ok-Some.found) c.args.text.now ls kept.1 (rw c.in-Ok-Some.field-0-is at c.in-Ok-Some.ensures.next)
    (subst (λ z. Reads limit e (record { entities = i.entities.now; limit = i.limit; fed = i.fed; held = option_map unit_so_far z }) ls) c.in-Some.is seen)

pub returns-in-Err-clause-deep : goal.returns-in-Err-clause-deep
returns-in-Err-clause-deep g c = λ err limit e ls r.
    let i = c.self.inside in
    let seen = subst (λ z. Reads limit e z ls) (sym c.self.view_is) r in
    let kept = subst (λ z. IfSome z (λ held. AreKept held × (held.gathering.entities.now ≡ i.entities.now))) c.in-Some.is c.self.invariant in
    deep_next limit e i.entities.now i.limit i.fed c.in-Some.held c.args.text.now ls kept.1 (c.in-Err.ensures.deep (ap Err (c.told.ensures.deep (err_is (Err c.told.result) (λ z. c.told.result ≡ z) NestedTooDeep refl err))))
    (subst (λ z. Reads limit e (record { entities = i.entities.now; limit = i.limit; fed = i.fed; held = option_map unit_so_far z }) ls) c.in-Some.is seen)
