use Rattle.std.proofs.Common.{◌≡◌, true, IfOk, subst, sym}
use Rattle.std.specs.Prelude.{◌∷◌, ◌++◌, [], Result, Ok, Err, option_map, unwrap_or}
use Rattle.mdblock.specs.held.ReaderState.{held_front, held_joined, unit_so_far}
use Rattle.mdblock.specs.held.Reads.{Reads}
use Rattle.mdblock.proofs.FrontItems.{front_read}
use Rattle.mdblock.proofs.readers.Reader.into_front.Goals as goal

ok_then : {A E : Type 0} (r : Result A E) (P Q : A → Type 0) → ((a : A) → P a → Q a) → IfOk r P → IfOk r Q
ok_then (Ok a) P Q f p = f a p
ok_then (Err e) P Q f p = tt

pub returns-clause-front : goal.returns-clause-front
returns-clause-front c =
    let i = c.self.inside in
    let held = c.in-Some.held in
    let joined : held_joined (option_map unit_so_far i.held) ≡ true = subst (λ z. held_joined z.held ≡ true) (sym c.self.view_is) c.requires in
    ok_then c.into_front.result _ _
    (λ front is limit e xs l r.
    let seen = subst (λ z. Reads limit e z (xs ++ l ∷ [])) (sym c.self.view_is) r in
    front_read limit e i.entities.now i.limit i.fed c.unwrap_or-begin.result held front xs l
    (subst (λ z. held_joined (option_map unit_so_far z) ≡ true) c.in-Some.is joined)
    (subst (λ z. c.unwrap_or-begin.result ≡ unwrap_or z.begin 0) c.in-Some.held-is c.unwrap_or-begin.ensures)
    (subst (λ z. front ≡ held_front z c.unwrap_or-begin.result i.fed) c.in-Some.held-is is)
    (subst (λ z. Reads limit e (record { entities = i.entities.now; limit = i.limit; fed = i.fed; held = option_map unit_so_far z }) (xs ++ l ∷ [])) c.in-Some.is seen)) c.into_front.ensures
