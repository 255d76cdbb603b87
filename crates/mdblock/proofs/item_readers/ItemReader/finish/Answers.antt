use Rattle.std.proofs.Common.{◌+◌, ◌<◌, ◌≤◌, ◌^◌, [], ◌∷◌, ◌++◌, IfSome, drop, length, subst, sym, ◌∙◌, ap, arith}
use Rattle.std.specs.Prelude.{option_map}
use Rattle.mdblock.specs.Bases.{base_view}
use Rattle.mdblock.specs.FoundLists.{StandsForUnit, found_unit}
use Rattle.mdblock.specs.Fronted.{base_mark}
use Rattle.mdblock.specs.held.Following.{Follows}
use Rattle.mdblock.specs.held.Reads.{handed}
use Rattle.mdblock.proofs.ItemLines.{LastHands, NextStands, follows_inside, follows_plain, hands_last, last_goes, stands_last}
use Rattle.mdblock.proofs.item_readers.ItemReader.finish.Goals as goal

pub returns-in-Ok-None-clause-hands : goal.returns-in-Ok-None-clause-hands
returns-in-Ok-None-clause-hands c = λ limit e ls w.
    let i = c.self.inside in
    last_goes limit e (option_map base_view i.base) i.reader ls (subst (LastHands i.reader) c.in-Ok-None.field-0-is c.in-Ok-None.ensures.hands) (subst (λ z. Follows limit e z ls) (sym c.self.view_is) w)

pub returns-in-None-clause-hands : goal.returns-in-None-clause-hands
returns-in-None-clause-hands c = λ limit e ls w.
    let i = c.self.inside in
    let none = ap (option_map base_view) c.in-None.is in
    subst (LastHands i.reader) c.in-Ok-Some.field-0-is c.in-Ok-Some.ensures.hands limit e ls
    (follows_plain limit e (option_map base_view i.base) i.reader ls none (subst (λ z. Follows limit e z ls) (sym c.self.view_is) w))

pub returns-in-None-clause-stands : goal.returns-in-None-clause-stands
returns-in-None-clause-stands c = λ limit e ls w.
    let i = c.self.inside in
    let none = ap (option_map base_view) c.in-None.is in
    subst (NextStands i.reader) c.in-Ok-Some.field-0-is c.in-Ok-Some.ensures.stands limit e ls
    (follows_plain limit e (option_map base_view i.base) i.reader ls none (subst (λ z. Follows limit e z ls) (sym c.self.view_is) w))

pub returns-in_ok-behind_base-in-Some-clause-hands : goal.returns-in_ok-behind_base-in-Some-clause-hands
returns-in_ok-behind_base-in-Some-clause-hands c = λ limit e ls w.
    let i = c.self.inside in
    let b = base_view c.in-Some.base in
    let inside = follows_inside limit e (option_map base_view i.base) b i.reader ls (ap (option_map base_view) c.in-Some.is) (subst (λ z. Follows limit e z ls) (sym c.self.view_is) w) in
    let kept = (subst (λ z. IfSome z (λ b. (b.join < length b.list.now.marks) × (1 ≤ i.reader.fed) × ((base_mark (base_view b)).line + i.reader.fed < 2 ^ 64))) c.in-Some.is c.self.invariant).2 in
    hands_last limit e b i.reader ls c.in-Ok-Some.part (subst (LastHands i.reader) c.in-Ok-Some.field-0-is c.in-Ok-Some.ensures.hands)
    (subst (NextStands i.reader) c.in-Ok-Some.field-0-is c.in-Ok-Some.ensures.stands) (omega (arith, kept)) (c.behind_base.ensures.texts, c.behind_base.ensures.definitions) inside
    ∙ ap (λ z. handed e ls ++ found_unit z ∷ []) (sym c.in_ok-behind_base-in-Some.ensures.whole)

pub returns-in_ok-behind_base-in-Some-clause-stands : goal.returns-in_ok-behind_base-in-Some-clause-stands
returns-in_ok-behind_base-in-Some-clause-stands c = λ limit e ls w.
    let i = c.self.inside in
    let b = base_view c.in-Some.base in
    let inside = follows_inside limit e (option_map base_view i.base) b i.reader ls (ap (option_map base_view) c.in-Some.is) (subst (λ z. Follows limit e z ls) (sym c.self.view_is) w) in
    let kept = (subst (λ z. IfSome z (λ b. (b.join < length b.list.now.marks) × (1 ≤ i.reader.fed) × ((base_mark (base_view b)).line + i.reader.fed < 2 ^ 64))) c.in-Some.is c.self.invariant).2 in
    subst (λ z. StandsForUnit e z (drop z.begin ls)) (sym c.in_ok-behind_base-in-Some.ensures.whole)
    (stands_last limit e b i.reader ls c.in-Ok-Some.part (subst (LastHands i.reader) c.in-Ok-Some.field-0-is c.in-Ok-Some.ensures.hands)
    (subst (NextStands i.reader) c.in-Ok-Some.field-0-is c.in-Ok-Some.ensures.stands) (omega (arith, kept)) (c.behind_base.ensures.texts, c.behind_base.ensures.definitions) inside)
