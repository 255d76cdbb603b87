use Rattle.std.proofs.Common.{◌+◌, ◌<◌, ◌≤◌, ◌^◌, [], ◌∷◌, ◌++◌, IfSome, None, length, refl, subst, sym, ◌∙◌, ap, arith}
use Rattle.std.specs.Prelude.{option_map, drop}
use Rattle.mdblock.specs.Bases.{base_view}
use Rattle.mdblock.specs.FoundLists.{StandsForUnit, found_unit}
use Rattle.mdblock.specs.Fronted.{base_mark}
use Rattle.mdblock.specs.held.Following.{Follows}
use Rattle.mdblock.specs.held.Reads.{handed}
use Rattle.mdblock.proofs.ItemLines.{NextHands, NextStands, deep_goes, follows_inside, follows_plain, hands_goes, hands_over, plain_follows, reads_goes, reads_over, stands_over}
use Rattle.mdblock.proofs.item_readers.ItemReader.line.Goals as goal

pub returns-in-Ok-None-clause-reads : goal.returns-in-Ok-None-clause-reads
returns-in-Ok-None-clause-reads g c = λ limit e ls w.
    let i = c.self.inside in
    reads_goes limit e (option_map base_view i.base) i.reader c.line.new.self ls c.args.text.now c.in-Ok-None.ensures.reads
    (subst (NextHands i.reader c.args.text.now) c.in-Ok-None.field-0-is c.in-Ok-None.ensures.hands) (subst (λ z. Follows limit e z ls) (sym c.self.view_is) w)

pub returns-in-Ok-None-clause-hands : goal.returns-in-Ok-None-clause-hands
returns-in-Ok-None-clause-hands g c = λ limit e ls w.
    let i = c.self.inside in
    hands_goes limit e (option_map base_view i.base) i.reader ls c.args.text.now
    (subst (NextHands i.reader c.args.text.now) c.in-Ok-None.field-0-is c.in-Ok-None.ensures.hands) (subst (λ z. Follows limit e z ls) (sym c.self.view_is) w)

pub returns-in-None-clause-reads : goal.returns-in-None-clause-reads
returns-in-None-clause-reads g c = λ limit e ls w.
    let i = c.self.inside in
    let none = ap (option_map base_view) c.in-None.is in
    plain_follows limit e (option_map base_view i.base) c.line.new.self (ls ++ c.args.text.now ∷ []) none
    (c.in-Ok-Some.ensures.reads limit e ls (follows_plain limit e (option_map base_view i.base) i.reader ls none (subst (λ z. Follows limit e z ls) (sym c.self.view_is) w)))

pub returns-in-None-clause-hands : goal.returns-in-None-clause-hands
returns-in-None-clause-hands g c = λ limit e ls w.
    let i = c.self.inside in
    let none = ap (option_map base_view) c.in-None.is in
    subst (NextHands i.reader c.args.text.now) c.in-Ok-Some.field-0-is c.in-Ok-Some.ensures.hands limit e ls
    (follows_plain limit e (option_map base_view i.base) i.reader ls none (subst (λ z. Follows limit e z ls) (sym c.self.view_is) w))

pub returns-in-None-clause-stands : goal.returns-in-None-clause-stands
returns-in-None-clause-stands g c = λ limit e ls w.
    let i = c.self.inside in
    let none = ap (option_map base_view) c.in-None.is in
    subst (NextStands i.reader) c.in-Ok-Some.field-0-is c.in-Ok-Some.ensures.stands limit e ls
    (follows_plain limit e (option_map base_view i.base) i.reader ls none (subst (λ z. Follows limit e z ls) (sym c.self.view_is) w))

pub returns-in_ok-whole-in-Some-clause-reads : goal.returns-in_ok-whole-in-Some-clause-reads
returns-in_ok-whole-in-Some-clause-reads g c = λ limit e ls w.
    let i = c.self.inside in
    let b = base_view c.in-Some.base in
    let inside = follows_inside limit e (option_map base_view i.base) b i.reader ls (ap (option_map base_view) c.in-Some.is) (subst (λ z. Follows limit e z ls) (sym c.self.view_is) w) in
    plain_follows limit e None c.ended.new.reader (ls ++ c.args.text.now ∷ []) refl
    (reads_over limit e b i.reader c.line.new.self c.ended.new.reader ls c.args.text.now c.in-Ok-Some.part c.in-Ok-Some.ensures.reads
    (subst (NextHands i.reader c.args.text.now) c.in-Ok-Some.field-0-is c.in-Ok-Some.ensures.hands) c.in_ok-whole-in-Some.ensures.moved inside)

pub returns-in_ok-whole-in-Some-clause-hands : goal.returns-in_ok-whole-in-Some-clause-hands
returns-in_ok-whole-in-Some-clause-hands g c = λ limit e ls w.
    let i = c.self.inside in
    let b = base_view c.in-Some.base in
    let inside = follows_inside limit e (option_map base_view i.base) b i.reader ls (ap (option_map base_view) c.in-Some.is) (subst (λ z. Follows limit e z ls) (sym c.self.view_is) w) in
    let kept = (subst (λ z. IfSome z (λ b. (b.join < length b.list.now.marks) × (1 ≤ i.reader.fed) × ((base_mark (base_view b)).line + i.reader.fed < 2 ^ 64))) c.in-Some.is c.self.invariant).2 in
    hands_over limit e b i.reader ls c.args.text.now c.in-Ok-Some.part (subst (NextHands i.reader c.args.text.now) c.in-Ok-Some.field-0-is c.in-Ok-Some.ensures.hands)
    (subst (NextStands i.reader) c.in-Ok-Some.field-0-is c.in-Ok-Some.ensures.stands) (omega (arith, kept)) (c.ended.ensures.texts, c.ended.ensures.definitions) inside
    ∙ ap (λ z. handed e ls ++ found_unit z ∷ []) (sym c.in_ok-whole-in-Some.ensures.whole)

pub returns-in_ok-whole-in-Some-clause-stands : goal.returns-in_ok-whole-in-Some-clause-stands
returns-in_ok-whole-in-Some-clause-stands g c = λ limit e ls w.
    let i = c.self.inside in
    let b = base_view c.in-Some.base in
    let inside = follows_inside limit e (option_map base_view i.base) b i.reader ls (ap (option_map base_view) c.in-Some.is) (subst (λ z. Follows limit e z ls) (sym c.self.view_is) w) in
    let kept = (subst (λ z. IfSome z (λ b. (b.join < length b.list.now.marks) × (1 ≤ i.reader.fed) × ((base_mark (base_view b)).line + i.reader.fed < 2 ^ 64))) c.in-Some.is c.self.invariant).2 in
    subst (λ z. StandsForUnit e z (drop z.begin ls)) (sym c.in_ok-whole-in-Some.ensures.whole)
    (stands_over limit e b i.reader ls c.args.text.now c.in-Ok-Some.part (subst (NextHands i.reader c.args.text.now) c.in-Ok-Some.field-0-is c.in-Ok-Some.ensures.hands)
    (subst (NextStands i.reader) c.in-Ok-Some.field-0-is c.in-Ok-Some.ensures.stands) (omega (arith, kept)) (c.ended.ensures.texts, c.ended.ensures.definitions) inside)

pub returns-in-Err-clause-deep : goal.returns-in-Err-clause-deep
returns-in-Err-clause-deep g c = λ err limit e ls w.
    let i = c.self.inside in
    deep_goes limit e (option_map base_view i.base) i.reader ls c.args.text.now (c.in-Err.ensures.deep err) (subst (λ z. Follows limit e z ls) (sym c.self.view_is) w)
