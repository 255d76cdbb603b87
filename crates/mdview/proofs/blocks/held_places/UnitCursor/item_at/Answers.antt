use Rattle.std.proofs.Common.{zero, suc, ◌≡◌, ◌≤◌, ◌<◌, ◌+◌, ◌-◌, ℕ, List, is_some, Some, None, length, map, arith, ap, sym, ◌∙◌, refl}
use Rattle.mdtext.specs.EntityTable.{EntityTable}
use Rattle.blockspec.specs.BlockUnits.{begins}
use Rattle.mdchunks.specs.Sequences.{Sequence}
use Rattle.mdsource.specs.UnitTiles.{IsAhead}
use Rattle.std.proofs.lemmas.List.{length-map}
use Rattle.mdview.specs.HeldBlocks.{HoldsUnits, lines_in}
use Rattle.mdview.specs.HeldItems.{IsCounted}
use Rattle.mdview.specs.HeldUnit.{HeldUnit, first_line, read_of}
use Rattle.mdview.proofs.PassedItems.{PassedLast, front_passed, mark_line, none_first, passed_last, placed_last, something_got, told_last}
use Rattle.mdview.proofs.blocks.held_places.UnitCursor.item_at.Goals.{In_ok-unit}
use Rattle.mdview.proofs.blocks.held_places.UnitCursor.item_at.Goals as goal

nothing : (n : ℕ) → (1 ≤ n → ⊥) → n ≡ 0
nothing zero none = refl
nothing (suc n) none = absurd (none (omega arith))

pub returns-in_err-number-clause-told : goal.returns-in_err-number-clause-told
returns-in_err-number-clause-told c = λ e lines head low few order inside w ahead counted.
    let held : List HeldUnit = c.args.self.now.units.now.items in
    let begin = c.pass.new.self.next.line in
    let none : c.pass.new.self.next.unit ≡ 0 = nothing c.pass.new.self.next.unit c.in_err-number.ensures in
    let many = ap (λ (us : Sequence HeldUnit). length us.items) c.pass.ensures.on.same in
    let first : begin ≡ first_line head (map read_of held) 0 = c.pass.ensures.on.counted head counted ∙ ap (first_line head (map read_of held)) none in
    let upto = front_passed e lines head held begin c.args.line inside w first (λ some. c.pass.ensures.past (omega (arith, some, many, none))) in (
      ap (λ o. is_some o) c.from_residual.ensures ∙ none_first e lines head held c.args.line w upto,
      rw c.from_residual.ensures tt,
    )

pub returns-in_err-unit-clause-told : goal.returns-in_err-unit-clause-told
returns-in_err-unit-clause-told c = λ e lines head low few order inside w ahead counted.
    let held : List HeldUnit = c.args.self.now.units.now.items in
    let within = (c.pass.ensures.ahead e lines low few order ahead).within in
    let sizes = length-map held lines_in in
    let many = ap (λ (us : Sequence HeldUnit). length us.items) c.pass.ensures.on.same in
    absurd (something_got c.pass.new.self.units.now.items c.in_ok-number.number c.in_err-unit.ensures (omega (arith, within, sizes, many, c.in_ok-number.ensures)))

-- The unit that is passed last begins last above the line.
last_is : (c : In_ok-unit) (e : EntityTable) (lines : List (List ℕ)) (head low : ℕ) → length lines ≤ 1000000 → low ≤ c.args.line → c.args.line < length lines
    → HoldsUnits e lines head (map read_of c.args.self.now.units.now.items)
    → IsAhead (map lines_in c.args.self.now.units.now.items) (begins e lines) c.args.self.now.next.unit c.args.self.now.next.line low
    → IsCounted head c.args.self.now.units.now.items c.args.self.now.next
    → PassedLast e lines head c.args.self.now.units.now.items c.in_ok-number.number c.in_ok-unit.unit.now c.pass.new.self.next.line c.args.line
last_is c e lines head low few order inside w ahead counted =
    let held : List HeldUnit = c.args.self.now.units.now.items in
    let unit : c.pass.new.self.next.unit ≡ c.in_ok-number.number + 1 = omega (arith, c.in_ok-number.ensures) in
    let many = ap (λ (us : Sequence HeldUnit). length us.items) c.pass.ensures.on.same in
    passed_last e lines head held c.in_ok-number.number c.in_ok-unit.unit.now c.pass.new.self.next.line c.args.line few inside w
    (rw c.pass.ensures.on.same at (sym c.in_ok-unit.ensures)) (rw unit at (c.pass.ensures.ahead e lines low few order ahead))
    (rw unit at (c.pass.ensures.on.counted head counted)) (λ more. c.pass.ensures.past (omega (arith, more, many, unit)))

pub returns-in_err-item-clause-told : goal.returns-in_err-item-clause-told
returns-in_err-item-clause-told c = λ e lines head low few order inside w ahead counted.
    let last = last_is (goal.at.returns-in_err-item-clause-told c).In_ok-unit e lines head low few order inside w ahead counted in (
      ap (λ o. is_some o) c.from_residual-in_err-item.ensures ∙ told_last _ _ _ _ _ _ _ _ last None c.in_err-item.ensures.told,
      rw c.from_residual-in_err-item.ensures tt,
    )

pub returns-clause-item : goal.returns-clause-item
returns-clause-item c =
    let u : HeldUnit = c.in_ok-unit.unit.now in
    (sym c.in_ok-unit.ensures, (mark_line u.read.items c.in_ok-item.item ((c.args.line + u.read.lines) - c.pass.new.self.next.line) c.in_ok-item.ensures.there.2).1)

pub returns-clause-told : goal.returns-clause-told
returns-clause-told c = λ e lines head low few order inside w ahead counted.
    let last = last_is (goal.at.returns-clause-told c).In_ok-unit e lines head low few order inside w ahead counted in (
      told_last _ _ _ _ _ _ _ _ last (Some c.in_ok-item.item) c.in_ok-item.ensures.told,
      placed_last _ _ _ _ _ _ _ _ last c.in_ok-item.item c.in_ok-item.ensures.there.2,
    )
