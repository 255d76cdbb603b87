use Rattle.std.proofs.Common.{◌≡◌, ◌∷◌, ◌+◌, ◌∙◌, [], List, ℕ, ap, arith, length, subst, sym}
use Rattle.mdview.specs.BroughtPieces.{changed, changed_pieces}
use Rattle.mdview.proofs.BroughtLaws.{brought_last, brought_next}
use Rattle.mdview.proofs.pieces.patch_pieces.PatchPiecesIterator.next.Goals as goal

pub returns-in-Some-clause-steps : goal.returns-in-Some-clause-steps
returns-in-Some-clause-steps c =
    let inside = c.self.inside in
    let number = c.next_brought-number.result in
    let found = c.next_brought-number.ensures in
    let piece = c.in-Some.piece.now in
    let rest : List (List ℕ) = c.next.new.self in
    let is_next = brought_next (changed inside.first inside.added c.deref.result.now) inside.number number inside.rest piece rest found.low found.before
    (λ below. found.there (omega (arith, below, c.self.invariant.1))) (sym c.pass.ensures ∙ c.in-Some.ensures.steps) in
    sym c.self.view_is
    ∙ subst (λ (again : List ℕ). changed_pieces inside.first inside.added again inside.number inside.rest
    ≡ (number, piece) ∷ changed_pieces inside.first inside.added again (number + 1) rest) c.deref.ensures.value is_next

pub returns-in-Some-clause-goes : goal.returns-in-Some-clause-goes
returns-in-Some-clause-goes c =
    let less = ap length (returns-in-Some-clause-steps c) in
    record { on = λ finite. (tt, tt, omega (arith, less)); keeps = tt; rests = λ finite. tt }

pub returns-in-None-clause-steps : goal.returns-in-None-clause-steps
returns-in-None-clause-steps c =
    let inside = c.self.inside in
    let number = c.next_brought-number.result in
    let found = c.next_brought-number.ensures in
    let left = c.in-None.ensures.steps in
    let is_last = brought_last (changed inside.first inside.added c.deref.result.now) inside.number number inside.rest found.low found.before (sym c.pass.ensures ∙ left.0) in (
      sym c.self.view_is ∙ subst (λ (again : List ℕ). changed_pieces inside.first inside.added again inside.number inside.rest ≡ []) c.deref.ensures.value is_last,
      ap (changed_pieces inside.first inside.added inside.again.items number) left.1,
    )
