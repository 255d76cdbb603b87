use Rattle.std.proofs.Common.{◌≡◌, IfOk, sym, subst}
use Rattle.std.specs.Prelude.{Result, Ok, Err}
use Rattle.mdblock.specs.FoundLists.{FoundList}
use Rattle.mdblock.proofs.seams.splice.Goals as goal

-- what is told of the list of a seam is told of the one that is made
made_told : {E : Type 0} (r : Result FoundList E) (list : FoundList) (Q : FoundList → Type 0) → IfOk r (λ found. found ≡ list) → Q list → IfOk r Q
made_told (Ok found) list Q is w = subst Q (sym is) w
made_told (Err fault) list Q is w = tt

pub returns-clause-begin : goal.returns-clause-begin
returns-clause-begin c = made_told c.made.result _ _ c.made.ensures (λ limit e xs l zs ys m. let s = c.in_ok-new.ensures.list limit e xs l zs ys m in s.begin)

pub returns-clause-units : goal.returns-clause-units
returns-clause-units c = made_told c.made.result _ _ c.made.ensures (λ limit e xs l zs ys m. let s = c.in_ok-new.ensures.list limit e xs l zs ys m in s.units)

pub returns-clause-joins : goal.returns-clause-joins
returns-clause-joins c = made_told c.made.result _ _ c.made.ensures (λ limit e xs l zs ys m. let s = c.in_ok-new.ensures.list limit e xs l zs ys m in s.joins)

pub returns-clause-stands : goal.returns-clause-stands
returns-clause-stands c = made_told c.made.result _ _ c.made.ensures (λ limit e xs l zs ys m. let s = c.in_ok-new.ensures.list limit e xs l zs ys m in s.stands)

pub returns-clause-texts : goal.returns-clause-texts
returns-clause-texts c = made_told c.made.result _ _ c.made.ensures (λ limit e xs l zs ys m. let s = c.in_ok-new.ensures.list limit e xs l zs ys m in (s.kept, s.texts))
