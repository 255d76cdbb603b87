-- How the reading of the texts in front, of the units found, and of those behind ends.
use Rattle.std.proofs.Common.{◌≡◌, ℕ, ◌-◌, ◌≤◌, List, Option, None, Result, drop, ap, subst, sym, arith}
use Rattle.std.specs.Prelude.{IfErr, sum_by}
use Rattle.std.specs.Option.{option_or}
use Rattle.std.specs.Result.{IsErrAnd}
use Rattle.std.proofs.lemmas.List.Sums.{sum_by-take-drop, sum_by-take-le}
use Rattle.std.proofs.lemmas.Result.{err_from_is_err_and}
use Rattle.mdsource.specs.declared.fault.EditFault.{EditFault}
use Rattle.mdsource.specs.declared.fault.EditFault.TheVariants.{OutOfRange, BreakInLine, TooManyLines, TooLarge, NestedTooDeep, InlineTooDeep, NoMemory, NotDefinitions}
use Rattle.mdview.specs.HeldBlocks.{lines_in}
use Rattle.mdview.specs.HeldTexts.{between}
use Rattle.mdsource.specs.TextFaults.{IsTextFault}
use Rattle.mdview.specs.HeldUnit.{HeldUnit}

-- what is returned for a fault
pub returned : {T : Type 0} (r : Result T EditFault) (fault : EditFault) (P : EditFault → Type 0) → IsErrAnd r (λ f. f ≡ fault) → P fault → IfErr r P
returned r fault P is h =
    let p = err_from_is_err_and r is in
    subst (λ z. IfErr z P) (sym p.1) (subst P (sym p.2) h)

pub fault_in_front : (front rest : Option ℕ) (fault : EditFault) → IsTextFault front fault → IsTextFault (option_or front rest) fault
fault_in_front front rest (InlineTooDeep line) h = ap (λ o. option_or o rest) h
fault_in_front front rest NoMemory h = tt
fault_in_front front rest (NestedTooDeep line) h = absurd h
fault_in_front front rest TooManyLines h = absurd h
fault_in_front front rest TooLarge h = absurd h
fault_in_front front rest (OutOfRange lines) h = absurd h
fault_in_front front rest (BreakInLine index) h = absurd h
fault_in_front front rest (NotDefinitions line) h = absurd h

pub fault_behind : (front rest : Option ℕ) (fault : EditFault) → front ≡ None → IsTextFault rest fault → IsTextFault (option_or front rest) fault
fault_behind front rest fault none h = subst (λ o. IsTextFault (option_or o rest) fault) (sym none) h

pub lines_between : (first next : ℕ) (units : List HeldUnit) → sum_by lines_in (between first next units) ≤ sum_by lines_in units
lines_between first next units =
    let some = sum_by-take-le lines_in (drop first units) (next - first) in
    let parts = sum_by-take-drop lines_in units first in
    omega (arith, some, parts)
