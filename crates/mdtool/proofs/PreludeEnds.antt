-- The ends of a script whose prelude is read first.
use Rattle.std.proofs.Common.{◌≡◌, ℕ, List, Option, Result, Ok, Err, refl, subst, inl}
use Rattle.std.specs.Result.{IsErrAnd}
use Rattle.mdsource.specs.Calls.{set_prelude}
use Rattle.mdsource.specs.ChangedPieces.{ChangedPieces}
use Rattle.mdsource.specs.declared.fault.EditFault.{EditFault}
use Rattle.mdsource.specs.declared.fault.EditFault.TheVariants.{NoMemory as EditNoMemory}
use Rattle.mdview.specs.Document.{Document}
use Rattle.mdview.specs.Outcome.{answer_of, is_starved, outcome_of}
use Rattle.mdview.proofs.Outcomes.{accepted_holds, accepted_stands, refused_due}
use Rattle.mdtool.specs.declared.fault.ToolFault.{ToolFault}
use Rattle.mdtool.specs.Commands.{Stop}
use Rattle.mdtool.specs.PreludeSet.{PreludeSet, RefusesLines, Sets}
use Rattle.mdtool.specs.ScriptEnds.{EndsBeside}
use Rattle.mdtool.specs.ToolRefusals.{refusal_of}
use Rattle.mdtool.proofs.OnlyRefuses.{NoDeviceFailed, handed_on}

-- where the prelude is refused, or memory is, nothing was read or written, and no device failed
pub prelude_ends : {U : Type 0} (Whole : Document → (left left' written written' : Option (List ℕ)) → Stop → Type 0) (Part : Document → (left left' written written' : Option (List ℕ)) → Type 0)
    (answer : Result U ToolFault) (fault : ToolFault) (old : Document) (lines : List (List ℕ)) (left written : Option (List ℕ)) (feed out : ℕ)
    → IsErrAnd answer (λ f. f ≡ fault) → PreludeSet (λ (held : Document). held) (Err fault) old lines
    → EndsBeside Whole Part answer old lines left left written written × NoDeviceFailed answer feed out
prelude_ends Whole Part answer fault old lines left written feed out failed end =
    handed_on (λ (held : Document). Sets old lines held) (λ why. RefusesLines old lines why)
    (λ r. EndsBeside Whole Part r old lines left left written written × NoDeviceFailed r feed out)
    (λ why refused. (record { refused = refused; unread = refl; unwritten = refl }, (refl, refl))) (inl (refl, refl), (refl, refl))
    answer fault failed end

-- a preview's answer to a new prelude, as an engine tells it
pub sets : (answer : Result ChangedPieces EditFault) (old new : Document) (lines : List (List ℕ)) (patch : ChangedPieces) → answer ≡ Ok patch
    → (answer_of answer, new) ≡ outcome_of (is_starved answer) old (set_prelude lines) → Sets old lines new
sets answer old new lines patch is outcome_is =
    let so = subst (λ (r : Result ChangedPieces EditFault). (answer_of r, new) ≡ outcome_of (is_starved r) old (set_prelude lines)) is outcome_is in record {
      stands = accepted_stands old (set_prelude lines) patch new so;
      holds = accepted_holds old (set_prelude lines) patch new so;
    }

refuses_set : {T : Type 0} (held : T → Document) (fault : EditFault) (old new : Document) (lines : List (List ℕ))
    → (answer_of (Err fault), new) ≡ outcome_of (is_starved {T = ChangedPieces} (Err fault)) old (set_prelude lines) → PreludeSet held (Err (refusal_of fault)) old lines
refuses_set held EditNoMemory old new lines is = tt
refuses_set held fault old new lines is = refused_due old (set_prelude lines) fault new is

pub refuses_prelude : {T : Type 0} (held : T → Document) (answer : Result ChangedPieces EditFault) (fault : EditFault) (old new : Document) (lines : List (List ℕ)) → answer ≡ Err fault
    → (answer_of answer, new) ≡ outcome_of (is_starved answer) old (set_prelude lines) → PreludeSet held (Err (refusal_of fault)) old lines
refuses_prelude held answer fault old new lines is outcome_is =
    refuses_set held fault old new lines (subst (λ (r : Result ChangedPieces EditFault). (answer_of r, new) ≡ outcome_of (is_starved r) old (set_prelude lines)) is outcome_is)
