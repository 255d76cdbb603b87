-- The outcome of a call, by what is due of it.
use Rattle.std.proofs.Common.{◌≡◌, ℕ, Bool, true, false, List, Option, Some, None, Result, Err, refl, ap, subst, sym, ◌∙◌}
use Rattle.std.specs.Option.{option_or}
use Rattle.std.specs.Prelude.{IsErrAnd}
use Rattle.std.proofs.lemmas.Result.{err_from_is_err_and}
use Rattle.mdsource.specs.Calls.{Call, due as view_due, due_at_once, due_by_reading, put}
use Rattle.mdsource.specs.ChangedPieces.{ChangedPieces}
use Rattle.mdsource.specs.Changes.{patch_of}
use Rattle.mdsource.specs.Outcome.{Answer, accepted, refused, ends, goes_on}
use Rattle.mdsource.specs.Refusals.{Refusal, no_memory}
use Rattle.mdsource.specs.declared.fault.EditFault.{EditFault}
use Rattle.mdsource.specs.declared.fault.EditFault.TheVariants.{OutOfRange, BreakInLine, TooManyLines, TooLarge, NestedTooDeep, InlineTooDeep, NoMemory, NotDefinitions}
use Rattle.mdview.specs.Document.{Document, document, setting_of, source_of}
use Rattle.mdview.specs.Edit.{due}
use Rattle.mdsource.specs.FaultReasons.{reason_of}
use Rattle.mdview.specs.HeldTexts.{IsRefusedBy}
use Rattle.mdview.specs.Outcome.{answer_of, is_starved, outcome_of}
use Rattle.mdview.proofs.DueReasons.{is_due, none_due}

-- the outcome where this is due at once
abbrev went : (starved : Bool) → Document → Call → Option Refusal → Answer × Document
went starved held call reason =
    let o = goes_on starved (setting_of held) (source_of held) call reason in
    (o.answer, document (setting_of held) o.source)

-- and where this is due of what the text reads as
abbrev read_so : Document → Call → Option Refusal → Answer × Document
read_so held call reason =
    let o = ends (setting_of held) (source_of held) call reason in
    (o.answer, document (setting_of held) o.source)

module _ (held : Document) (call : Call) where
  -- refused whatever the memory
  pub refused_at_once : (fault : EditFault) → due held.lines call ≡ Some fault → (answer_of (Err fault), held) ≡ outcome_of (is_starved {T = ChangedPieces} (Err fault)) held call
  refused_at_once fault h = sym (ap (went (is_starved {T = ChangedPieces} (Err fault)) held call) (is_due (source_of held) call fault h))

  -- refused for want of memory
  pub starves : due held.lines call ≡ None → (refused no_memory, held) ≡ outcome_of true held call
  starves once = sym (ap (went true held call) (none_due (source_of held) call once))

  reads_so : due held.lines call ≡ None → (why : Option Refusal) → due_by_reading (setting_of held) (source_of held) call ≡ why → read_so held call why ≡ outcome_of false held call
  reads_so once why is = sym (ap (went false held call) (none_due (source_of held) call once) ∙ ap (read_so held call) is)

  -- refused for what it reads as, or for want of memory
  pub refused_by_reading : (fault : EditFault) → due held.lines call ≡ None → IsRefusedBy (due_by_reading (setting_of held) (source_of held) call) fault
      → (answer_of (Err fault), held) ≡ outcome_of (is_starved {T = ChangedPieces} (Err fault)) held call
  refused_by_reading NoMemory once why = starves once
  refused_by_reading (NestedTooDeep line) once why = reads_so once (Some (reason_of (NestedTooDeep line))) why
  refused_by_reading (InlineTooDeep line) once why = reads_so once (Some (reason_of (InlineTooDeep line))) why
  refused_by_reading (NotDefinitions line) once why = reads_so once (Some (reason_of (NotDefinitions line))) why
  refused_by_reading TooManyLines once why = reads_so once (Some (reason_of TooManyLines)) why
  refused_by_reading TooLarge once why = reads_so once (Some (reason_of TooLarge)) why
  refused_by_reading (OutOfRange lines) once why = reads_so once (Some (reason_of (OutOfRange lines))) why
  refused_by_reading (BreakInLine index) once why = reads_so once (Some (reason_of (BreakInLine index))) why

  -- accepted
  pub accepts : (new : Document) (patch : ChangedPieces) → due held.lines call ≡ None → due_by_reading (setting_of held) (source_of held) call ≡ None
      → patch ≡ patch_of (setting_of held) (source_of held) call → new ≡ document (setting_of held) (put (source_of held) call) → (accepted patch, new) ≡ outcome_of false held call
  accepts new patch once none patch_is new_is =
      ap (λ p. (accepted p, new)) patch_is
      ∙ ap (λ (d : Document). (accepted (patch_of (setting_of held) (source_of held) call), d)) new_is
      ∙ reads_so once None none

-- what is returned for a fault
pub returns_refusal : (result : Result ChangedPieces EditFault) (fault : EditFault) (held : Document) (call : Call) → IsErrAnd result (λ f. f ≡ fault)
    → (answer_of (Err fault), held) ≡ outcome_of (is_starved {T = ChangedPieces} (Err fault)) held call → (answer_of result, held) ≡ outcome_of (is_starved result) held call
returns_refusal result fault held call is h =
    let p = err_from_is_err_and result is in
    subst (λ (r : Result ChangedPieces EditFault). (answer_of r, held) ≡ outcome_of (is_starved r) held call) (sym p.1)
    (subst (λ f. (answer_of (Err f), held) ≡ outcome_of (is_starved {T = ChangedPieces} (Err f)) held call) (sym p.2) h)

-- ---- what is due, by the answer where memory was not refused

reason_in : Answer → Option Refusal
reason_in (accepted patch) = None
reason_in (refused reason) = Some reason

due_in_end : (held : Document) (call : Call) (due : Option Refusal) → due ≡ reason_in ((read_so held call due).0)
unfolding reason_in
due_in_end held call None = refl
due_in_end held call (Some reason) = refl

by_due : (held : Document) (call : Call) (once : Option Refusal) → went false held call once ≡ read_so held call (option_or once (due_by_reading (setting_of held) (source_of held) call))
by_due held call (Some reason) = refl
by_due held call None = refl

due_told : (held : Document) (call : Call) → view_due (setting_of held) (source_of held) call ≡ reason_in ((outcome_of false held call).0)
due_told held call =
    due_in_end held call (view_due (setting_of held) (source_of held) call)
    ∙ ap (λ (p : Answer × Document). reason_in p.0) (sym (by_due held call (due_at_once (source_of held) call)))

-- a refused call is refused for what is due
pub refused_due : (held : Document) (call : Call) (fault : EditFault) (new : Document) → (answer_of (Err fault), new) ≡ outcome_of false held call
    → view_due (setting_of held) (source_of held) call ≡ Some (reason_of fault)
unfolding reason_in
refused_due held call fault new is = due_told held call ∙ ap (λ (p : Answer × Document). reason_in p.0) (sym is)

-- of an accepted one nothing is due, and what it puts is there then
pub accepted_stands : (held : Document) (call : Call) (patch : ChangedPieces) (new : Document) → (accepted patch, new) ≡ outcome_of false held call → view_due (setting_of held) (source_of held) call ≡ None
unfolding reason_in
accepted_stands held call patch new is = due_told held call ∙ ap (λ (p : Answer × Document). reason_in p.0) (sym is)

pub accepted_holds : (held : Document) (call : Call) (patch : ChangedPieces) (new : Document) → (accepted patch, new) ≡ outcome_of false held call → new ≡ document (setting_of held) (put (source_of held) call)
accepted_holds held call patch new is =
    ap (λ (p : Answer × Document). p.1) (is ∙ by_due held call (due_at_once (source_of held) call) ∙ ap (read_so held call) (accepted_stands held call patch new is))

read_keeps : (held : Document) (call : Call) (reason : Refusal) (due : Option Refusal) → (read_so held call due).0 ≡ refused reason → (read_so held call due).1 ≡ held
unfolding reason_in
read_keeps held call reason (Some r) h = refl
read_keeps held call reason None h = let none : None ≡ Some reason = ap reason_in h in cc

went_keeps : (held : Document) (call : Call) (reason : Refusal) (starved : Bool) (once : Option Refusal) → (went starved held call once).0 ≡ refused reason → (went starved held call once).1 ≡ held
went_keeps held call reason starved (Some r) h = refl
went_keeps held call reason true None h = refl
went_keeps held call reason false None h = read_keeps held call reason (due_by_reading (setting_of held) (source_of held) call) h

-- a refused call has changed nothing
pub refused_keeps : (held : Document) (call : Call) (fault : EditFault) (starved : Bool) (new : Document) → (answer_of (Err fault), new) ≡ outcome_of starved held call → new ≡ held
refused_keeps held call fault starved new is =
    ap (λ (p : Answer × Document). p.1) is
    ∙ went_keeps held call (reason_of fault) starved (due_at_once (source_of held) call) (sym (ap (λ (p : Answer × Document). p.0) is))

-- a patch that says so is this one
abbrev made : (first removed added : ℕ) → List ℕ → ChangedPieces
made first removed added again = record { first = first; removed = removed; added = added; again = again }

pub same_patch : (one other : ChangedPieces) → one.first ≡ other.first → one.removed ≡ other.removed → one.added ≡ other.added → one.again ≡ other.again → one ≡ other
same_patch one other first removed added again =
    ap (λ n. made n one.removed one.added one.again) first
    ∙ ap (λ n. made other.first n one.added one.again) removed
    ∙ ap (λ n. made other.first other.removed n one.again) added
    ∙ ap (λ ns. made other.first other.removed other.added ns) again
