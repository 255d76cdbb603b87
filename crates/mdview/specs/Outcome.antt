-- What a call of a preview answers and leaves, in the words of the view.
use Rattle.std.specs.Prelude.{Bool, true, false, Result, Ok, Err}
use Rattle.mdsource.specs.Calls.{Call}
use Rattle.mdsource.specs.ChangedPieces.{ChangedPieces}
use Rattle.mdsource.specs.Outcome.{Answer, accepted, refused, outcome}
use Rattle.mdsource.specs.declared.fault.EditFault.{EditFault}
use Rattle.mdsource.specs.declared.fault.EditFault.TheVariants.{OutOfRange, BreakInLine, TooManyLines, TooLarge, NestedTooDeep, InlineTooDeep, NoMemory, NotDefinitions}
use Rattle.mdview.specs.Document.{Document, document, setting_of, source_of}
use Rattle.mdsource.specs.FaultReasons.{reason_of}

-- memory was refused
abbrev pub is_starved : {T : Type 0} → Result T EditFault → Bool
is_starved (Ok answer) = false
is_starved (Err NoMemory) = true
is_starved (Err (OutOfRange lines)) = false
is_starved (Err (BreakInLine index)) = false
is_starved (Err TooManyLines) = false
is_starved (Err TooLarge) = false
is_starved (Err (NestedTooDeep line)) = false
is_starved (Err (InlineTooDeep line)) = false
is_starved (Err (NotDefinitions line)) = false

abbrev pub answer_of : Result ChangedPieces EditFault → Answer
answer_of (Ok patch) = accepted patch
answer_of (Err fault) = refused (reason_of fault)

-- what a call answers, and the preview that it leaves, where `starved` says whether memory was refused for it
abbrev pub outcome_of : (starved : Bool) → Document → Call → Answer × Document
outcome_of starved held call =
    let o = outcome starved (setting_of held) (source_of held) call in
    (o.answer, document (setting_of held) o.source)
