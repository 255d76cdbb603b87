-- What a call answers and leaves. Want of memory may refuse any call that is not refused at once.
use Rattle.std.specs.Prelude.{Bool, true, false, Option, Some, None}
use Rattle.mdsource.specs.Calls.{Call, put, due_at_once, due_by_reading}
use Rattle.mdsource.specs.ChangedPieces.{ChangedPieces}
use Rattle.mdsource.specs.Changes.{patch_of}
use Rattle.mdsource.specs.Refusals.{Refusal, no_memory}
use Rattle.mdsource.specs.Setting.{Setting, Source}

pub data Answer : Type 0 where
  accepted : (patch : ChangedPieces) → Answer
  refused : (reason : Refusal) → Answer

-- the answer, and the source that is there then
pub record Outcome : Type 0 where
  pub answer : Answer
  pub source : Source

-- a refused call has changed nothing
abbrev pub refuses : Source → Refusal → Outcome
refuses old reason = record { answer = refused reason; source = old }

abbrev pub ends : Setting → Source → Call → Option Refusal → Outcome
ends setting old call (Some reason) = refuses old reason
ends setting old call None = record { answer = accepted (patch_of setting old call); source = put old call }

abbrev pub goes_on : (starved : Bool) → Setting → Source → Call → Option Refusal → Outcome
goes_on starved setting old call (Some reason) = refuses old reason
goes_on true setting old call None = refuses old no_memory
goes_on false setting old call None = ends setting old call (due_by_reading setting old call)

-- what a call answers and leaves, where `starved` says whether memory was refused for it
abbrev pub outcome : (starved : Bool) → Setting → Source → Call → Outcome
outcome starved setting old call = goes_on starved setting old call (due_at_once old call)
