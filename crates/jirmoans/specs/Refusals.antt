-- What C is told of a refusal.
use Rattle.std.specs.Prelude.{◌≡◌, ℕ, List, Result, Ok, Err}
use Rattle.std.specs.Str.{IsUtf8}
use Rattle.std.specs.Str.Lossy.{utf8_valid_len}
use Rattle.mdtext.specs.declared.entity_file.TableFault.TheVariants.{NotJson, BadEntry}
use Rattle.mdtext.specs.declared.entity_file.TableFault.TheVariants.{NoMemory as TableNoMemory}
use Rattle.mdsource.specs.declared.fault.EditFault.{EditFault}
use Rattle.mdsource.specs.declared.fault.EditFault.TheVariants.{OutOfRange, BreakInLine, TooManyLines, TooLarge, NestedTooDeep, InlineTooDeep, NoMemory, NotDefinitions}
use Rattle.mdsource.specs.FaultNames.{number_of as edit_number}
use Rattle.mdsource.specs.FaultReasons.{reason_of}
use Rattle.jirmoans.specs.declared.faults.Fault.{Fault}
use Rattle.jirmoans.specs.declared.faults.Refusal.{Refusal}
use Rattle.jirmoans.specs.declared.faults.Refusal.TheVariants.{Edit, Table, NotUtf8, NoSuchUnit, NotOpen, AlreadyOpen, UnknownBreaks, LimitTooLarge}

-- each fault has a number of its own
abbrev pub code_of_edit : EditFault → ℕ
code_of_edit (OutOfRange lines) = 1
code_of_edit (BreakInLine index) = 2
code_of_edit TooManyLines = 3
code_of_edit TooLarge = 4
code_of_edit (NestedTooDeep line) = 5
code_of_edit (InlineTooDeep line) = 6
code_of_edit NoMemory = 7
code_of_edit (NotDefinitions line) = 8

abbrev pub code_of : Refusal → ℕ
code_of (Edit fault) = code_of_edit fault
code_of (Table TableNoMemory) = 7
code_of (Table NotJson) = 15
code_of (Table BadEntry) = 16
code_of (NotUtf8 valid) = 9
code_of (NoSuchUnit units) = 10
code_of NotOpen = 11
code_of AlreadyOpen = 12
code_of UnknownBreaks = 13
code_of LimitTooLarge = 14

-- what a fault counts, or where it lies
abbrev pub number_of : Refusal → ℕ
number_of (Edit fault) = edit_number (reason_of fault)
number_of (Table fault) = 0
number_of (NotUtf8 valid) = valid
number_of (NoSuchUnit units) = units
number_of NotOpen = 0
number_of AlreadyOpen = 0
number_of UnknownBreaks = 0
number_of LimitTooLarge = 0

abbrev pub fault_of : Refusal → Fault
fault_of refusal = record { code = code_of refusal; number = number_of refusal }

abbrev pub done : Fault
done = record { code = 0; number = 0 }

-- what C is told of a call that ended so
abbrev pub fault_after : {A : Type 0} → Result A Refusal → Fault
fault_after (Ok value) = done
fault_after (Err refusal) = fault_of refusal

-- what stands then where C looks for the answer
abbrev pub told : {A : Type 0} → Result A Refusal → A → A
told (Ok value) old = value
told (Err refusal) old = old

-- of bytes that are no text: how many of the first ones are
abbrev pub IsCutAt : List ℕ → ℕ → Type 0
IsCutAt bytes valid = (¬ (IsUtf8 bytes)) × (valid ≡ utf8_valid_len bytes)

-- the bytes are refused because they are no text
abbrev pub IsCut : List ℕ → Refusal → Type 0
IsCut bytes (NotUtf8 valid) = IsCutAt bytes valid
IsCut bytes (Edit fault) = ⊥
IsCut bytes (Table fault) = ⊥
IsCut bytes (NoSuchUnit units) = ⊥
IsCut bytes NotOpen = ⊥
IsCut bytes AlreadyOpen = ⊥
IsCut bytes UnknownBreaks = ⊥
IsCut bytes LimitTooLarge = ⊥
