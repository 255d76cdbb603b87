-- The faults that the reading of inline texts gives.
use Rattle.std.specs.Prelude.{◌≡◌, ℕ, Option, Some}
use Rattle.mdinline.specs.declared.faults.InlineFault.{InlineFault}
use Rattle.mdinline.specs.declared.faults.InlineFault.TheVariants as inline
use Rattle.mdsource.specs.declared.fault.EditFault.{EditFault}
use Rattle.mdsource.specs.declared.fault.EditFault.TheVariants.{OutOfRange, BreakInLine, TooManyLines, TooLarge, NestedTooDeep, InlineTooDeep, NoMemory, NotDefinitions}

-- a fault of the reading of inline texts, where at this line, if any, the first unit begins in which spans lie too deep
abbrev pub IsTextFault : (deep : Option ℕ) → EditFault → Type 0
IsTextFault deep (InlineTooDeep line) = deep ≡ Some line
IsTextFault deep NoMemory = Unit {0}
IsTextFault deep (NestedTooDeep line) = ⊥
IsTextFault deep TooManyLines = ⊥
IsTextFault deep TooLarge = ⊥
IsTextFault deep (OutOfRange lines) = ⊥
IsTextFault deep (BreakInLine index) = ⊥
IsTextFault deep (NotDefinitions line) = ⊥

-- the fault of an edit for a fault of the reading of the texts of a unit which begins at a line
abbrev pub text_fault_in : InlineFault → ℕ → EditFault
text_fault_in inline.TooDeep line = InlineTooDeep line
text_fault_in inline.NoMemory line = NoMemory
