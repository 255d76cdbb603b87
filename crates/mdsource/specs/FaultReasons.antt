-- A fault as the definition's refusal.
use Rattle.mdsource.specs.Refusals.{Refusal, out_of_range, break_in_line, too_many_lines, too_large, nested_too_deep, inline_too_deep, no_memory, not_definitions}
use Rattle.mdsource.specs.declared.fault.EditFault.{EditFault}
use Rattle.mdsource.specs.declared.fault.EditFault.TheVariants.{OutOfRange, BreakInLine, TooManyLines, TooLarge, NestedTooDeep, InlineTooDeep, NoMemory, NotDefinitions}

-- why a call was refused, in the words of the view
abbrev pub reason_of : EditFault → Refusal
reason_of (OutOfRange lines) = out_of_range lines
reason_of (BreakInLine index) = break_in_line index
reason_of TooManyLines = too_many_lines
reason_of TooLarge = too_large
reason_of (NestedTooDeep line) = nested_too_deep line
reason_of (InlineTooDeep line) = inline_too_deep line
reason_of NoMemory = no_memory
reason_of (NotDefinitions line) = not_definitions line
