-- The names and numbers of refusals.
use Rattle.std.specs.Prelude.{ℕ, List, codes}
use Rattle.mdsource.specs.Refusals.{Refusal, out_of_range, break_in_line, too_many_lines, too_large, nested_too_deep, inline_too_deep, no_memory, not_definitions}

-- a refusal's name and number
abbrev pub name_of : Refusal → List ℕ
name_of (out_of_range lines) = codes "OutOfRange"
name_of (break_in_line index) = codes "BreakInLine"
name_of too_many_lines = codes "TooManyLines"
name_of too_large = codes "TooLarge"
name_of (nested_too_deep line) = codes "NestedTooDeep"
name_of (inline_too_deep line) = codes "InlineTooDeep"
name_of no_memory = codes "NoMemory"
name_of (not_definitions line) = codes "NotDefinitions"

abbrev pub number_of : Refusal → ℕ
number_of (out_of_range lines) = lines
number_of (break_in_line index) = index
number_of too_many_lines = 0
number_of too_large = 0
number_of (nested_too_deep line) = line
number_of (inline_too_deep line) = line
number_of no_memory = 0
number_of (not_definitions line) = line
