-- Which lines are no text or no prelude, whatever the memory: a line ending in one of them, too many lines, too many bytes.
use Rattle.std.specs.Prelude.{ℕ, ◌+◌, Bool, ◌||◌, List, [], ◌∷◌, length, map, Option, Some, None, if◌then◌else◌, ◌==◌, nat_lt, sum_by}
use Rattle.std.specs.List.{list_any}
use Rattle.mdtext.specs.ByteClass.{in_class}
use Rattle.mdtext.specs.Lines.{without_nul}
use Rattle.mdsource.specs.declared.fault.EditFault.{EditFault}
use Rattle.mdsource.specs.declared.fault.EditFault.TheVariants.{BreakInLine, TooManyLines, TooLarge}

-- the bytes of a text, with one for each line
abbrev pub size_of : List (List ℕ) → ℕ
size_of lines = sum_by (λ line. length line + 1) lines

-- whether LF or CR stands in the line
abbrev pub has_line_ending : List ℕ → Bool
has_line_ending line = list_any (λ byte. (byte == 10) || (byte == 13)) line

-- whether LF, CR or U+0000 stands in the line: one in which none does is taken as it is
abbrev pub has_special : List ℕ → Bool
has_special line = list_any (in_class (0 ∷ 10 ∷ 13 ∷ [])) line

-- the first line with a line ending in it, where the lines are numbered from i
abbrev pub first_with_ending : ℕ → List (List ℕ) → Option ℕ
first_with_ending i [] = None
first_with_ending i (line ∷ lines) = if has_line_ending line then Some i else first_with_ending (i + 1) lines

-- why these lines are no text
abbrev pub refusal : List (List ℕ) → Option EditFault
refusal lines =
    if nat_lt 1000000 (length lines) then Some TooManyLines
    else if nat_lt 16777216 (size_of lines) then Some TooLarge
    else None

-- why a call is refused that brings lines of which this is the first with a line ending, if one has any, and that would leave this text
abbrev pub due_of_text : Option ℕ → List (List ℕ) → Option EditFault
due_of_text (Some index) lines = Some (BreakInLine index)
due_of_text None lines = refusal lines

-- why these lines are refused as a prelude, whatever the memory
abbrev pub due_of_prelude : List (List ℕ) → Option EditFault
due_of_prelude new = due_of_text (first_with_ending 0 new) (map without_nul new)
