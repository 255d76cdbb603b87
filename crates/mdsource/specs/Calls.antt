-- What a call of a preview means: the text that it would leave, why it is refused, and what is there after some calls.
use Rattle.std.specs.Prelude.{ℕ, ◌+◌, ◌-◌, ◌==◌, ◌||◌, Bool, List, [], ◌∷◌, ◌++◌, length, map, take, drop, nat_lt, Option, Some, None, option_map, if◌then◌else◌}
use Rattle.std.specs.List.{list_any}
use Rattle.std.specs.Option.{option_or}
use Rattle.mdtext.specs.Lines.{without_nul}
use Rattle.mdsource.specs.Setting.{Setting, Source}
use Rattle.mdsource.specs.Refusals.{Refusal, out_of_range, break_in_line, size_refusal, nesting_refusal, prelude_refusal}

pub data Call : Type 0 where
  -- del lines at a place are replaced by others
  edit : (at del : ℕ) → (add : List (List ℕ)) → Call
  -- the prelude is replaced by these lines
  set_prelude : (lines : List (List ℕ)) → Call

-- what a call would leave; U+0000 is replaced in the lines that it brings (CommonMark 2.3)
abbrev pub put : Source → Call → Source
put source (edit at del add) = record source { lines = take at source.lines ++ map without_nul add ++ drop (at + del) source.lines }
put source (set_prelude lines) = record source { prelude = map without_nul lines }

-- whether LF or CR stands in the line
abbrev pub has_line_ending : List ℕ → Bool
has_line_ending line = list_any (λ byte. (byte == 10) || (byte == 13)) line

-- the first line with a line ending in it, where the first of them has this number
abbrev pub line_ending_from : (number : ℕ) → List (List ℕ) → Option ℕ
line_ending_from number [] = None
line_ending_from number (line ∷ later) = if has_line_ending line then Some number else line_ending_from (number + 1) later

-- the edit reaches past the text
abbrev pub past_the_text : (lines at del : ℕ) → Option Refusal
past_the_text lines at del = if nat_lt lines at || nat_lt (lines - at) del then Some (out_of_range lines) else None

-- Why a call is refused whatever the memory: the first reason of those that its own lines and the size of the text tell.
abbrev pub due_at_once : Source → Call → Option Refusal
due_at_once source (edit at del add) =
    option_or (past_the_text (length source.lines) at del)
    (option_or (option_map break_in_line (line_ending_from 0 add)) (size_refusal (put source (edit at del add)).lines))
due_at_once source (set_prelude lines) =
    option_or (option_map break_in_line (line_ending_from 0 lines)) (size_refusal (put source (set_prelude lines)).prelude)

-- why it is refused by what its text, or its prelude, reads as
abbrev pub due_by_reading : Setting → Source → Call → Option Refusal
due_by_reading setting source (edit at del add) = nesting_refusal setting (put source (edit at del add))
due_by_reading setting source (set_prelude lines) = prelude_refusal setting (put source (set_prelude lines))

-- why a call is refused where there is memory enough
abbrev pub due : Setting → Source → Call → Option Refusal
due setting source call = option_or (due_at_once source call) (due_by_reading setting source call)

abbrev pub unless_refused : Option Refusal → (old new : Source) → Source
unless_refused (Some reason) old new = old
unless_refused None old new = new

-- what is there after some calls, in order, where there is memory enough: a refused call has changed nothing
abbrev pub after : Setting → Source → List Call → Source
after setting source [] = source
after setting source (call ∷ calls) = after setting (unless_refused (due setting source call) source (put source call)) calls
