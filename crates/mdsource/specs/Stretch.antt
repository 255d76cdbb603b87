-- Which lines an edit reads again, and which units give way to which, by the first lines of the units of the old text and of the new one.
use Rattle.std.specs.Prelude.{ℕ, ◌+◌, ◌-◌, ◌&&◌, Bool, List, length, nat_lt, nat_le, nat_eq, max}
use Rattle.std.specs.List.{fold, filter, find, list_any}
use Rattle.std.specs.Option.{unwrap_or}

-- the first lines of the units of both texts, how many lines the new one has, and the edit: where, how many lines went, how many came
pub record Places : Type 0 where
  pub old_begins : List ℕ
  pub new_begins : List ℕ
  pub new_lines : ℕ
  pub at : ℕ
  pub gone : ℕ
  pub come : ℕ

-- Reading begins with the last unit that begins above the edit, or with the first line.
abbrev pub from_line : Places → ℕ
from_line p = fold max 0 (filter (λ begin. nat_lt begin p.at) p.old_begins)

-- the number that a line behind the edit had before it
abbrev pub old_line : Places → ℕ → ℕ
old_line p line = (line - p.come) + p.gone

-- a unit begins at this line behind the edit, and one began there before
abbrev pub is_meeting : Places → ℕ → Bool
is_meeting p line = nat_le (p.at + p.come) line && list_any (nat_eq (old_line p line)) p.old_begins

-- Reading ends at the first line behind the edit at which a unit begins and one began before, or at the end of the text.
abbrev pub meeting_line : Places → ℕ
meeting_line p = unwrap_or (find (is_meeting p) p.new_begins) p.new_lines

-- how many of these units begin from one line on and before another
abbrev pub count_between : (from to : ℕ) → List ℕ → ℕ
count_between from to begins = length (filter (λ begin. nat_le from begin && nat_lt begin to) begins)

-- how many old units stand before the first one that is read again
abbrev pub units_before : Places → ℕ
units_before p = count_between 0 (from_line p) p.old_begins

-- how many old units give way, and to how many new ones
abbrev pub units_removed : Places → ℕ
units_removed p = count_between (from_line p) (old_line p (meeting_line p)) p.old_begins

abbrev pub units_added : Places → ℕ
units_added p = count_between (from_line p) (meeting_line p) p.new_begins

-- how many lines are read at most: those from the first one read to the meeting line, with it; the end counts as a line
abbrev pub lines_read : Places → ℕ
lines_read p = (meeting_line p - from_line p) + 1
