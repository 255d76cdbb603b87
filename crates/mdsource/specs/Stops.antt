-- Where the reading of an edited text may stop: at the first line behind the edit at which a unit begins in both texts, or a later item of a top-level list
-- does (CommonMark 5.2, 5.3).
use Rattle.std.specs.Prelude.{ℕ, ◌+◌, ◌-◌, ◌&&◌, Bool, List, [], length, nat_le, nat_eq, if◌then◌else◌}
use Rattle.std.specs.List.{find, list_any}
use Rattle.std.specs.Option.{unwrap_or}
use Rattle.blockspec.specs.Joins.{joins}
use Rattle.mdsource.specs.Setting.{Setting, Source}
use Rattle.mdsource.specs.Calls.{Call, edit, set_prelude, put}
use Rattle.mdsource.specs.Stretch.{Places, from_line, old_line, meeting_line}
use Rattle.mdsource.specs.Changes.{places}

-- the lines at which lists of the old text and of the new one may be parted, and the places of the edit
pub record Stops : Type 0 where
  pub places : Places
  pub old_joins : List ℕ
  pub new_joins : List ℕ

-- a later item of a list begins at this line behind the edit, and one began there before
abbrev pub is_near : Stops → ℕ → Bool
is_near s line = nat_le (s.places.at + s.places.come) line && list_any (nat_eq (old_line s.places line)) s.old_joins

-- the first such line, or the end of the text
abbrev pub near_line : Stops → ℕ
near_line s = unwrap_or (find (is_near s) s.new_joins) s.places.new_lines

-- Reading stops at the first of both lines: the one at which a unit begins in both texts, and the one at which a later item does.
abbrev pub stop_line : Stops → ℕ
stop_line s = if nat_le (meeting_line s.places) (near_line s) then meeting_line s.places else near_line s

-- how many lines are read at most: those from the first one read to the one at which reading stops, with it; the end counts as a line
abbrev pub lines_to_stop : Stops → ℕ
lines_to_stop s = (stop_line s - from_line s.places) + 1

-- where lists may be parted before an edit and after it; a new prelude leaves all lines, so nothing is read again for it
abbrev pub stops_between : Setting → (old new : Source) → Call → Stops
stops_between setting old new (edit at del add) = record {
  places = places setting old (edit at del add);
  old_joins = joins setting.entities old.lines;
  new_joins = joins setting.entities new.lines;
}
stops_between setting old new (set_prelude lines) = record { places = places setting old (set_prelude lines); old_joins = []; new_joins = [] }

abbrev pub stops : Setting → Source → Call → Stops
stops setting old call = stops_between setting old (put old call) call

-- how many lines a call reads at most that stops inside a list; of a new prelude its own lines
abbrev pub lines_soon : Setting → Source → Call → ℕ
lines_soon setting old (edit at del add) = lines_to_stop (stops setting old (edit at del add))
lines_soon setting old (set_prelude lines) = length lines
