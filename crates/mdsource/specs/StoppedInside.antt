-- What holds where reading stops inside a list, of the old unit that has the line at which it stops: the unit is the last one that gives way, and a later item of it begins there.
use Rattle.std.specs.Prelude.{◌≡◌, ◌<◌, ◌≤◌, ℕ, ◌+◌, ◌-◌, Contains, List, [], ◌∷◌, ◌++◌, length, take, drop}
use Rattle.mdtext.specs.EntityTable.{EntityTable}
use Rattle.blockspec.specs.BlockUnits.{units}
use Rattle.blockspec.specs.UnitTree.{FoundUnit}
use Rattle.mdsource.specs.Stretch.{from_line, old_line, meeting_line, units_before, units_removed}
use Rattle.mdsource.specs.Stops.{Stops, near_line}
use Rattle.mdsource.specs.UnitItems.{own_lines, own_joins}

-- this unit of some lines has this line
pub record HoldsLine (e : EntityTable) (lines : List (List ℕ)) (before : List FoundUnit) (one : FoundUnit) (back : List FoundUnit) (line : ℕ) : Type 0 where
  pub is : units e lines ≡ before ++ one ∷ back
  pub low : one.begin ≤ line
  pub high : line < one.begin + one.lines

-- The unit is the last one that gives way, and ends at the meeting line; a later item of it begins in the line, and its lines from there on are those of the new text
-- up to the meeting line. So what is read are some lines and this one, and with the old ones behind it they are all lines up to the meeting line.
pub record IsStoppedIn (e : EntityTable) (old new : List (List ℕ)) (s : Stops) (before : List FoundUnit) (one : FoundUnit) : Type 0 where
  pub number : length before + 1 ≡ units_before s.places + units_removed s.places
  pub above : one.begin < old_line s.places (near_line s)
  pub ends : one.begin + one.lines ≡ old_line s.places (meeting_line s.places)
  pub as_many : (one.begin + one.lines) - old_line s.places (near_line s) ≡ meeting_line s.places - near_line s
  pub marked : Contains (own_joins e old one) (old_line s.places (near_line s) - one.begin)
  pub line : List ℕ
  pub later : List (List ℕ)
  pub old_front : length (take (old_line s.places (near_line s) - one.begin) (own_lines old one)) ≡ old_line s.places (near_line s) - one.begin
  pub old_lines : own_lines old one ≡ take (old_line s.places (near_line s) - one.begin) (own_lines old one) ++ line ∷ later
  pub read : drop (from_line s.places) (take (near_line s + 1) new) ≡ drop (from_line s.places) (take (near_line s) new) ++ line ∷ []
  pub stretch : drop (from_line s.places) (take (meeting_line s.places) new) ≡ drop (from_line s.places) (take (near_line s) new) ++ line ∷ later
