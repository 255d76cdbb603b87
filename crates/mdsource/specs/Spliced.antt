-- How the units of a text behind an edit come from those before it: some in front stay, some give way to others, and those behind stay.
use Rattle.std.specs.Prelude.{◌≡◌, ◌≤◌, ℕ, List, ◌++◌, length, map, take, drop}
use Rattle.mdtext.specs.EntityTable.{EntityTable}
use Rattle.blockspec.specs.BlockUnits.{units}
use Rattle.blockspec.specs.UnitBegin.{shift_found}
use Rattle.blockspec.specs.UnitTree.{FoundUnit}
use Rattle.mdsource.specs.Stretch.{Places, from_line, old_line, meeting_line, units_before, units_removed, units_added}

-- the units of a text in three parts: in front, from one line on to another, and from that line on
abbrev pub in_parts : EntityTable → (front text : List (List ℕ)) → (from to : ℕ) → List FoundUnit
in_parts e front text from to =
    units e (take from front) ++ map (shift_found from) (units e (drop from (take to text))) ++ map (shift_found to) (units e (drop to text))

-- From the first line that is read to the meeting line units give way; in front and behind they are the same in both texts, so many lines further on. The numbers
-- of the patch are how many stand in front, how many give way, and to how many new ones.
pub record IsSpliced (e : EntityTable) (old new : List (List ℕ)) (p : Places) : Type 0 where
  pub order : from_line p ≤ meeting_line p
  pub olds : units e old ≡ in_parts e old old (from_line p) (old_line p (meeting_line p))
  pub news : units e new ≡ in_parts e old new (from_line p) (meeting_line p)
  pub same : drop (meeting_line p) new ≡ drop (old_line p (meeting_line p)) old
  pub first : units_before p ≡ length (units e (take (from_line p) old))
  pub removed : units_removed p ≡ length (units e (drop (from_line p) (take (old_line p (meeting_line p)) old)))
  pub added : units_added p ≡ length (units e (drop (from_line p) (take (meeting_line p) new)))
