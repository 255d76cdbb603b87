-- How the units of a text behind an edit come from those before it, where reading stops inside a list: the items from there on stay, and so do all units behind that list.
use Rattle.std.specs.Prelude.{◌≡◌, ℕ, ◌+◌, List, [], ◌∷◌, ◌++◌, length, map, take, drop}
use Rattle.mdtext.specs.EntityTable.{EntityTable}
use Rattle.blockspec.specs.BlockUnits.{units}
use Rattle.blockspec.specs.UnitBegin.{shift_found}
use Rattle.blockspec.specs.UnitTree.{FoundUnit}
use Rattle.mdsource.specs.Stretch.{old_line, meeting_line}
use Rattle.mdsource.specs.Stops.{Stops, near_line}

-- where the first of some units begins, or the end of so many lines
abbrev pub first_line : (lines : ℕ) → List FoundUnit → ℕ
first_line lines [] = lines
first_line lines (found ∷ later) = found.begin

-- A list in two parts: the unit that its items in front of a line are alone, the one that those from it on are alone, and the one that all of them are; and the units before the list and behind it.
pub record IsPartedAt (e : EntityTable) (lines : List (List ℕ)) (line : ℕ) (before : List FoundUnit) (front behind whole : FoundUnit) (later : List FoundUnit) : Type 0 where
  pub fronts : units e (take line lines) ≡ before ++ front ∷ []
  pub behinds : units e (drop line lines) ≡ behind ∷ later
  pub wholes : units e lines ≡ before ++ whole ∷ map (shift_found line) later
  pub begin : whole.begin ≡ front.begin
  pub texts : whole.unit.texts ≡ front.unit.texts ++ behind.unit.texts
  pub definitions : whole.unit.definitions ≡ front.unit.definitions ++ behind.unit.definitions

-- Both lists are parted at that line, and from it on they are the same; the meeting line is the end of the list.
pub record IsMetInside (e : EntityTable) (old new : List (List ℕ)) (s : Stops) : Type 0 where
  pub old_before : List FoundUnit
  pub new_before : List FoundUnit
  pub old_front : FoundUnit
  pub new_front : FoundUnit
  pub behind : FoundUnit
  pub old_list : FoundUnit
  pub new_list : FoundUnit
  pub later : List FoundUnit
  pub same : drop (near_line s) new ≡ drop (old_line s.places (near_line s)) old
  pub olds : IsPartedAt e old (old_line s.places (near_line s)) old_before old_front behind old_list later
  pub news : IsPartedAt e new (near_line s) new_before new_front behind new_list later
  pub meets : meeting_line s.places ≡ near_line s + first_line (length (drop (near_line s) new)) later
