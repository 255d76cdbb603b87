-- What lines give behind others: the same, so many lines further on; where the two meet one list may go on.
use Rattle.std.specs.Prelude.{ℕ, ◌+◌, Bool, not, ◌&&◌, List, [], ◌∷◌, map, true, ◌≡◌}
use Rattle.blockspec.specs.BlockLine.{BlockLine, document_line}
use Rattle.blockspec.specs.BlankLines.{is_blank_line}
use Rattle.blockspec.specs.BlockStart.{begun}
use Rattle.blockspec.specs.BlockUnits.{depth_of}
use Rattle.blockspec.specs.Laziness.{Tip}
use Rattle.blockspec.specs.Lists.{Group}
use Rattle.blockspec.specs.Stretches.{Cut, gap_behind, cut_within, tip_within}
use Rattle.blockspec.specs.UnitBegin.{is_apart, list_mark, same_mark, tail_mark, begins_unit}

-- a group so many lines further on
abbrev pub shift_group : ℕ → Group → Group
shift_group k g = record { begin = g.begin + k; gap = g.gap; part = g.part }

abbrev pub shift_group_first : Bool → ℕ → Group → Group
shift_group_first gap k g = record { begin = g.begin + k; gap = gap; part = g.part }

-- groups so many lines further on, the first with another mark of a gap
abbrev pub shift_groups : Bool → ℕ → List Group → List Group
shift_groups gap k [] = []
shift_groups gap k (g ∷ gs) = shift_group_first gap k g ∷ map (shift_group k) gs

-- whether a line of a document begins a unit behind these lines
abbrev pub IsBeginning : (front : List (List ℕ)) → (line : List ℕ) → Type 0
IsBeginning front line = begins_unit (map document_line front) (document_line line) ≡ true

-- A line begins an item of the list that stands last, and so no unit.
unfoldable pub joins_behind : (tip : List BlockLine → Tip) → Cut → BlockLine → Bool
joins_behind tip cut l = is_apart tip cut.tail l && not (is_blank_line l) && same_mark (tail_mark cut.tail) (list_mark (begun l))

unfoldable pub joins_list : (front : List BlockLine) → BlockLine → Bool
joins_list front l = joins_behind (tip_within (depth_of front)) (cut_within (depth_of front) front) l

-- there is a gap behind these lines
unfoldable pub gap_after : (front : List BlockLine) → Bool
gap_after front = gap_behind (tip_within (depth_of front)) (cut_within (depth_of front) front)
