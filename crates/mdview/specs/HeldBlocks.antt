-- The blocks that a preview holds: they are the units of its lines.
use Rattle.std.specs.Prelude.{◌≡◌, ◌+◌, ◌-◌, ℕ, Bool, false, List, Option, Some, None, drop, length, map, nat_eq, string_bytes, take}
use Rattle.std.specs.List.{All}
use Rattle.mdtext.specs.EntityTable.{EntityTable}
use Rattle.blockspec.specs.BlockUnits.{begins, units}
use Rattle.blockspec.specs.UnitTree.{UnitTree}
use Rattle.mdsource.specs.Stretch.{Places, from_line, meeting_line, units_before, units_removed}
use Rattle.mdsource.specs.UnitTiles.{front_of, tile_of}
use Rattle.mdview.specs.NewText.{lines_of as new_lines}
use Rattle.mdview.specs.declared.source.new_text.NewText.{NewText}
use Rattle.mdview.specs.declared.blocks.reparse.Reparsed.{Reparsed}
use Rattle.mdsource.specs.declared.fault.EditFault.{EditFault}
use Rattle.mdsource.specs.declared.fault.EditFault.TheVariants.{OutOfRange, BreakInLine, TooManyLines, TooLarge, NestedTooDeep, InlineTooDeep, NoMemory, NotDefinitions}
use Rattle.mdview.specs.declared.update.Update.{Update}
use Rattle.mdview.specs.HeldLists.{StandForUnits, StandsAt, list_in, list_read}
use Rattle.mdview.specs.HeldUnit.{HeldUnit, ReadUnit, read_of}
use Rattle.mdview.specs.NewText.{lines_of as new_lines}
use Rattle.mdview.specs.UnitsFound.{found_in, units_found}
use Rattle.mdview.specs.Update.{units_brought}

-- a unit that is held without its place: how many lines it has, and the unit
abbrev pub tile_in : ReadUnit → ℕ × UnitTree
tile_in u = (u.lines, u.unit)

abbrev pub held_tile : HeldUnit → ℕ × UnitTree
held_tile u = tile_in (read_of u)

abbrev pub lines_in : HeldUnit → ℕ
lines_in u = u.read.lines

-- these are the units of these lines, so many of which stand before the first one, and each stands for its own lines
pub record HoldsUnits (e : EntityTable) (lines : List (List ℕ)) (head : ℕ) (held : List ReadUnit) : Type 0 where
  pub before : head ≡ front_of (length lines) (units e lines)
  pub tiles : map tile_in held ≡ map tile_of (units e lines)
  pub stands : StandForUnits e (map list_read held) (drop head lines)

-- the lines before an edit
abbrev pub old_lines : NewText → List (List ℕ)
old_lines text = map string_bytes text.lines.now.items

-- where an edit begins and ends, and the first lines of the units of both texts
abbrev pub places_of : EntityTable → NewText → Places
places_of e text = record {
  old_begins = begins e (old_lines text);
  new_begins = begins e (new_lines text);
  new_lines = length (new_lines text);
  at = text.at;
  gone = text.gone;
  come = length text.added.now;
}

-- the number that a line had before the edit; a line that is not behind the edit has that of the first one behind it
abbrev pub line_before : Places → ℕ → ℕ
line_before p line = (line - (p.at + p.come)) + (p.at + p.gone)

-- what was read: the units of the lines from where reading begins to the meeting line, and of which old units these take the place
pub record IsReread (e : EntityTable) (text : NewText) (r : Reparsed) : Type 0 where
  pub from : r.from ≡ from_line (places_of e text)
  pub meet : r.meet ≡ meeting_line (places_of e text)
  pub first : r.first ≡ units_before (places_of e text)
  pub next : r.next ≡ units_before (places_of e text) + units_removed (places_of e text)
  pub found : units_found r ≡ units e (drop r.from (take r.meet (new_lines text)))
  pub stands : All (StandsAt e (drop r.from (take r.meet (new_lines text)))) (found_in r)

-- the lines from the first unit on
abbrev pub unit_lines : EntityTable → List (List ℕ) → List (List ℕ)
unit_lines e lines = drop (front_of (length lines) (units e lines)) lines

-- what it brings to the held ones: units that take the place of some, and how many lines stand before the first unit then
pub record IsReplacing (e : EntityTable) (held : List HeldUnit) (text : NewText) (update : Update) : Type 0 where
  pub first : update.first ≡ units_before (places_of e text)
  pub next : update.next ≡ units_before (places_of e text) + units_removed (places_of e text)
  pub head : update.head ≡ front_of (length (new_lines text)) (units e (new_lines text))
  pub units : map tile_in (map read_of (units_brought held update)) ≡ map tile_of (units e (drop (from_line (places_of e text)) (take (meeting_line (places_of e text)) (new_lines text))))
  pub stands : StandForUnits e (map list_in (units_brought held update)) (unit_lines e (drop (from_line (places_of e text)) (take (meeting_line (places_of e text)) (new_lines text))))

-- the line on which a container begins too deep in these lines is named
abbrev pub IsDeepAt : Option ℕ → EditFault → Type 0
IsDeepAt first (NestedTooDeep line) = first ≡ Some line
IsDeepAt first NoMemory = Unit {0}
IsDeepAt first (InlineTooDeep line) = first ≡ None
IsDeepAt first (NotDefinitions line) = Unit {0}
IsDeepAt first (OutOfRange lines) = Unit {0}
IsDeepAt first (BreakInLine index) = Unit {0}
IsDeepAt first TooManyLines = Unit {0}
IsDeepAt first TooLarge = Unit {0}

-- a unit begins in this line
abbrev pub is_at : ℕ → Option ℕ → Bool
is_at line None = false
is_at line (Some begin) = nat_eq begin line
