-- Units one behind the other: where they begin, by how many lines they have.
use Rattle.std.specs.Prelude.{◌≡◌, ◌<◌, ◌≤◌, ℕ, ◌+◌, List, [], ◌∷◌, ◌++◌, drop, length, map, take}
use Rattle.std.specs.List.{All}
use Rattle.blockspec.specs.UnitTree.{FoundUnit, UnitTree}

-- the first lines of units that have so many lines, the first of which begins there
abbrev pub begins_from : ℕ → List ℕ → List ℕ
begins_from begin [] = []
begins_from begin (lines ∷ later) = begin ∷ begins_from (begin + lines) later

-- how many lines each unit has
abbrev pub lines_of : List FoundUnit → List ℕ
lines_of found = map (λ one. one.lines) found

-- how many of so many lines stand before the first unit
abbrev pub front_of : ℕ → List FoundUnit → ℕ
front_of all [] = all
front_of all (one ∷ later) = one.begin

-- a unit without its place: how many lines it has, and the unit
abbrev pub tile_of : FoundUnit → ℕ × UnitTree
tile_of found = (found.lines, found.unit)

-- a list with those from one place on and before another replaced
abbrev pub between_replaced : {A : Type 0} → List A → (first next : ℕ) → List A → List A
between_replaced xs first next add = take first xs ++ add ++ drop next xs

-- Of units that have so many lines and begin so, the one with this number is next, and begins in this line; those before it begin above another line.
pub record IsAhead (sizes begins : List ℕ) (unit begin line : ℕ) : Type 0 where
  pub many : length begins ≡ length sizes
  pub within : unit ≤ length sizes
  pub rest : drop unit begins ≡ begins_from begin (drop unit sizes)
  pub passed : All (λ b. b < line) (take unit begins)
