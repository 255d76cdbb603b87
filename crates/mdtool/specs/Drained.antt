-- What a feed gave that was read to its end, or as far as it came.
use Rattle.std.specs.Prelude.{ℕ, List, Option}
use Rattle.mdtool.specs.Bytes.{Takes, AtEnd}

-- all that was left was taken, and it is these bytes
abbrev pub TakesAll : Option (List ℕ) → List ℕ → Option (List ℕ) → Type 0
TakesAll left bytes left' = Takes left bytes left' × AtEnd left'

-- some of what was left was taken
abbrev pub TakesSome : Option (List ℕ) → Option (List ℕ) → Type 0
TakesSome left left' = (bytes : List ℕ) × Takes left bytes left'
