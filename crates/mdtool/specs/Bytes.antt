-- Bytes that a device takes and gives, where it tells them.
use Rattle.std.specs.Prelude.{◌≡◌, ℕ, ◌+◌, Bool, true, false, List, [], ◌++◌, Option, Some, None}

-- what is left was these bytes and then what is left now
abbrev pub Takes : Option (List ℕ) → List ℕ → Option (List ℕ) → Type 0
Takes None bytes new = new ≡ None
Takes (Some old) bytes new = (rest : List ℕ) × (new ≡ Some rest) × (old ≡ bytes ++ rest)

-- nothing is left
abbrev pub AtEnd : Option (List ℕ) → Type 0
AtEnd None = Unit {0}
AtEnd (Some left) = left ≡ []

-- what was written is what had been written and then these bytes
abbrev pub Gains : Option (List ℕ) → List ℕ → Option (List ℕ) → Type 0
Gains None bytes new = new ≡ None
Gains (Some old) bytes new = new ≡ Some (old ++ bytes)

-- what was written is what had been written and then a beginning of these bytes
abbrev pub GainsFront : Option (List ℕ) → List ℕ → Option (List ℕ) → Type 0
GainsFront old bytes new = (front : List ℕ) × (rest : List ℕ) × (bytes ≡ front ++ rest) × Gains old front new

-- all of these bytes were written, or, at one more failure, a beginning of them
abbrev pub Puts : Option (List ℕ) → ℕ → List ℕ → Bool → Option (List ℕ) → ℕ → Type 0
Puts old failures bytes true new failures' = Gains old bytes new × (failures' ≡ failures)
Puts old failures bytes false new failures' = GainsFront old bytes new × (failures' ≡ failures + 1)
