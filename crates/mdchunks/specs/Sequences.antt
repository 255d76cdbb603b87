-- What is told of a sequence in chunks.
use Rattle.std.specs.Prelude.{◌≡◌, ℕ, ◌+◌, ◌-◌, ◌^◌, ◌/◌, ◌<◌, ◌≤◌, List, length, take}
use Rattle.mdchunks.specs.Lists.{weigh}

-- the members, and how many chunks may be added before memory is taken
pub record Sequence (A : Type 0) : Type 0 where
  pub items : List A
  pub room : ℕ

-- how many chunks a splice of so many members may need
abbrev pub needed : ℕ → ℕ
needed n = n / 64 + 2

-- so many members may be added without memory
abbrev pub HasRoom : {A : Type 0} → Sequence A → ℕ → Type 0
HasRoom s n = (needed n ≤ s.room) × (length s.items + n ≤ 2 ^ 64 - 1)

-- the last member that begins at or below a weight, or the first one: its number, and the weight in front of it
pub record IsLastAt {A : Type 0} (w : A → ℕ) (xs : List A) (weight number front : ℕ) : Type 0 where
  pub within : number < length xs
  pub sum : front ≡ weigh w (take number xs)
  pub below : front ≤ weight
  pub next : number + 1 < length xs → weight < weigh w (take (number + 1) xs)
