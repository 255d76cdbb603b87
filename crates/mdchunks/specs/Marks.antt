-- Marks of members: bits, of which a list has those of its members.
use Rattle.std.specs.Prelude.{◌≡◌, ℕ, ◌<◌, List}
use Rattle.std.specs.Int.RustNames.{bit_and}
use Rattle.std.specs.List.{All}

-- marks that share no bit with others
abbrev pub IsApart : {A : Type 0} → (A → ℕ) → ℕ → A → Type 0
IsApart marks some x = bit_and (marks x) some ≡ 0

-- marks that share one
abbrev pub IsMarked : {A : Type 0} → (A → ℕ) → ℕ → A → Type 0
IsMarked marks some x = 0 < bit_and (marks x) some

-- marks that tell of others whether no member has one of them
unfoldable pub AreMarksOf : {A : Type 0} → (A → ℕ) → List A → ℕ → Type 0
AreMarksOf marks xs all = (some : ℕ) → bit_and all some ≡ 0 → All (IsApart marks some) xs
