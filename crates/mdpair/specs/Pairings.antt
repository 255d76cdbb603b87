-- What a pairing has found.
use Rattle.std.specs.Prelude.{ℕ, ◌≤◌, List, vec_capacity}
use Rattle.mdpair.specs.declared.emphasis.Match.{Match}
use Rattle.mdpair.specs.declared.emphasis.Pairing.{Pairing}

-- the matches of the runs that were paired last
abbrev pub matches_of : Pairing → List Match
matches_of pairing = pairing.matches.items

-- how many matches it has room for
abbrev pub room_of : Pairing → ℕ
room_of pairing = vec_capacity pairing.matches

-- besides matches it has no room for more than 64
abbrev pub KeepsLittle : Pairing → Type 0
KeepsLittle pairing = (vec_capacity pairing.passed ≤ 64) × (vec_capacity pairing.bottoms ≤ 64)
