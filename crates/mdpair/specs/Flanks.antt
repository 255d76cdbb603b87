-- What a run can do, by what its neighbours are.
use Rattle.std.specs.Prelude.{ℕ, Bool, ◌==◌, ◌&&◌, ◌||◌, not, nat_lt, Option}
use Rattle.mdpair.specs.Neighbours.{white_at, punct_at}
use Rattle.mdpair.specs.declared.delimiter_runs.DelimiterChar.{DelimiterChar}
use Rattle.mdpair.specs.declared.delimiter_runs.DelimiterChar.TheVariants.{Asterisk, Underscore, Tilde}
use Rattle.mdpair.specs.declared.flanking.Neighbour.{Neighbour}

-- what a neighbour is
abbrev pub neighbour_at : Option ℕ → Neighbour
neighbour_at c = record { is_white = white_at c; is_punct = punct_at c }

-- which ASCII characters are whitespace
abbrev pub is_ascii_white : ℕ → Bool
is_ascii_white c = c == 32 || c == 9 || c == 10 || c == 12 || c == 13

-- a run is left-flanking with its inside behind it, and right-flanking with its inside before it
abbrev pub flanks : Neighbour → Neighbour → Bool
flanks outside inside = not inside.is_white && (not inside.is_punct || outside.is_white || outside.is_punct)

-- it opens with its inside behind it, and closes with its inside before it
abbrev pub bounds : DelimiterChar → ℕ → Neighbour → Neighbour → Bool
bounds Asterisk n outside inside = flanks outside inside
bounds Underscore n outside inside = flanks outside inside && (not (flanks inside outside) || outside.is_punct)
bounds Tilde n outside inside = flanks outside inside && nat_lt n 3
