-- Backslash escapes (CommonMark 2.4) and the bytes up to a stop.
use Rattle.std.specs.Prelude.{ℕ, ◌+◌, Bool, true, false, not, ◌&&◌, ◌==◌, List, [], ◌∷◌}
use Rattle.std.specs.Char.{is_ascii_punctuation}
use Rattle.std.specs.List.{list_any}

-- a backslash before ASCII punctuation
abbrev pub begins_escape : List ℕ → Bool
begins_escape (b ∷ c ∷ _) = (b == 92) && is_ascii_punctuation c
begins_escape _ = false

abbrev pub is_one_of : List ℕ → ℕ → Bool
is_one_of stops b = list_any (λ stop. stop == b) stops

-- How many bytes stand before the first of the stops that is not escaped, where the first byte may be: the byte behind a backslash that begins an escape is.
abbrev pub run_after : (escaped : Bool) → List ℕ → List ℕ → ℕ
run_after escaped stops [] = 0
run_after escaped stops (b ∷ rest) =
    elim (not escaped && is_one_of stops b) [ true ↦ 0 | false ↦ 1 + run_after (not escaped && begins_escape (b ∷ rest)) stops rest ]

-- how many bytes stand before the first of the stops that is not escaped, or in all
unfoldable pub run_before : List ℕ → List ℕ → ℕ
run_before stops text = run_after false stops text
