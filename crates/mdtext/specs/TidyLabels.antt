-- Labels that are their own words: most of those that are written.
use Rattle.std.specs.Prelude.{ℕ, Bool, not, List, [], ◌∷◌, length, nat_le, nat_lt, ◌==◌, ◌&&◌, ◌||◌}

-- neither a space or a control character, nor a bracket or a backslash
abbrev pub is_word_byte : ℕ → Bool
is_word_byte b = nat_lt 32 b && not (nat_le 91 b && nat_le b 93)

-- a byte of a word, or a space behind a word
abbrev pub fits : ℕ → ℕ → Bool
fits before b = is_word_byte b || (b == 32 && not (before == 32))

-- behind a byte, words with single spaces between them up to the end
abbrev pub is_tidy_behind : ℕ → List ℕ → Bool
is_tidy_behind before [] = not (before == 32)
is_tidy_behind before (b ∷ bs) = fits before b && is_tidy_behind b bs

-- at most 999 bytes
abbrev pub is_tidy : List ℕ → Bool
is_tidy inside = nat_le (length inside) 999 && is_tidy_behind 32 inside
