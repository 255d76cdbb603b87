-- Link labels (CommonMark 4.7 and 6.3).
use Rattle.std.specs.Prelude.{ℕ, Bool, true, false, not, List, [], ◌∷◌, ◌++◌, Option, Some, None, length, codes, fold, chars, encode_utf8_all, nat_le, ◌==◌, ◌&&◌, ◌||◌, if◌then◌else◌}
use Rattle.std.specs.List.{list_any}
use Rattle.caseless.specs.Caseless.{default_case_fold}

-- space, tab, line ending
abbrev pub is_label_space : ℕ → Bool
is_label_space b = list_any (λ k. b == k) (codes " \t\n\r")

-- a character at the front of the first word
abbrev pub at_front_of_word : ℕ → Bool → List (List ℕ) → List (List ℕ)
at_front_of_word b true words = (b ∷ []) ∷ words
at_front_of_word b false [] = (b ∷ []) ∷ []
at_front_of_word b false (word ∷ words) = (b ∷ word) ∷ words

abbrev pub ends_word : List ℕ → Bool
ends_word [] = true
ends_word (b ∷ bs) = is_label_space b

-- what stands between spaces, tabs and line endings
unfoldable pub words : List ℕ → List (List ℕ)
words [] = []
words (b ∷ bs) = let rest = words bs in if is_label_space b then rest else at_front_of_word b (ends_word bs) rest

-- what stands between a text and the next word: nothing before the first
abbrev pub space_between : List ℕ → List ℕ
space_between [] = []
space_between (b ∷ bs) = 32 ∷ []

abbrev pub add_word : List ℕ → List ℕ → List ℕ
add_word text word = text ++ space_between text ++ word

-- spaces, tabs and line endings are dropped at both ends, and a run of them inside is one space
abbrev pub collapsed : List ℕ → List ℕ
collapsed inside = fold add_word [] (words inside)

-- Unicode case folding
abbrev pub folded : List ℕ → List ℕ
folded text = encode_utf8_all (default_case_fold (chars text))

-- a bracket stands in the text that no backslash escapes
unfoldable pub has_bare_bracket : List ℕ → Bool
has_bare_bracket [] = false
has_bare_bracket (b ∷ []) = b == 91 || b == 93
has_bare_bracket (b ∷ c ∷ rest) =
    elim (b == 92) [ true ↦ has_bare_bracket rest | false ↦ b == 91 || b == 93 || has_bare_bracket (c ∷ rest) ]

-- the inside of a label: at most 999 characters, one of them no space, tab or line ending, and no bare bracket
abbrev pub is_label : List ℕ → Bool
is_label inside = nat_le (length (chars inside)) 999 && list_any (λ b. not (is_label_space b)) inside && not (has_bare_bracket inside)

-- two labels match where these are equal
abbrev pub label_of : List ℕ → Option (List ℕ)
label_of inside = if is_label inside then Some (folded (collapsed inside)) else None
