-- The lines of a text.
use Rattle.std.specs.Prelude.{ℕ, Bool, false, List, [], ◌∷◌, drop, map, ◌==◌, ◌&&◌, ◌||◌, if◌then◌else◌, nat_eq}
use Rattle.std.specs.List.{flat_map, starts_with}

-- U+0000 is replaced by U+FFFD, which is EF BF BD in UTF-8 (CommonMark 2.3)
abbrev pub clean_byte : ℕ → List ℕ
clean_byte b = if b == 0 then 0xEF ∷ 0xBF ∷ 0xBD ∷ [] else b ∷ []

abbrev pub without_nul : List ℕ → List ℕ
without_nul = flat_map clean_byte

-- the text without U+FEFF at its beginning, which is EF BB BF in UTF-8
abbrev pub without_mark : List ℕ → List ℕ
without_mark text = if starts_with nat_eq text (0xEF ∷ 0xBB ∷ 0xBF ∷ []) then drop 3 text else text

abbrev pub begins_with_lf : List ℕ → Bool
begins_with_lf [] = false
begins_with_lf (b ∷ bs) = b == 10

-- the character stands at the front of the first line
abbrev pub at_front : ℕ → List (List ℕ) → List (List ℕ)
at_front b [] = (b ∷ []) ∷ []
at_front b (line ∷ lines) = (b ∷ line) ∷ lines

-- The lines (CommonMark 2.1): a line ends at LF, at CR LF, at CR that no LF follows, and at the end of the text.
-- A line ending at the end of the text opens no further line.
unfoldable pub split_lines : List ℕ → List (List ℕ)
split_lines [] = []
split_lines (b ∷ bs) =
    let rest = split_lines bs in
    if b == 13 && begins_with_lf bs then rest else
    if b == 13 || b == 10 then [] ∷ rest else at_front b rest

-- the lines of a whole text
abbrev pub text_lines : List ℕ → List (List ℕ)
text_lines text = map without_nul (split_lines (without_mark text))
