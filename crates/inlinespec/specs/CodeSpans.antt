-- Code spans (CommonMark 6.1).
use Rattle.std.specs.Prelude.{ℕ, ◌+◌, ◌-◌, Bool, true, false, ◌||◌, ◌&&◌, ◌==◌, List, [], ◌∷◌, length, take, drop, slice_index, Option, Some, None, if◌then◌else◌, not, map, option_map}
use Rattle.std.specs.List.{prefix_len, list_all, slice_range}
use Rattle.mdscan.specs.Blanks.{begins_with}
use Rattle.inlinespec.specs.InlineEvents.{CodeSpan}
use Rattle.inlinespec.specs.Lexemes.{Lexeme, leaf, as_written}

-- the length of the backtick string that a text begins with
abbrev pub backticks : List ℕ → ℕ
backticks text = prefix_len (λ b. b == 96) text

-- How many bytes stand before the next backtick string of a length. Only where no backtick stands before does a string begin.
abbrev pub before_backticks : (inside : Bool) → ℕ → List ℕ → Option ℕ
before_backticks inside n [] = None
before_backticks true n (b ∷ rest) = option_map (λ k. k + 1) (before_backticks (b == 96) n rest)
before_backticks false n (b ∷ rest) =
    if backticks (b ∷ rest) == n then Some 0 else option_map (λ k. k + 1) (before_backticks (b == 96) n rest)

-- Line endings are converted to spaces.
abbrev pub as_one_line : List ℕ → List ℕ
as_one_line text = map (λ b. if b == 10 then 32 else b) text

-- a space at both ends, and not spaces alone
abbrev pub is_padded : List ℕ → Bool
is_padded line = begins_with 32 line && (slice_index line (length line - 1) == 32) && not (list_all (λ b. b == 32) line)

-- If the line begins and ends with a space, and does not consist of spaces alone, one space is removed from each end.
unfoldable pub code_content : List ℕ → List ℕ
code_content text =
    let line = as_one_line text in
    if is_padded line then take (length line - 2) (drop 1 line) else line

-- The same without a look at line endings: a byte that is a space once they are, and what is left of a text once a space went from each end.
abbrev pub is_space_or_feed : ℕ → Bool
is_space_or_feed b = (b == 32) || (b == 10)

abbrev pub unpadded : List ℕ → List ℕ
unpadded text = if is_padded (as_one_line text) then slice_range text 1 (length text - 1) else text

-- what stands between the backtick string at the front of a text and the next one of the same length
unfoldable pub code_inside : List ℕ → Option (List ℕ)
code_inside text =
    let n = backticks text in
    option_map (λ k. take k (drop n text)) (before_backticks false n (drop n text))

-- A backtick string without a closing one of its length is text as a whole.
abbrev pub code_lexeme : List ℕ → Option (List ℕ) → Lexeme
code_lexeme text None = as_written (backticks text) text
code_lexeme text (Some inside) = leaf (backticks text + length inside + backticks text) (CodeSpan (code_content inside) ∷ [])
