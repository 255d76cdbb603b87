-- The language of fenced code (CommonMark 4.5): the first word of the info string, with its escapes and references
-- replaced; and what stands behind it, of which the standard says nothing. The standard leaves open which whitespace
-- ends the word: here a space, a tab, LF, VT, FF and CR do.
use Rattle.std.specs.Prelude.{ℕ, Bool, not, ◌+◌, ◌||◌, ◌&&◌, ◌==◌, nat_le, List, take, drop}
use Rattle.std.specs.List.{prefix_len}
use Rattle.mdtext.specs.EntityTable.{EntityTable}
use Rattle.mdtext.specs.Unescaped.{unescaped}

abbrev pub ends_language : ℕ → Bool
ends_language b = (b == 32) || (nat_le 9 b && nat_le b 13)

abbrev pub first_word : List ℕ → List ℕ
first_word text = take (prefix_len (λ b. not (ends_language b)) text) text

-- behind the first word and the one character that ends it
abbrev pub behind_word : List ℕ → List ℕ
behind_word text = drop (prefix_len (λ b. not (ends_language b)) text + 1) text

unfoldable pub code_language : EntityTable → (info : List ℕ) → List ℕ
code_language entities info = first_word (unescaped entities info)

unfoldable pub code_meta : EntityTable → (info : List ℕ) → List ℕ
code_meta entities info = behind_word (unescaped entities info)
