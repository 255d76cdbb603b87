-- Columns and indentation (CommonMark 2.2).
use Rattle.std.specs.Prelude.{◌≡◌, ℕ, ◌+◌, ◌-◌, ◌%◌, ◌<◌, ◌≤◌, Bool, false, List, [], ◌∷◌, ◌++◌, length, drop, replicate, min, slice_index, nat_le, ◌==◌, ◌||◌, if◌then◌else◌}
use Rattle.std.specs.List.{prefix_len}

-- a line, or what is left of one: the column at which it begins, and its text
pub record Line : Type 0 where
  pub column : ℕ
  pub text : List ℕ

abbrev pub is_space_or_tab : ℕ → Bool
is_space_or_tab b = b == 32 || b == 9

-- how many columns a character takes that stands at a column: a tab reaches the next column that is a multiple of 4
unfoldable pub width : ℕ → ℕ → ℕ
width column b = if b == 9 then 4 - column % 4 else 1

-- a text without the spaces and tabs at its beginning
unfoldable pub unindented : List ℕ → List ℕ
unindented text = drop (prefix_len is_space_or_tab text) text

-- the columns of the spaces and tabs before the first other character
unfoldable pub indent_at : ℕ → List ℕ → ℕ
indent_at column [] = 0
indent_at column (b ∷ bs) = if is_space_or_tab b then width column b + indent_at (column + width column b) bs else 0

abbrev pub indent : Line → ℕ
indent line = indent_at line.column line.text

-- a text without its first columns: of a tab of which only some columns are taken, spaces are left
unfoldable pub strip_at : ℕ → ℕ → List ℕ → List ℕ
strip_at column columns [] = []
strip_at column columns (b ∷ bs) =
    if columns == 0 then b ∷ bs else
    if nat_le (width column b) columns then strip_at (column + width column b) (columns - width column b) bs else replicate (width column b - columns) 32 ++ bs

-- the line without its first columns of indentation, or without as many as it has
abbrev pub strip : Line → ℕ → Line
strip line columns = let taken = min columns (indent line) in
    record { column = line.column + taken; text = strip_at line.column taken line.text }

-- A place in a line: a column, how many columns are left there of a tab that is cut, and the text after them.
pub record Place : Type 0 where
  pub column : ℕ
  pub left : ℕ
  pub rest : List ℕ

-- what is left of the line: spaces stand for the columns that are left of a tab
abbrev pub line_at : Place → Line
line_at place = record { column = place.column; text = replicate place.left 32 ++ place.rest }

-- columns further on: those that are left of a tab go first, then one character after another
unfoldable pub skip_from : ℕ → ℕ → ℕ → List ℕ → Place
skip_from column left columns [] = record { column = column + columns; left = left - columns; rest = [] }
skip_from column left columns (b ∷ bs) =
    if nat_le columns left then record { column = column + columns; left = left - columns; rest = b ∷ bs }
    else skip_from (column + left) (width (column + left) b) (columns - left) bs

abbrev pub skip : Place → ℕ → Place
skip place columns = skip_from place.column place.left columns place.rest

-- the first n bytes are characters that take one column each
abbrev pub AreMarks : ℕ → List ℕ → Type 0
AreMarks n text = (n ≤ length text) × ((i : ℕ) → i < n → (slice_index text i < 128) × (is_space_or_tab (slice_index text i) ≡ false))
