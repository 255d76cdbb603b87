-- The rows of a table (GFM Tables (extension)).
use Rattle.std.specs.Prelude.{ℕ, zero, suc, Bool, false, ◌&&◌, ◌==◌, List, [], ◌∷◌, length, map, string_bytes, Option, Some, None, if◌then◌else◌}
use Rattle.mdscan.specs.declared.delimiter_rows.Align.{Align}
use Rattle.mdscan.specs.declared.spans.Span.{Span}
use Rattle.mdscan.specs.Blanks.{begins_with}
use Rattle.mdscan.specs.DelimiterRow.{delimiter_align, delimiter_columns}
use Rattle.mdscan.specs.Spans.{part}
use Rattle.mdscan.specs.TableRow.{row_cells}
use Rattle.mdleaf.specs.declared.tables.Header.{Header}

-- a text without each backslash that stands directly before a bar
abbrev pub cell_text : List ℕ → List ℕ
cell_text [] = []
cell_text (b ∷ rest) = if (b == 92) && begins_with 124 rest then cell_text rest else b ∷ cell_text rest

-- a text without a backslash at its end
abbrev pub before_bar : List ℕ → List ℕ
before_bar [] = []
before_bar (b ∷ []) = if b == 92 then [] else b ∷ []
before_bar (b ∷ c ∷ rest) = b ∷ before_bar (c ∷ rest)

-- the texts of a row's cells
unfoldable pub row_texts : List ℕ → List (List ℕ)
row_texts row = map (λ span. cell_text (part row span)) (row_cells row)

-- The first so many texts, and empty ones for those that are missing.
abbrev pub filled : ℕ → List (List ℕ) → List (List ℕ)
filled zero texts = []
filled (suc n) [] = [] ∷ filled n []
filled (suc n) (text ∷ texts) = text ∷ filled n texts

-- the text of a cell, if there is one
abbrev pub text_at : List ℕ → Option Span → List ℕ
text_at row None = []
text_at row (Some span) = cell_text (part row span)

-- the alignments that a delimiter row's cells stand for
unfoldable pub row_aligns : List ℕ → List Align
row_aligns row = map (λ span. delimiter_align (part row span)) (row_cells row)

abbrev pub is_number : Option ℕ → ℕ → Bool
is_number None n = false
is_number (Some m) n = m == n

-- A delimiter row makes a table of the line before it that has as many cells.
unfoldable pub begins_table : (head delimiters : List ℕ) → Bool
begins_table head delimiters = is_number (delimiter_columns delimiters) (length (row_cells head))

-- the alignment of each column, and the texts of the header cells
pub record TableHeader : Type 0 where
  pub aligns : List Align
  pub cells : List (List ℕ)

abbrev pub header_of : Header → TableHeader
header_of header = record { aligns = header.aligns.items; cells = map string_bytes header.cells.items }

unfoldable pub table_header : (head delimiters : List ℕ) → Option TableHeader
table_header head delimiters =
    if begins_table head delimiters then Some (record { aligns = row_aligns delimiters; cells = row_texts head }) else None
