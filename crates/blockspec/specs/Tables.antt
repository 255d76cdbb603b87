-- Tables (GFM Tables (extension)).
use Rattle.std.specs.Prelude.{ℕ, ◌&&◌, List, [], ◌∷◌, length, map, Option, Some, None, if◌then◌else◌, ◌-◌, ◌++◌, take, drop}
use Rattle.mdleaf.specs.Tables.{begins_table, filled, row_aligns, row_texts}
use Rattle.blockspec.specs.BlockLine.{BlockLine, rest}
use Rattle.blockspec.specs.BlockKinds.{Mode, Kind, Table, is_inside}
use Rattle.mdtext.specs.EntityTable.{EntityTable}
use Rattle.blockspec.specs.NodeTree.{Leaf, table_leaf}
use Rattle.blockspec.specs.Paragraphs.{paragraph_end}

-- A table begins at a delimiter row with as many cells as the open paragraph's last line, which is the header row.
abbrev pub last_text : List BlockLine → List ℕ
last_text [] = []
last_text (l ∷ []) = rest l
last_text (l ∷ m ∷ ls) = last_text (m ∷ ls)

abbrev pub begins_rows : Mode → List BlockLine → BlockLine → Option Kind
begins_rows mode paragraph l =
    if is_inside mode && begins_table (last_text paragraph) (rest l) then Some (Table (length paragraph)) else None

-- A header row, a delimiter row and data rows. A data row has as many cells as the header row: missing ones are empty,
-- excess ones are left out.
abbrev pub table_of : (head delimiters : List ℕ) → (rows : List (List ℕ)) → Leaf
table_of head delimiters rows =
    table_leaf (row_aligns delimiters) (row_texts head) (map (λ row. filled (length (row_aligns delimiters)) (row_texts row)) rows)

-- The rows from the header row on. The standard leaves open what becomes of the paragraph's earlier lines: here they are
-- a paragraph of their own, and definitions are looked for in them alone.
abbrev pub rows_end : (rows : List (List ℕ)) → List Leaf
rows_end (head ∷ delimiters ∷ rows) = table_of head delimiters rows ∷ []
rows_end rows = []

-- a table whose delimiter row stands behind so many lines
unfoldable pub table_end : EntityTable → (above : ℕ) → (lines : List (List ℕ)) → List Leaf
table_end entities above lines = paragraph_end entities (take (above - 1) lines) ++ rows_end (drop (above - 1) lines)
