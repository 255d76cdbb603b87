-- Delimiter rows of tables (GFM Tables (extension)).
use Rattle.std.specs.Prelude.{ℕ, ◌-◌, Bool, true, false, ◌&&◌, ◌==◌, nat_lt, List, [], ◌∷◌, length, drop, slice_index, slice_get, Option, Some, None, if◌then◌else◌}
use Rattle.std.specs.List.{prefix_len, list_all, list_any}
use Rattle.mdscan.specs.declared.spans.Span.{Span}
use Rattle.mdscan.specs.declared.delimiter_rows.Align.{Align}
use Rattle.mdscan.specs.declared.delimiter_rows.Align.TheVariants.{Plain, Left, Center, Right}
use Rattle.mdscan.specs.Blanks.{begins_with}
use Rattle.mdscan.specs.Spans.{part}
use Rattle.mdscan.specs.TableRow.{row_cells}

-- nothing, or one colon
abbrev pub is_colon_or_none : List ℕ → Bool
is_colon_or_none [] = true
is_colon_or_none (b ∷ []) = b == 58
is_colon_or_none (_ ∷ _ ∷ _) = false

-- hyphens, one at least, and an optional colon
abbrev pub is_hyphens : List ℕ → Bool
is_hyphens text = let run = prefix_len (λ b. b == 45) text in nat_lt 0 run && is_colon_or_none (drop run text)

-- hyphens, one at least, with an optional colon at either end
unfoldable pub is_delimiter : List ℕ → Bool
is_delimiter text = if begins_with 58 text then is_hyphens (drop 1 text) else is_hyphens text

-- How many columns a delimiter row has: a bar stands in it, and each of its cells is a delimiter.
unfoldable pub delimiter_columns : List ℕ → Option ℕ
delimiter_columns line =
    if list_any (λ b. b == 124) line && list_all (λ span. is_delimiter (part line span)) (row_cells line)
    then Some (length (row_cells line)) else None

-- a colon at the left end, at the right end, at both or at none
abbrev pub align_by : (left : Bool) → (right : Bool) → Align
align_by true true = Center
align_by true false = Left
align_by false true = Right
align_by false false = Plain

unfoldable pub delimiter_align : List ℕ → Align
delimiter_align text = align_by (begins_with 58 text) (slice_index text (length text - 1) == 58)

abbrev pub align_of : List ℕ → Option Span → Align
align_of line None = Plain
align_of line (Some span) = delimiter_align (part line span)

-- the alignment of a column of a delimiter row
unfoldable pub column_align : List ℕ → ℕ → Align
column_align line column = align_of line (slice_get (row_cells line) column)
