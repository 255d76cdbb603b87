-- HTML of tables (GFM Tables (extension)).
use Rattle.std.specs.Prelude.{ℕ, ◌+◌, Bool, true, false, List, [], ◌∷◌, ◌++◌, codes, if◌then◌else◌, length, ◌==◌, slice_index_or}
use Rattle.mdscan.specs.declared.delimiter_rows.Align.{Align}
use Rattle.mdscan.specs.declared.delimiter_rows.Align.TheVariants.{Plain, Left, Center, Right}
use Rattle.htmlspec.specs.declared.options.Options.{Options}

-- the HTML of the inline text at a position among the texts of a unit, which are HTML here
abbrev pub text_html : List (List ℕ) → ℕ → List ℕ
text_html texts at = slice_index_or texts at []

-- an alignment is a style, or an attribute of its own
abbrev pub align_attribute : Align → (style : Bool) → List ℕ
align_attribute Plain style = []
align_attribute Left true = codes " style=\"text-align: left\""
align_attribute Left false = codes " align=\"left\""
align_attribute Center true = codes " style=\"text-align: center\""
align_attribute Center false = codes " align=\"center\""
align_attribute Right true = codes " style=\"text-align: right\""
align_attribute Right false = codes " align=\"right\""

-- the alignment of a column
abbrev pub align_of : List Align → ℕ → Align
align_of aligns column = slice_index_or aligns column Plain

abbrev pub cell_html : Options → (tag : List ℕ) → Align → List ℕ → List ℕ
cell_html o tag align inner = codes "<" ++ tag ++ align_attribute align o.align_style ++ codes ">" ++ inner ++ codes "</" ++ tag ++ codes ">\n"

-- the cells from a column on
abbrev pub cells_html : Options → List (List ℕ) → (tag : List ℕ) → List Align → (column : ℕ) → List ℕ → List ℕ
cells_html o texts tag aligns column [] = []
cells_html o texts tag aligns column (at ∷ cells) = cell_html o tag (align_of aligns column) (text_html texts at) ++ cells_html o texts tag aligns (column + 1) cells

abbrev pub row_html : Options → List (List ℕ) → (tag : List ℕ) → List Align → List ℕ → List ℕ
row_html o texts tag aligns cells = codes "<tr>\n" ++ cells_html o texts tag aligns 0 cells ++ codes "</tr>\n"

abbrev pub rows_html : Options → List (List ℕ) → List Align → List (List ℕ) → List ℕ
rows_html o texts aligns [] = []
rows_html o texts aligns (row ∷ rows) = row_html o texts (codes "td") aligns row ++ rows_html o texts aligns rows

-- a table without data rows has no body
abbrev pub body_html : Options → List (List ℕ) → List Align → List (List ℕ) → List ℕ
body_html o texts aligns rows = if length rows == 0 then [] else codes "<tbody>\n" ++ rows_html o texts aligns rows ++ codes "</tbody>\n"

abbrev pub head_html : Options → List (List ℕ) → List Align → List ℕ → List ℕ
head_html o texts aligns head = codes "<thead>\n" ++ row_html o texts (codes "th") aligns head ++ codes "</thead>\n"

abbrev pub table_html : Options → List (List ℕ) → List Align → (head : List ℕ) → (rows : List (List ℕ)) → List ℕ
table_html o texts aligns head rows = codes "<table>\n" ++ head_html o texts aligns head ++ body_html o texts aligns rows ++ codes "</table>\n"
