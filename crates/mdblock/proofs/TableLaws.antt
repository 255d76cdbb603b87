-- The cells of a table stand one behind the other, row by row, as they are handed in.
use Rattle.std.proofs.Common.{true, refl, Option, Some, None, option_map, ◌≡◌, ℕ, ◌+◌, Vec, Global, List, [], ◌∷◌, ◌++◌, length, map, ap, sym, ◌∙◌, arith, length-append}
use Rattle.std.proofs.lemmas.List.{length-map}
use Rattle.std.specs.Prelude.{String, string_bytes}
use Rattle.std.specs.Vec.{vec_len}
use Rattle.std.specs.List.{range_with_len, flat_map}
use Rattle.mdscan.specs.declared.delimiter_rows.Align.{Align}
use Rattle.mdleaf.specs.declared.tables.Header.{Header}
use Rattle.mdleaf.specs.Tables.{TableHeader, begins_table, filled, header_of, row_texts, table_header}
use Rattle.mdleaf.proofs.CellTexts.{length_filled}
use Rattle.blockspec.specs.NodeTree.{table_leaf, leaf_texts, row_positions}
use Rattle.blockspec.specs.OpenLeaf.{open_table, row_of}
use Rattle.mdblock.specs.held.HeldTables.{CellsStand, IsHeaderRow, IsRowMore, first_rows}
use Rattle.mdblock.specs.declared.leaf.Leaf as held
use Rattle.mdblock.specs.declared.leaf.Leaf.TheVariants as leaf
use Rattle.mdblock.specs.declared.leaf.tables.Table.{Table}

pub columns_filled : (aligns : Vec Align Global) (columns : ℕ) (cells : List (String Global)) (texts : List (List ℕ)) → columns ≡ vec_len aligns → map string_bytes cells ≡ filled columns texts →
    length cells ≡ length aligns.items
columns_filled aligns columns cells texts n e =
    let same : columns ≡ length aligns.items = omega (arith, n) in
    sym (length-map cells string_bytes) ∙ ap length e ∙ length_filled columns texts ∙ same

positions_more : (n : ℕ) (rows : List (List (List ℕ))) (row : List (List ℕ)) →
    row_positions n (rows ++ row ∷ []) ≡ row_positions n rows ++ range_with_len (n + length (flat_map (λ r. r) rows)) (length row) ∷ []
positions_more n [] row = let e : n ≡ n + 0 = omega arith in ap (λ k. range_with_len k (length row) ∷ []) e
positions_more n (r ∷ rows) row =
    let e : n + length r + length (flat_map (λ r. r) rows) ≡ n + length (flat_map (λ r. r) (r ∷ rows)) = omega (arith, length-append r (flat_map (λ r. r) rows)) in
    ap (λ ps. range_with_len n (length r) ∷ ps) (positions_more (n + length r) rows row ∙ ap (λ k. row_positions (n + length r) rows ++ range_with_len k (length row) ∷ []) e)

-- a table that has been begun with its header row
pub header_stands : (at : ℕ) (above : List ℕ) (header : TableHeader) (t : Table) → IsHeaderRow at header t → CellsStand at (leaf.Table t) (open_table above header.aligns header.cells [])
header_stands at above header t h = (h.0, h.1, ap (map (λ row. row.items)) h.2)

-- a data row more, where the table's texts were the last that had been handed in
pub row_stands : (at texts : ℕ) (above : List ℕ) (aligns : List Align) (head : List (List ℕ)) (rows : List (List (List ℕ))) (t : Table) (next : held.Leaf) (row : List ℕ) →
    CellsStand at (leaf.Table t) (open_table above aligns head rows) → texts ≡ at + length (leaf_texts (table_leaf aligns head rows)) → IsRowMore texts t next →
    CellsStand at next (open_table above aligns head (rows ++ row_of aligns row ∷ []))
row_stands at texts above aligns head rows t (leaf.Table u) row cells behind more =
    let columns : length (row_of aligns row) ≡ length aligns = length_filled (length aligns) (row_texts row) in
    let from : at + length head + length (flat_map (λ r. r) rows) ≡ texts = omega (arith, behind, length-append head (flat_map (λ r. r) rows)) in (
      more.0 ∙ cells.0,
      more.1 ∙ cells.1,
      more.2
          ∙ ap (λ ps. ps ++ range_with_len texts (length t.aligns.items) ∷ []) cells.2
          ∙ ap (λ bs. row_positions (at + length head) rows ++ range_with_len texts (length bs) ∷ []) cells.0
          ∙ ap (λ k. row_positions (at + length head) rows ++ range_with_len k (length aligns) ∷ []) (sym from)
          ∙ ap (λ k. row_positions (at + length head) rows ++ range_with_len (at + length head + length (flat_map (λ r. r) rows)) k ∷ []) (sym columns)
          ∙ sym (positions_more (at + length head) rows (row_of aligns row)),
    )
row_stands at texts above aligns head rows t (leaf.Paragraph p) row cells behind more = absurd more
row_stands at texts above aligns head rows t (leaf.Fence p) row cells behind more = absurd more
row_stands at texts above aligns head rows t (leaf.Html p) row cells behind more = absurd more
row_stands at texts above aligns head rows t (leaf.Code p) row cells behind more = absurd more

-- ---- what the first two rows say

told : (head delimiters : List ℕ) → begins_table head delimiters ≡ true → table_header head delimiters ≡ Some (first_rows head delimiters)
unfolding table_header
told head delimiters b = rw b refl

pub header_told : (o : Option Header) (header : Header) (head last delimiters : List ℕ) → o ≡ Some header → option_map header_of o ≡ table_header head delimiters → head ≡ last →
    begins_table last delimiters ≡ true → header_of header ≡ first_rows last delimiters
header_told o header head last delimiters i e same b =
    let found : ◌≡◌ {A = Option TableHeader} (Some (header_of header)) (Some (first_rows last delimiters)) = sym (ap (option_map header_of) i) ∙ e ∙ ap (λ t. table_header t delimiters) same ∙ told last delimiters b in
    cc

pub header_there : (o : Option Header) (head last delimiters : List ℕ) → o ≡ None → option_map header_of o ≡ table_header head delimiters → head ≡ last → begins_table last delimiters ≡ true → ⊥
header_there o head last delimiters i e same b =
    let found : ◌≡◌ {A = Option TableHeader} None (Some (first_rows last delimiters)) = sym (ap (option_map header_of) i) ∙ e ∙ ap (λ t. table_header t delimiters) same ∙ told last delimiters b in
    cc
