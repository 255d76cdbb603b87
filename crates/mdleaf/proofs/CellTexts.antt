-- The texts of cells, bar by bar, and of a row's columns.
use Rattle.std.proofs.Common.{◌≡◌, ◌≢◌, ℕ, zero, suc, ◌+◌, ◌-◌, ◌<◌, ◌≤◌, Bool, true, false, ◌&&◌, ◌==◌, eqb, cond, List, [], ◌∷◌, ◌++◌, length, drop, get_or, map, Option, Some, None, refl, ap, sym, ◌∙◌, subst, arith, append_assoc, append-nil}
use Rattle.std.specs.Prelude.{slice_get}
use Rattle.std.proofs.lemmas.Bool.Decides.{nat_tests}
use Rattle.std.specs.List.{list_all, list_any}
use Rattle.std.specs.Str.{IsUtf8}
use Rattle.std.proofs.lemmas.Str.{IsCharBoundary-after_ascii, IsUtf8-drop}
use Rattle.std.proofs.Math.Seq.{drop-append_seam, get_or-append_seam}
use Rattle.std.proofs.lemmas.List.{drop-drop, length-append, length-map}
use Rattle.memchr.specs.Find.{IsFirstByte, is_byte}
use Rattle.mdscan.specs.declared.delimiter_rows.Align.{Align}
use Rattle.mdscan.specs.DelimiterRow.{delimiter_align, delimiter_columns, is_delimiter}
use Rattle.mdscan.specs.declared.spans.Span.{Span}
use Rattle.mdscan.specs.Spans.{part}
use Rattle.mdscan.specs.Blanks.{begins_with}
use Rattle.mdscan.specs.TableRow.{row_cells}
use Rattle.mdleaf.specs.Tables.{TableHeader, before_bar, begins_table, cell_text, filled, is_number, row_aligns, row_texts, table_header, text_at}

-- no bar stands in a text
abbrev pub HasNoBar : List ℕ → Type 0
HasNoBar text = (i : ℕ) → i < length text → get_or text i 0 ≢ 124

later : (b : ℕ) (rest : List ℕ) → HasNoBar (b ∷ rest) → HasNoBar rest
later b rest h i inside = h (suc i) (omega arith)

not_first : (rest : List ℕ) → HasNoBar rest → begins_with 124 rest ≡ false
not_first [] h = refl
not_first (b ∷ rest) h = let no = h 0 (omega arith) in grind (arith, nat_tests)

and_false : (a b : Bool) → b ≡ false → (a && b) ≡ false
and_false true b h = h
and_false false b h = refl

kept : (b : ℕ) (rest : List ℕ) → (eqb b 92 && begins_with 124 rest) ≡ false → cell_text (b ∷ rest) ≡ b ∷ cell_text rest
kept b rest h = rw h refl

-- without a bar nothing is left out
pub stays : (text : List ℕ) → HasNoBar text → cell_text text ≡ text
stays [] h = refl
stays (b ∷ rest) h =
    let g = later b rest h in
    kept b rest (and_false (eqb b 92) (begins_with 124 rest) (not_first rest g)) ∙ ap (λ (t : List ℕ). b ∷ t) (stays rest g)

-- where a search finds no bar
pub not_found : (text : List ℕ) → IsFirstByte (is_byte 124) text None → text ≡ cell_text text
not_found text h = sym (stays text (λ i inside e. h i (omega arith) inside (rw e refl)))

-- before a bar one backslash is left out
pub at_bar : (before after : List ℕ) → HasNoBar before → cell_text (before ++ 124 ∷ after) ≡ before_bar before ++ 124 ∷ cell_text after
at_bar [] after h = refl
at_bar (b ∷ []) after h = by (eqb b 92)
  where
    by : (x : Bool) → cond (x && true) (124 ∷ cell_text after) (b ∷ 124 ∷ cell_text after) ≡ cond x [] (b ∷ []) ++ 124 ∷ cell_text after
    by true = refl
    by false = refl
at_bar (b ∷ c ∷ rest) after h =
    let g = later b (c ∷ rest) h in
    let no : begins_with 124 (c ∷ rest ++ 124 ∷ after) ≡ false = not_first (c ∷ rest) g in
    kept b (c ∷ rest ++ 124 ∷ after) (and_false (eqb b 92) _ no) ∙ ap (λ (t : List ℕ). b ∷ t) (at_bar (c ∷ rest) after g)

-- what is written so far and the text of the rest are the text of all
pub write_bar : (cell rest before after so_far : List ℕ) → rest ≡ before ++ 124 ∷ after → HasNoBar before → so_far ++ cell_text rest ≡ cell → ((so_far ++ before_bar before) ++ 124 ∷ []) ++ cell_text after ≡ cell
write_bar cell rest before after so_far e h w =
    append_assoc (so_far ++ before_bar before) (124 ∷ []) (cell_text after)
    ∙ append_assoc so_far (before_bar before) (124 ∷ cell_text after)
    ∙ ap (λ (t : List ℕ). so_far ++ t) (sym (at_bar before after h))
    ∙ ap (λ (t : List ℕ). so_far ++ cell_text t) (sym e) ∙ w

pub write_rest : (cell rest so_far : List ℕ) → HasNoBar rest → so_far ++ cell_text rest ≡ cell → so_far ++ rest ≡ cell
write_rest cell rest so_far h w = ap (λ (t : List ℕ). so_far ++ t) (sym (stays rest h)) ∙ w

pub before_some : (front : List ℕ) → before_bar (front ++ 92 ∷ []) ≡ front
before_some [] = refl
before_some (b ∷ []) = refl
before_some (b ∷ c ∷ rest) = ap (λ (t : List ℕ). b ∷ t) (before_some (c ∷ rest))

pub before_none : (text : List ℕ) → ((front : List ℕ) → text ≢ front ++ 92 ∷ []) → before_bar text ≡ text
before_none [] h = refl
before_none (b ∷ []) h = by (eqb b 92) refl
  where
    by : (x : Bool) → eqb b 92 ≡ x → cond x [] (b ∷ []) ≡ b ∷ []
    by true e = let same : b ≡ 92 = grind (arith, nat_tests) in absurd (h [] (ap (λ (n : ℕ). n ∷ []) same))
    by false e = refl
before_none (b ∷ c ∷ rest) h = ap (λ (t : List ℕ). b ∷ t) (before_none (c ∷ rest) (λ front e. h (b ∷ front) (ap (λ (t : List ℕ). b ∷ t) e)))

-- the text of a cell, if there is one, from the cells on
abbrev first_or_empty : List (List ℕ) → List ℕ
first_or_empty [] = []
first_or_empty (text ∷ texts) = text

filled_step : (n : ℕ) (texts : List (List ℕ)) → filled (suc n) texts ≡ first_or_empty texts ∷ filled n (drop 1 texts)
filled_step n [] = refl
filled_step n (text ∷ texts) = refl

nth : (row : List ℕ) (spans : List Span) (i : ℕ) → first_or_empty (drop i (map (λ span. cell_text (part row span)) spans)) ≡ text_at row (slice_get spans i)
nth row [] zero = refl
nth row [] (suc i) = refl
nth row (span ∷ spans) zero = refl
nth row (span ∷ spans) (suc i) = nth row spans i

-- the columns so far and those that are left are those of the row
pub column_more : (row : List ℕ) (spans : List Span) (columns column : ℕ) (so_far more all : List (List ℕ)) (text : List ℕ) → spans ≡ row_cells row → column < columns → text ≡ text_at row (slice_get spans column)
    → more ≡ so_far ++ text ∷ [] → so_far ++ filled (columns - column) (drop column (row_texts row)) ≡ all → more ++ filled (columns - (column + 1)) (drop (column + 1) (row_texts row)) ≡ all
unfolding row_texts
column_more row spans columns column so_far more all text same inside is e w =
    let texts = map (λ span. cell_text (part row span)) (row_cells row) in
    let n : columns - column ≡ suc (columns - (column + 1)) = omega arith in
    let here : first_or_empty (drop column texts) ≡ text = nth row (row_cells row) column ∙ ap (λ (xs : List Span). text_at row (slice_get xs column)) (sym same) ∙ sym is in
    let d : drop 1 (drop column texts) ≡ drop (column + 1) texts = drop-drop 1 column texts in
    ap (λ (xs : List (List ℕ)). xs ++ filled (columns - (column + 1)) (drop (column + 1) texts)) e
    ∙ append_assoc so_far (text ∷ []) (filled (columns - (column + 1)) (drop (column + 1) texts))
    ∙ ap (λ (t : List ℕ). so_far ++ t ∷ filled (columns - (column + 1)) (drop (column + 1) texts)) (sym here)
    ∙ ap (λ (xs : List (List ℕ)). so_far ++ first_or_empty (drop column texts) ∷ filled (columns - (column + 1)) xs) (sym d)
    ∙ ap (λ (xs : List (List ℕ)). so_far ++ xs) (sym (filled_step (columns - (column + 1)) (drop column texts)))
    ∙ ap (λ (k : ℕ). so_far ++ filled k (drop column texts)) (sym n) ∙ w

pub columns_done : (columns column : ℕ) (texts so_far all : List (List ℕ)) → columns ≤ column → so_far ++ filled (columns - column) texts ≡ all → so_far ≡ all
columns_done columns column texts so_far all past w =
    let n : columns - column ≡ 0 = omega arith in
    sym (append-nil so_far) ∙ ap (λ (k : ℕ). so_far ++ filled k texts) (sym n) ∙ w

-- as many columns as texts: these are all
pub filled_all : (texts : List (List ℕ)) → filled (length texts) texts ≡ texts
filled_all [] = refl
filled_all (text ∷ texts) = ap (λ (xs : List (List ℕ)). text ∷ xs) (filled_all texts)

-- what stands after a bar is a text
pub after_bar : (text before after : List ℕ) → text ≡ before ++ 124 ∷ after → IsUtf8 text → IsUtf8 after
after_bar text before after e u =
    let n = length before in
    let all : List ℕ = before ++ 124 ∷ after in
    let utf8 : IsUtf8 all = subst IsUtf8 e u in
    let size : length all ≡ n + (1 + length after) = length-append before (124 ∷ after) ∙ ap (λ (k : ℕ). n + k) (let z : length (124 ∷ after) ≡ 1 + length after = omega arith in z) in
    let inside : n < length all = omega arith in
    let ascii : get_or all n 0 < 128 = let bar : get_or all n 0 ≡ 124 = get_or-append_seam before 124 after 0 in omega arith in
    let rest : IsUtf8 (drop (n + 1) all) = IsUtf8-drop all (n + 1) utf8 (IsCharBoundary-after_ascii all n utf8 inside ascii) in
    subst IsUtf8 (sym (drop-drop 1 n all) ∙ ap (λ (t : List ℕ). drop 1 t) (drop-append_seam before (124 ∷ after))) rest

pub length_filled : (n : ℕ) (texts : List (List ℕ)) → length (filled n texts) ≡ n
length_filled zero texts = refl
length_filled (suc n) [] = let rest = length_filled n [] in omega arith
length_filled (suc n) (text ∷ texts) = let rest = length_filled n texts in omega arith

-- a delimiter row has as many columns as cells
columns_are : (row : List ℕ) (n : ℕ) → is_number (delimiter_columns row) n ≡ true → length (row_cells row) ≡ n
unfolding delimiter_columns
columns_are row n h = by (list_any (λ b. b == 124) row && list_all (λ span. is_delimiter (part row span)) (row_cells row)) h
  where
    by : (x : Bool) → is_number (cond x (Some (length (row_cells row))) None) n ≡ true → length (row_cells row) ≡ n
    by true e = grind (arith, nat_tests)
    by false e = cc

-- the header has as many cells as alignments
pub same_number : (head delimiters : List ℕ) → begins_table head delimiters ≡ true → length (row_aligns delimiters) ≡ length (row_texts head)
unfolding begins_table row_aligns row_texts
same_number head delimiters h =
    length-map (row_cells delimiters) (λ span. delimiter_align (part delimiters span))
    ∙ columns_are delimiters (length (row_cells head)) h
    ∙ sym (length-map (row_cells head) (λ span. cell_text (part head span)))

pub header_is : (head delimiters : List ℕ) (aligns : List Align) (cells : List (List ℕ)) → begins_table head delimiters ≡ true → aligns ≡ row_aligns delimiters → cells ≡ filled (length aligns) (row_texts head)
    → ◌≡◌ {A = Option TableHeader} (Some (record { aligns = aligns; cells = cells })) (table_header head delimiters)
unfolding table_header
header_is head delimiters aligns cells h e f =
    let n : length aligns ≡ length (row_texts head) = ap (λ (xs : List Align). length xs) e ∙ same_number head delimiters h in
    let g : cells ≡ row_texts head = f ∙ ap (λ (k : ℕ). filled k (row_texts head)) n ∙ filled_all (row_texts head) in
    rw h (ap (λ (xs : List Align). Some (record { aligns = xs; cells = cells })) e ∙ ap (λ (ts : List (List ℕ)). Some (record { aligns = row_aligns delimiters; cells = ts })) g)

pub header_size : (aligns : List Align) (cells texts : List (List ℕ)) → cells ≡ filled (length aligns) texts → length aligns ≡ length cells
header_size aligns cells texts f = sym (ap (λ (xs : List (List ℕ)). length xs) f ∙ length_filled (length aligns) texts)
