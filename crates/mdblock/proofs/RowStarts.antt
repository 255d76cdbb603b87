-- A delimiter row without indentation begins with a bar, a hyphen or a colon.
use Rattle.std.proofs.Common.{◌≡◌, ℕ, zero, suc, ◌-◌, Bool, true, false, ◌&&◌, ◌||◌, ◌==◌, List, [], ◌∷◌, take, refl, ap, ◌∙◌, cond, Some, None, inl, inr}
use Rattle.std.specs.List.{list_all, list_any}
use Rattle.mdscan.specs.declared.spans.Span.{Span}
use Rattle.mdscan.specs.Blanks.{is_blank}
use Rattle.mdscan.specs.DelimiterRow.{is_delimiter, delimiter_columns}
use Rattle.mdscan.specs.Spans.{part}
use Rattle.mdscan.specs.TableRow.{inside, cell, cells_split, bars, row_cells}
use Rattle.mdleaf.specs.Tables.{begins_table}
use Rattle.mdtext.specs.Columns.{unindented}
use Rattle.mdblock.specs.held.ParagraphLines.{begins_row}
use Rattle.mdtext.proofs.Unindented.{unindented_nil, unindented_blank, unindented_other, is_bool}

abbrev pub begins_blank : List ℕ → Bool
begins_blank [] = false
begins_blank (b ∷ bs) = is_blank b

pub not_indented : (text : List ℕ) → begins_blank (unindented text) ≡ false
not_indented [] = rw unindented_nil refl
not_indented (b ∷ bs) = elim (is_bool (is_blank b)) [
  | inl is ↦ rw (unindented_blank b bs is) (not_indented bs)
  | inr other ↦ rw (unindented_other b bs other) other
]

no_front : (n b : ℕ) (bs : List ℕ) → (b == 45) ≡ false → (b == 58) ≡ false → is_delimiter (take n (b ∷ bs)) ≡ false
unfolding is_delimiter
no_front zero b bs h g = refl
no_front (suc n) b bs h g = rw (g, h) refl

no_cell : (b : ℕ) (bs : List ℕ) → is_blank b ≡ false → (b == 45) ≡ false → (b == 58) ≡ false → (end : ℕ) → is_delimiter (part (b ∷ bs) (cell (b ∷ bs) 0 end)) ≡ false
no_cell b bs blank h g zero = no_front ((cell (b ∷ bs) 0 0).end - (cell (b ∷ bs) 0 0).start) b bs h g
no_cell b bs blank h g (suc end) = rw blank (no_front _ b bs h g)

first_cell : (p : Span → Bool) (row : List ℕ) (start : ℕ) (ats : List ℕ) (end : ℕ) → ((e : ℕ) → p (cell row start e) ≡ false) → list_all p (cells_split row start ats end) ≡ false
first_cell p row start [] end none = rw (none end) refl
first_cell p row start (at ∷ ats) end none = rw (none at) refl

if_never : (t : Bool) (m n : ℕ) → cond (t && false) m n ≡ n
if_never true m n = refl
if_never false m n = refl

inside_start : (b : ℕ) (bs : List ℕ) → is_blank b ≡ false → (b == 124) ≡ false → (inside (b ∷ bs)).start ≡ 0
unfolding inside
inside_start b bs blank bar = rw (blank, bar) (if_never _ _ _)

none_if : (a b : Bool) (x : ℕ) → b ≡ false → cond (a && b) (Some x) None ≡ None
none_if true b x h = rw h refl
none_if false b x h = refl

no_row : (b : ℕ) (bs : List ℕ) → is_blank b ≡ false → (b == 124) ≡ false → (b == 45) ≡ false → (b == 58) ≡ false → delimiter_columns (b ∷ bs) ≡ None
unfolding delimiter_columns row_cells
no_row b bs blank bar h g =
    let row = b ∷ bs in
    let all : list_all (λ span. is_delimiter (part row span)) (cells_split row (inside row).start (bars row (inside row).start (inside row).end) (inside row).end) ≡ false =
    first_cell (λ span. is_delimiter (part row span)) row (inside row).start (bars row (inside row).start (inside row).end) (inside row).end
    (λ e. ap (λ s. is_delimiter (part row (cell row s e))) (inside_start b bs blank bar) ∙ no_cell b bs blank h g e) in
    none_if (list_any (λ c. c == 124) row) _ _ all

none_at_all : delimiter_columns [] ≡ None
unfolding delimiter_columns
none_at_all = refl

no_table : (head text : List ℕ) → delimiter_columns text ≡ None → begins_table head text ≡ false
unfolding begins_table
no_table head text e = rw e refl

-- so a line that begins otherwise needs no closer look
pub row_begins : (head text : List ℕ) → begins_blank text ≡ false → begins_table head text ≡ (begins_row text && begins_table head text)
row_begins head [] blank = no_table head [] none_at_all
row_begins head (b ∷ bs) blank = by (b == 124) (b == 45) (b == 58) refl refl refl where
  by : (x y z : Bool) → (b == 124) ≡ x → (b == 45) ≡ y → (b == 58) ≡ z → begins_table head (b ∷ bs) ≡ ((x || y || z) && begins_table head (b ∷ bs))
  by true y z e h g = refl
  by false true z e h g = refl
  by false false true e h g = refl
  by false false false e h g = no_table head (b ∷ bs) (no_row b bs blank e h g)

pub no_table_without : (head text : List ℕ) → begins_blank text ≡ false → begins_row text ≡ false → begins_table head text ≡ false
no_table_without head text blank row = row_begins head text blank ∙ ap (λ t. t && begins_table head text) row
