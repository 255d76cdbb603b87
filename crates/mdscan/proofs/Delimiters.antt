-- A delimiter row, cell by cell.
use Rattle.std.proofs.Common.{◌≡◌, ℕ, suc, zero, ◌+◌, ◌-◌, ◌<◌, ◌≤◌, ◌&&◌, ◌==◌, true, false, Bool, List, ◌∷◌, [], length, arith, ap, sym, ◌∙◌, refl, Option, Some, None, slice_get, cond}
use Rattle.std.specs.List.{list_all, list_any}
use Rattle.mdscan.specs.declared.spans.Span.{Span}
use Rattle.mdscan.specs.declared.delimiter_rows.Align.TheVariants.{Plain}
use Rattle.mdscan.specs.Spans.{part}
use Rattle.mdscan.specs.TableRow.{cell, splits, inside, row_cells}
use Rattle.mdscan.specs.DelimiterRow.{is_delimiter, delimiter_columns, delimiter_align, align_of}
use Rattle.mdscan.proofs.Rows.{rest_cells, cut_here, no_cut, last_cell}

-- at the beginning all cells are left
pub all_left : (row : List ℕ) (inner : Span) → inner ≡ inside row → rest_cells row inner.start inner.start inner.end ≡ row_cells row
unfolding row_cells
all_left row inner e = rw e refl

abbrev pub delimits : List ℕ → Span → Bool
delimits row span = is_delimiter (part row span)

-- what is left decides after a cell that is a delimiter
pub passed : (row : List ℕ) (start at end : ℕ) (b : Bool) → at < end → splits row at ≡ true → delimits row (cell row start at) ≡ true → list_all (delimits row) (rest_cells row start at end) ≡ b → list_all (delimits row) (rest_cells row (at + 1) (at + 1) end) ≡ b
passed row start at end b inside h is e =
    ap (λ (c : Bool). c && list_all (delimits row) (rest_cells row (at + 1) (at + 1) end)) (sym is)
    ∙ (ap (λ (xs : List Span). list_all (delimits row) xs) (sym (cut_here row start at end inside h)) ∙ e)

pub counted : (row : List ℕ) (start at end columns n : ℕ) → at < end → splits row at ≡ true → columns + length (rest_cells row start at end) ≡ n → columns + 1 + length (rest_cells row (at + 1) (at + 1) end) ≡ n
counted row start at end columns n inside h e =
    let f = ap (λ (xs : List Span). length xs) (cut_here row start at end inside h) in omega arith

pub refused : (row : List ℕ) (start at end : ℕ) (b : Bool) → at < end → splits row at ≡ true → delimits row (cell row start at) ≡ false → list_all (delimits row) (rest_cells row start at end) ≡ b → b ≡ false
refused row start at end b inside h is e =
    sym e
    ∙ (ap (λ (xs : List Span). list_all (delimits row) xs) (cut_here row start at end inside h)
    ∙ ap (λ (c : Bool). c && list_all (delimits row) (rest_cells row (at + 1) (at + 1) end)) is)

pub at_last : (row : List ℕ) (start at end : ℕ) (b c : Bool) → end ≤ at → delimits row (cell row start end) ≡ c → list_all (delimits row) (rest_cells row start at end) ≡ b → b ≡ (c && true)
at_last row start at end b c past is e =
    sym e
    ∙ (ap (λ (xs : List Span). list_all (delimits row) xs) (last_cell row start at end past)
    ∙ ap (λ (d : Bool). d && true) is)

pub none_delimits : (row : List ℕ) → list_all (delimits row) (row_cells row) ≡ false → ◌≡◌ {A = Option ℕ} None (delimiter_columns row)
unfolding delimiter_columns
none_delimits row h = none_by (list_any (λ b. b == 124) row) (list_all (delimits row) (row_cells row)) (length (row_cells row)) h
  where
    none_by : (a b : Bool) (n : ℕ) → b ≡ false → ◌≡◌ {A = Option ℕ} None (cond (a && b) (Some n) None)
    none_by true b n h = rw h refl
    none_by false b n h = refl

pub all_delimit : (row : List ℕ) (n : ℕ) → list_any (λ b. b == 124) row ≡ true → list_all (delimits row) (row_cells row) ≡ true → n ≡ length (row_cells row) → ◌≡◌ {A = Option ℕ} (Some n) (delimiter_columns row)
unfolding delimiter_columns
all_delimit row n bar all e = rw (e, bar, all) refl

-- the alignment of the cell that ends here, of a later one, and of the last
pub aligned_here : (row : List ℕ) (start at end : ℕ) → at < end → splits row at ≡ true → align_of row (slice_get (rest_cells row start at end) 0) ≡ delimiter_align (part row (cell row start at))
aligned_here row start at end inside h = ap (λ (xs : List Span). align_of row (slice_get xs 0)) (cut_here row start at end inside h)

pub aligned_later : (row : List ℕ) (start at end left : ℕ) → at < end → splits row at ≡ true → 0 < left → align_of row (slice_get (rest_cells row start at end) left) ≡ align_of row (slice_get (rest_cells row (at + 1) (at + 1) end) (left - 1))
aligned_later row start at end left inside h some =
    let e : left ≡ suc (left - 1) = omega arith in
    ap (λ (xs : List Span). align_of row (slice_get xs left)) (cut_here row start at end inside h)
    ∙ ap (λ (n : ℕ). align_of row (slice_get (cell row start at ∷ rest_cells row (at + 1) (at + 1) end) n)) e

pub aligned_on : (row : List ℕ) (start at end left : ℕ) → at < end → splits row at ≡ false → align_of row (slice_get (rest_cells row start at end) left) ≡ align_of row (slice_get (rest_cells row start (at + 1) end) left)
aligned_on row start at end left inside h = ap (λ (xs : List Span). align_of row (slice_get xs left)) (no_cut row start at end inside h)

pub aligned_last : (row : List ℕ) (start at end left : ℕ) → end ≤ at → align_of row (slice_get (rest_cells row start at end) left) ≡ align_of row (slice_get (cell row start end ∷ []) left)
aligned_last row start at end left past = ap (λ (xs : List Span). align_of row (slice_get xs left)) (last_cell row start at end past)

pub past_last : (row : List ℕ) (x : Span) (left : ℕ) → 0 < left → Plain ≡ align_of row (slice_get (x ∷ []) left)
past_last row x zero some = absurd (omega arith)
past_last row x (suc n) some = refl
