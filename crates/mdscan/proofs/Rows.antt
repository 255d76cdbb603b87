-- The cells of a row, place by place.
use Rattle.std.proofs.Common.{◌≡◌, ℕ, suc, ◌+◌, ◌-◌, ◌<◌, ◌≤◌, true, false, List, ◌∷◌, [], ◌++◌, length, append_assoc, arith, ap, sym, ◌∙◌, cond, refl}
use Rattle.mdscan.specs.declared.spans.Span.{Span}
use Rattle.mdscan.specs.TableRow.{bars, cell, cells_split, inside, row_cells, splits}

-- the cells that are left at a place, where the cell there began at start
abbrev pub rest_cells : List ℕ → ℕ → ℕ → ℕ → List Span
rest_cells row start at end = cells_split row start (bars row at end) end

bars_more : (row : List ℕ) (at end n : ℕ) → end - at ≡ suc n → bars row at end ≡ cond (splits row at) (at ∷ bars row (at + 1) end) (bars row (at + 1) end)
unfolding bars
bars_more row at end n e = let f : end - (at + 1) ≡ n = omega arith in rw (e, f) refl

-- a cell ends at a place where the row is split
pub cut_here : (row : List ℕ) (start at end : ℕ) → at < end → splits row at ≡ true → rest_cells row start at end ≡ cell row start at ∷ rest_cells row (at + 1) (at + 1) end
cut_here row start at end inside h =
    let e : end - at ≡ suc (end - (at + 1)) = omega arith in
    let f = bars_more row at end (end - (at + 1)) e in
    let g : bars row at end ≡ at ∷ bars row (at + 1) end = rw h at f in
    ap (λ (ats : List ℕ). cells_split row start ats end) g

pub no_cut : (row : List ℕ) (start at end : ℕ) → at < end → splits row at ≡ false → rest_cells row start at end ≡ rest_cells row start (at + 1) end
no_cut row start at end inside h =
    let e : end - at ≡ suc (end - (at + 1)) = omega arith in
    let f = bars_more row at end (end - (at + 1)) e in
    let g : bars row at end ≡ bars row (at + 1) end = rw h at f in
    ap (λ (ats : List ℕ). cells_split row start ats end) g

-- the last cell ends with the row
pub last_cell : (row : List ℕ) (start at end : ℕ) → end ≤ at → rest_cells row start at end ≡ cell row start end ∷ []
unfolding bars
last_cell row start at end past = let e : end - at ≡ 0 = omega arith in rw e refl

-- a cell more
pub cell_more : (row : List ℕ) (cells more all : List Span) (start at end : ℕ) (x : Span) → at < end → splits row at ≡ true → x ≡ cell row start at → more ≡ cells ++ x ∷ [] → cells ++ rest_cells row start at end ≡ all → more ++ rest_cells row (at + 1) (at + 1) end ≡ all
cell_more row cells more all start at end x inside h is e inv =
    let f = cut_here row start at end inside h in
    ap (λ (xs : List Span). xs ++ rest_cells row (at + 1) (at + 1) end) e
    ∙ (append_assoc cells (x ∷ []) (rest_cells row (at + 1) (at + 1) end)
    ∙ (ap (λ (y : Span). cells ++ y ∷ rest_cells row (at + 1) (at + 1) end) is
    ∙ (ap (λ (xs : List Span). cells ++ xs) (sym f) ∙ inv)))

pub cell_goes_on : (row : List ℕ) (cells all : List Span) (start at end : ℕ) → at < end → splits row at ≡ false → cells ++ rest_cells row start at end ≡ all → cells ++ rest_cells row start (at + 1) end ≡ all
cell_goes_on row cells all start at end inside h inv = ap (λ (xs : List Span). cells ++ xs) (sym (no_cut row start at end inside h)) ∙ inv

-- the last cell
pub cells_done : (row : List ℕ) (cells more all : List Span) (start at end : ℕ) (x : Span) → end ≤ at → x ≡ cell row start end → more ≡ cells ++ x ∷ [] → cells ++ rest_cells row start at end ≡ all → more ≡ all
cells_done row cells more all start at end x past is e inv =
    e ∙ (ap (λ (y : Span). cells ++ y ∷ []) is ∙ (ap (λ (xs : List Span). cells ++ xs) (sym (last_cell row start at end past)) ∙ inv))

-- a row has one cell more than bars that split it
pub cells_number : (row : List ℕ) (start : ℕ) (ats : List ℕ) (end : ℕ) → length (cells_split row start ats end) ≡ length ats + 1
cells_number row start [] end = refl
cells_number row start (at ∷ ats) end = let rest = cells_number row (at + 1) ats end in omega arith

-- the number of bars that are left
pub bar_here : (row : List ℕ) (at end : ℕ) → at < end → splits row at ≡ true → length (bars row at end) ≡ length (bars row (at + 1) end) + 1
bar_here row at end inside h =
    let f = cut_here row at at end inside h in
    let n = ap (λ (xs : List Span). length xs) f in
    omega (arith, cells_number row at (bars row at end) end, cells_number row (at + 1) (bars row (at + 1) end) end)

pub no_bar : (row : List ℕ) (at end : ℕ) → at < end → splits row at ≡ false → length (bars row at end) ≡ length (bars row (at + 1) end)
no_bar row at end inside h =
    let n = ap (λ (xs : List Span). length xs) (no_cut row at at end inside h) in
    omega (arith, cells_number row at (bars row at end) end, cells_number row at (bars row (at + 1) end) end)

pub no_bars : (row : List ℕ) (at end : ℕ) → end ≤ at → length (bars row at end) ≡ 0
no_bars row at end past =
    let n = ap (λ (xs : List Span). length xs) (last_cell row at at end past) in
    omega (arith, cells_number row at (bars row at end) end)

pub all_cells : (row : List ℕ) (inner : Span) → inner ≡ inside row → 1 + length (bars row inner.start inner.end) ≡ length (row_cells row)
unfolding row_cells
all_cells row inner e =
    let ats = bars row (inside row).start (inside row).end in
    let turned : 1 + length ats ≡ length ats + 1 = omega arith in
    rw e (turned ∙ sym (cells_number row (inside row).start ats (inside row).end))
