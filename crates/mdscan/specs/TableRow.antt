-- Rows of tables (GFM Tables (extension)).
use Rattle.std.specs.Prelude.{◌≡◌, ◌≤◌, ◌<◌, ℕ, ◌+◌, ◌-◌, Bool, false, not, ◌&&◌, ◌==◌, nat_lt, List, [], ◌∷◌, take, filter, slice_index, if◌then◌else◌}
use Rattle.std.specs.List.{range_with_len}
use Rattle.mdscan.specs.declared.spans.Span.{Span}
use Rattle.mdscan.specs.Spans.{trimmed_from}

-- a bar that does not stand directly after a backslash
abbrev pub splits : List ℕ → ℕ → Bool
splits row at = (slice_index row at == 124) && not (slice_index row (at - 1) == 92)

-- a row is split at no place from one on and before another
abbrev pub IsWholeBetween : List ℕ → ℕ → ℕ → Type 0
IsWholeBetween row from end = (at : ℕ) → from ≤ at → at < end → splits row at ≡ false

-- a row without the spaces and tabs at its ends, and then without one bar at its beginning
abbrev pub inner_start : List ℕ → ℕ
inner_start row =
    let whole = trimmed_from row 0 in
    if nat_lt whole.start whole.end && (slice_index row whole.start == 124) then whole.start + 1 else whole.start

-- and then without one bar at its end that does not stand after a backslash
abbrev pub inner_end : List ℕ → ℕ
inner_end row =
    let end = (trimmed_from row 0).end in
    if nat_lt (inner_start row) end && splits row (end - 1) then end - 1 else end

unfoldable pub inside : List ℕ → Span
inside row = record { start = inner_start row; end = inner_end row }

-- what stands between one place and another, without the spaces and tabs at its ends
abbrev pub cell : List ℕ → ℕ → ℕ → Span
cell row start end = trimmed_from (take end row) start

-- the cells from a place on, where the row is split at these places and ends at a place
abbrev pub cells_split : List ℕ → ℕ → List ℕ → ℕ → List Span
cells_split row start [] end = cell row start end ∷ []
cells_split row start (at ∷ ats) end = cell row start at ∷ cells_split row (at + 1) ats end

-- the bars from a place up to another at which a row is split
unfoldable pub bars : List ℕ → ℕ → ℕ → List ℕ
bars row from end = filter (splits row) (range_with_len from (end - from))

-- a row's cells
unfoldable pub row_cells : List ℕ → List Span
row_cells row = cells_split row (inside row).start (bars row (inside row).start (inside row).end) (inside row).end
