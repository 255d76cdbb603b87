-- The cells of a row are spans of it.
use Rattle.std.proofs.Common.{◌≡◌, ℕ, zero, suc, ◌+◌, ◌-◌, ◌<◌, ◌≤◌, true, false, Bool, List, ◌∷◌, [], length, take, get_or, get_or-take, filter, cond, refl, arith, length-take}
use Rattle.std.specs.List.{All, range_with_len}
use Rattle.std.specs.Str.{IsUtf8, IsCharBoundary}
use Rattle.std.proofs.lemmas.List.Elements.{All-cons, All-nil}
use Rattle.std.proofs.lemmas.Bool.Decides.{nat_tests}
use Rattle.std.proofs.lemmas.Str.{IsCharBoundary-before_ascii, IsCharBoundary-after_ascii, IsCharBoundary-start, IsUtf8-take}
use Rattle.mdscan.specs.Spans.{IsSpanOf, trimmed_from}
use Rattle.mdscan.specs.TableRow.{bars, cell, cells_split, inner_end, inner_start, inside, row_cells, splits}
use Rattle.mdscan.proofs.Boundaries.{front_boundary, trimmed_is_span}

-- a place in a text up to an end is one in its front
in_front : (row : List ℕ) (end at : ℕ) → end ≤ length row → at ≤ end → IsCharBoundary row at → IsCharBoundary (take end row) at
in_front row end at within before b =
    (omega (arith, length-take end row), λ inside high. let near : at < end = omega (arith, length-take end row) in rw (get_or-take end row at 0 near) (b.1 (omega (arith, length-take end row)) (rw (get_or-take end row at 0 near) at high)))

cell_is_span : (row : List ℕ) (start end : ℕ) → IsUtf8 row → start ≤ end → IsCharBoundary row start → IsCharBoundary row end → IsSpanOf row (cell row start end)
cell_is_span row start end u ordered starts ends =
    let front = take end row in
    let s = trimmed_is_span front start (IsUtf8-take row end u ends) (in_front row end start ends.0 ordered starts) in
    let o = s.ordered in
    let w = s.within in
    let n = length-take end row in
    let e = ends.0 in
    record {
      ordered = o;
      within = omega arith;
      starts_whole = front_boundary row end (cell row start end).start ends s.starts_whole;
      ends_whole = front_boundary row end (cell row start end).end ends s.ends_whole;
    }

bar_there : (row : List ℕ) (at : ℕ) → splits row at ≡ true → get_or row at 0 ≡ 124
bar_there row at h = grind (arith, nat_tests)

spans_from : (row : List ℕ) (start at n end : ℕ) → IsUtf8 row → start ≤ at → at + n ≡ end → IsCharBoundary row start → IsCharBoundary row end → All (IsSpanOf row) (cells_split row start (filter (splits row) (range_with_len at n)) end)
spans_from row start at zero end u ordered e starts ends = All-cons (IsSpanOf row) (cell row start end) [] (cell_is_span row start end u (omega arith) starts ends) (All-nil (IsSpanOf row))
spans_from row start at (suc n) end u ordered e starts ends = by (splits row at) refl (λ s o b. spans_from row s (at + 1) n end u o (omega arith) b ends)
  where
    by : (b : Bool) → splits row at ≡ b → ((s : ℕ) → s ≤ at + 1 → IsCharBoundary row s → All (IsSpanOf row) (cells_split row s (filter (splits row) (range_with_len (at + 1) n)) end)) → All (IsSpanOf row) (cells_split row start (cond b (at ∷ filter (splits row) (range_with_len (at + 1) n)) (filter (splits row) (range_with_len (at + 1) n))) end)
    by true h rest =
        let bar = bar_there row at h in
        let inside : at < length row = omega (arith, ends.0) in
        let ascii : get_or row at 0 < 128 = omega arith in
        All-cons (IsSpanOf row) (cell row start at) _ (cell_is_span row start at u ordered starts (IsCharBoundary-before_ascii row at inside ascii)) (rest (at + 1) (omega arith) (IsCharBoundary-after_ascii row at u inside ascii))
    by false h rest = rest start (omega arith) starts

start_whole : (row : List ℕ) (b : Bool) (at : ℕ) → IsUtf8 row → IsCharBoundary row at → (b ≡ true → (at < length row) × (get_or row at 0 < 128)) → IsCharBoundary row (cond b (at + 1) at)
start_whole row true at u h f = let g = f refl in IsCharBoundary-after_ascii row at u g.0 g.1
start_whole row false at u h f = h

end_whole : (row : List ℕ) (b : Bool) (at : ℕ) → IsCharBoundary row at → (b ≡ true → (at - 1 < length row) × (get_or row (at - 1) 0 < 128)) → IsCharBoundary row (cond b (at - 1) at)
end_whole row true at h f = let g = f refl in IsCharBoundary-before_ascii row (at - 1) g.0 g.1
end_whole row false at h f = h

pub cells_are_spans : (row : List ℕ) → IsUtf8 row → All (IsSpanOf row) (row_cells row)
unfolding row_cells bars inside
cells_are_spans row u =
    let whole = trimmed_is_span row 0 u (IsCharBoundary-start row u) in
    let w = whole.within in
    let o = whole.ordered in
    let starts : IsCharBoundary row (inner_start row) = start_whole row _ (trimmed_from row 0).start u whole.starts_whole (λ h. (grind (arith, nat_tests), grind (arith, nat_tests))) in
    let ends : IsCharBoundary row (inner_end row) = end_whole row _ (trimmed_from row 0).end whole.ends_whole (λ h. (grind (arith, nat_tests), grind (arith, nat_tests))) in
    let ordered : inner_start row ≤ inner_end row = grind (arith, nat_tests) in
    spans_from row (inner_start row) (inner_start row) (inner_end row - inner_start row) (inner_end row) u (omega arith) (omega arith) starts ends
