-- The bars of a row, one search after the other.
use Rattle.std.proofs.Common.{◌≡◌, ℕ, zero, suc, ◌+◌, ◌-◌, ◌<◌, ◌≤◌, Bool, true, false, List, ◌++◌, None, Some, length, length-take, take, drop, get_or, get_or-take, refl, ap, sym, ◌∙◌, ⊎_elim, arith}
use Rattle.std.specs.Prelude.{◌==◌}
use Rattle.std.proofs.lemmas.Bool.{cases_order, eqb-true}
use Rattle.std.proofs.lemmas.List.{get_or-drop, length-drop}
use Rattle.memchr.specs.Find.{IsFirstByte, is_byte}
use Rattle.mdscan.specs.declared.spans.Span.{Span}
use Rattle.mdscan.specs.TableRow.{IsWholeBetween, splits}
use Rattle.mdscan.proofs.Rows.{no_cut, rest_cells}

no_cuts : (row : List ℕ) (start at n end : ℕ) → at + n ≤ end → IsWholeBetween row at (at + n) → rest_cells row start at end ≡ rest_cells row start (at + n) end
no_cuts row start at zero end within whole = let e : at ≡ at + 0 = omega arith in ap (λ k. rest_cells row start k end) e
no_cuts row start at (suc n) end within whole =
    let e : at + 1 + n ≡ at + suc n = omega arith in
    no_cut row start at end (omega arith) (whole at (omega arith) (omega arith))
    ∙ no_cuts row start (at + 1) n end (omega arith) (λ i low high. whole i (omega arith) (omega arith))
    ∙ ap (λ k. rest_cells row start k end) e

-- the cells so far, from one place to a later one before which the row is not split
pub cells_reach : (row : List ℕ) (cells all : List Span) (start at bar end : ℕ) → at ≤ bar → bar ≤ end → IsWholeBetween row at bar → cells ++ rest_cells row start at end ≡ all → cells ++ rest_cells row start bar end ≡ all
cells_reach row cells all start at bar end ordered within whole inv =
    let e : at + (bar - at) ≡ bar = omega arith in
    let moved = no_cuts row start at (bar - at) end (omega arith) (λ i low high. whole i low (omega arith)) in
    ap (λ xs. cells ++ xs) (sym (moved ∙ ap (λ k. rest_cells row start k end) e)) ∙ inv

-- ---- one search

at_place : (row : List ℕ) (from end at : ℕ) → from ≤ at → at < end → get_or (take (end - from) (drop from row)) (at - from) 0 ≡ get_or row at 0
at_place row from end at low high =
    let e : from + (at - from) ≡ at = omega arith in
    get_or-take (end - from) (drop from row) (at - from) 0 (omega arith) ∙ get_or-drop from row (at - from) 0 ∙ ap (λ k. get_or row k 0) e

fails : (b : Bool) → ¬ (b ≡ true) → b ≡ false
fails true h = absurd (h refl)
fails false h = refl

no_split : (row : List ℕ) (at : ℕ) → (get_or row at 0 == 124) ≡ false → splits row at ≡ false
no_split row at h = rw h refl

whole_up_to : (row : List ℕ) (from end to : ℕ) → to ≤ end → ((k : ℕ) → from + k < to → ¬ (is_byte 124 (get_or (take (end - from) (drop from row)) k 0) ≡ true)) → IsWholeBetween row from to
whole_up_to row from end to within none at low high =
    let e = at_place row from end at low (omega arith) in
    no_split row at (fails (get_or row at 0 == 124) (λ bar. none (at - from) (omega arith) (ap (λ b. b == 124) e ∙ bar)))

part_length : (row : List ℕ) (from end : ℕ) → from ≤ end → end ≤ length row → length (take (end - from) (drop from row)) ≡ end - from
part_length row from end ordered within =
    let d = length-drop from row in
    let t = length-take (end - from) (drop from row) in
    omega (arith, d, t)

pub bar_found : (row : List ℕ) (from end n : ℕ) → from ≤ end → end ≤ length row → IsFirstByte (is_byte 124) (take (end - from) (drop from row)) (Some n) →
    (from ≤ from + n) × (from + n < end) × IsWholeBetween row from (from + n)
bar_found row from end n ordered within h =
    let size = part_length row from end ordered within in
    let inside : from + n < end = omega (arith, h.0.high, size) in
    (omega arith, inside, whole_up_to row from end (from + n) (omega arith) (λ k less. h.0.before k (omega arith) (omega arith)))

pub no_bar_found : (row : List ℕ) (from end : ℕ) → from ≤ end → end ≤ length row → IsFirstByte (is_byte 124) (take (end - from) (drop from row)) None → IsWholeBetween row from end
no_bar_found row from end ordered within h =
    let size = part_length row from end ordered within in
    whole_up_to row from end end (omega arith) (λ k less. h k (omega arith) (omega (arith, size)))

-- one place more that is no bar
pub whole_more : (row : List ℕ) (from at : ℕ) → (get_or row at 0 ≡ 124 → ⊥) → IsWholeBetween row from at → IsWholeBetween row from (at + 1)
whole_more row from at other whole = λ i low high. ⊎_elim
    (λ same. ap (splits row) same ∙ no_split row at (fails (get_or row at 0 == 124) (λ bar. other (eqb-true (get_or row at 0) 124 bar))))
    (λ apart. ⊎_elim (λ less. whole i low less) (λ more. absurd (omega (arith, high, more))) apart)
    (cases_order i at)
