-- The units of a document lie one behind the other: where each ends the next one begins, and the last one ends with the document.
use Rattle.std.proofs.Common.{◌≡◌, ℕ, ◌+◌, ◌-◌, ◌<◌, ◌≤◌, List, [], ◌∷◌, length, map, refl, sym, ◌∙◌, ap, subst, arith}
use Rattle.std.specs.List.{All, sum_by}
use Rattle.std.proofs.lemmas.List.Sums.{sum_by-cons}
use Rattle.std.proofs.lemmas.List.Elements.{All-head, All-tail, All-weaker}
use Rattle.mdtext.specs.EntityTable.{EntityTable}
use Rattle.blockspec.specs.BlockLine.{document_line}
use Rattle.blockspec.specs.BlockUnits.{begins, found_units, groups, next_begin, units}
use Rattle.blockspec.specs.Lists.{Group}
use Rattle.mdsource.specs.UnitTiles.{begins_from, front_of, lines_of}
use Rattle.mdsource.proofs.Cuts.{begins_in, begins_within}
use Rattle.mdsource.proofs.StretchReadings.{Ascends, begins_ascend}

group_begins : List Group → List ℕ
group_begins gs = map (λ (g : Group). g.begin) gs

begins_of_groups : (gs : List Group) (n : ℕ) → begins_in (found_units gs n) ≡ group_begins gs
unfolding found_units group_begins
begins_of_groups [] n = refl
begins_of_groups (g ∷ gs) n = ap (λ z. g.begin ∷ z) (begins_of_groups gs n)

-- a group begins no later than the next one, or the end
later_next : (g : Group) (gs : List Group) (n : ℕ) → All (λ y. g.begin < y) (group_begins gs) → g.begin ≤ n → g.begin ≤ next_begin gs n
unfolding group_begins
later_next g [] n h k = k
later_next g (f ∷ gs) n h k = let small = All-head (λ y. g.begin < y) f.begin (group_begins gs) h in omega (arith, small)

tiles : (gs : List Group) (n : ℕ) → Ascends (group_begins gs) → All (λ b. b ≤ n) (group_begins gs)
    → begins_in (found_units gs n) ≡ begins_from (next_begin gs n) (lines_of (found_units gs n))
unfolding found_units group_begins
tiles [] n h k = refl
tiles (g ∷ gs) n h k =
    let low = later_next g gs n h.0 (All-head (λ b. b ≤ n) g.begin (group_begins gs) k) in
    let next : g.begin + (next_begin gs n - g.begin) ≡ next_begin gs n = omega (arith, low) in
    ap (λ z. g.begin ∷ z) (tiles gs n h.1 (All-tail (λ b. b ≤ n) g.begin (group_begins gs) k)
    ∙ ap (λ z. begins_from z (lines_of (found_units gs n))) (sym next))

front_is_next : (gs : List Group) (n : ℕ) → front_of n (found_units gs n) ≡ next_begin gs n
unfolding found_units
front_is_next [] n = refl
front_is_next (g ∷ gs) n = refl

-- where the groups of a document begin
record BeginIn (e : EntityTable) (lines : List (List ℕ)) : Type 0 where
  ascend : Ascends (group_begins (groups e (map document_line lines)))
  within : All (λ b. b ≤ length lines) (group_begins (groups e (map document_line lines)))

begin_in : (e : EntityTable) (lines : List (List ℕ)) → BeginIn e lines
begin_in e lines =
    let n = length lines in
    let same = begins_of_groups (groups e (map document_line lines)) n in
    record {
      ascend = subst Ascends same (begins_ascend e lines);
      within = subst (All (λ b. b ≤ n)) same (All-weaker (λ b. b < n) (λ b. b ≤ n) (λ b h. omega (arith, h)) (begins e lines) (begins_within e lines));
    }

-- The first lines of the units, by how many lines stand before the first one and how many each has.
pub units_tile : (e : EntityTable) (lines : List (List ℕ)) → begins e lines ≡ begins_from (front_of (length lines) (units e lines)) (lines_of (units e lines))
units_tile e lines =
    let gs = groups e (map document_line lines) in
    let s = begin_in e lines in
    tiles gs (length lines) s.ascend s.within ∙ ap (λ z. begins_from z (lines_of (units e lines))) (sym (front_is_next gs (length lines)))

ends : (gs : List Group) (n : ℕ) → Ascends (group_begins gs) → All (λ b. b ≤ n) (group_begins gs) → next_begin gs n + sum_by (λ k. k) (lines_of (found_units gs n)) ≡ n
unfolding found_units group_begins
ends [] n h k = let none : sum_by (λ k. k) [] ≡ 0 = refl in omega (arith, none)
ends (g ∷ gs) n h k =
    let low = later_next g gs n h.0 (All-head (λ b. b ≤ n) g.begin (group_begins gs) k) in
    let rest = ends gs n h.1 (All-tail (λ b. b ≤ n) g.begin (group_begins gs) k) in
    let more = sum_by-cons (λ k. k) (next_begin gs n - g.begin) (lines_of (found_units gs n)) in
    omega (arith, low, rest, more)

-- The lines before the first unit and those of the units are all lines.
pub units_end : (e : EntityTable) (lines : List (List ℕ)) → front_of (length lines) (units e lines) + sum_by (λ k. k) (lines_of (units e lines)) ≡ length lines
units_end e lines =
    let gs = groups e (map document_line lines) in
    let s = begin_in e lines in
    ap (λ z. z + sum_by (λ k. k) (lines_of (units e lines))) (front_is_next gs (length lines)) ∙ ends gs (length lines) s.ascend s.within
