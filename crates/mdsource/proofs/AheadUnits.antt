-- Units that are gone through one after the other, by how many lines each has: the next one has the lines from its first one on.
use Rattle.std.proofs.Common.{◌≡◌, ℕ, ◌+◌, ◌<◌, ◌≤◌, List, [], ◌∷◌, ◌++◌, length, map, take, drop, refl, sym, ◌∙◌, ap, arith}
use Rattle.std.proofs.lemmas.List.{drop-map, length-take-le, take-append-drop}
use Rattle.mdtext.specs.EntityTable.{EntityTable}
use Rattle.blockspec.specs.BlockUnits.{begins, units}
use Rattle.blockspec.specs.UnitTree.{FoundUnit}
use Rattle.blockspec.proofs.DocumentLaws.{map_length}
use Rattle.mdsource.specs.StoppedInside.{HoldsLine}
use Rattle.mdsource.specs.UnitTiles.{IsAhead, begins_from, lines_of}

-- the unit that is next has a line
pub record NextHolds (e : EntityTable) (lines : List (List ℕ)) (unit begin size line : ℕ) : Type 0 where
  pub one : FoundUnit
  pub back : List FoundUnit
  pub holds : HoldsLine e lines (take unit (units e lines)) one back line
  pub count : length (take unit (units e lines)) ≡ unit
  pub first : one.begin ≡ begin
  pub lines_are : one.lines ≡ size

-- It has any line that is not above its first one, and above the next one's.
pub next_holds : (e : EntityTable) (lines : List (List ℕ)) (sizes : List ℕ) (unit begin low size : ℕ) (later : List ℕ) (line : ℕ) → lines_of (units e lines) ≡ sizes
    → IsAhead sizes (begins e lines) unit begin low → drop unit sizes ≡ size ∷ later → begin ≤ line → line < begin + size → NextHolds e lines unit begin size line
next_holds e lines sizes unit begin low size later line all ahead is above below = go (drop unit us) refl
  where
    us : List FoundUnit
    us = units e lines

    first_begins : (vs : List FoundUnit) → drop unit us ≡ vs → map (λ (u : FoundUnit). u.begin) vs ≡ begin ∷ begins_from (begin + size) later
    first_begins vs h = ap (map (λ (u : FoundUnit). u.begin)) (sym h) ∙ sym (drop-map (λ (u : FoundUnit). u.begin) unit us) ∙ ahead.rest ∙ ap (begins_from begin) is

    first_sizes : (vs : List FoundUnit) → drop unit us ≡ vs → map (λ (u : FoundUnit). u.lines) vs ≡ size ∷ later
    first_sizes vs h = ap (map (λ (u : FoundUnit). u.lines)) (sym h) ∙ sym (drop-map (λ (u : FoundUnit). u.lines) unit us) ∙ ap (drop unit) all ∙ is

    within : unit ≤ length us
    within =
        let a = ahead.within in
        let b : length sizes ≡ length us = ap (λ z. length z) (sym all) ∙ map_length (λ (u : FoundUnit). u.lines) us in
        omega (arith, a, b)

    go : (vs : List FoundUnit) → drop unit us ≡ vs → NextHolds e lines unit begin size line
    go [] h = absurd (let none = first_sizes [] h in let x : ⊥ = cc in x)
    go (one ∷ back) h =
        let bs = first_begins (one ∷ back) h in
        let ss = first_sizes (one ∷ back) h in
        let first : one.begin ≡ begin = cc in
        let lines_are : one.lines ≡ size = cc in
        record {
          one = one;
          back = back;
          holds = record {
            is = sym (take-append-drop unit us) ∙ ap (λ z. take unit us ++ z) h;
            low = omega (arith, first, above);
            high = omega (arith, first, lines_are, below);
          };
          count = length-take-le unit us within;
          first = first;
          lines_are = lines_are;
        }
