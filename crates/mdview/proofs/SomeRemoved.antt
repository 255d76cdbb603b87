-- Where reading stops inside a held list, that list gives way: it stands no further in front than the first unit that does.
use Rattle.std.proofs.Common.{◌≡◌, ℕ, ◌+◌, ◌<◌, ◌≤◌, inl, inr, Bool, true, false, ◌&&◌, List, [], ◌∷◌, length, filter, ap, ◌∙◌, sym, subst, arith}
use Rattle.std.specs.Prelude.{Contains, cond, nat_le, nat_lt}
use Rattle.std.specs.List.{All}
use Rattle.std.proofs.lemmas.Bool.Decides.{nat_tests}
use Rattle.std.proofs.lemmas.List.{map-append}
use Rattle.std.proofs.lemmas.List.Elements.{All-cons, All-contains, All-nil, All-weaker, Contains-append_left, Contains-append_right, Contains-push}
use Rattle.mdtext.specs.EntityTable.{EntityTable}
use Rattle.blockspec.specs.BlockUnits.{begins}
use Rattle.blockspec.specs.UnitTree.{FoundUnit}
use Rattle.mdsource.specs.StoppedInside.{HoldsLine}
use Rattle.mdsource.specs.Stretch.{Places, count_between, from_line, meeting_line, old_line, units_removed}
use Rattle.mdsource.proofs.Cuts.{begins_in}
use Rattle.mdsource.proofs.Splices.{BeginsAbove, IsEdit, begins_above}

module _ (from to : ℕ) where
  abbrev between : ℕ → Bool
  between b = nat_le from b && nat_lt b to

  more : (b : ℕ) (bs : List ℕ) → count_between from to bs ≤ count_between from to (b ∷ bs)
  more b bs = by (between b)
    where
      by : (t : Bool) → length (filter between bs) ≤ length (cond t (b ∷ filter between bs) (filter between bs))
      by true = omega arith
      by false = omega arith

  one_more : (b : ℕ) (bs : List ℕ) → from ≤ b → b < to → 1 ≤ count_between from to (b ∷ bs)
  one_more b bs low high = by (between b) (grind (arith, nat_tests, low, high))
    where
      by : (t : Bool) → t ≡ true → 1 ≤ length (cond t (b ∷ filter between bs) (filter between bs))
      by true h = omega arith
      by false h = cc

  all_counted : (bs : List ℕ) → All (λ b. from ≤ b → b < to → 1 ≤ count_between from to bs) bs
  all_counted [] = All-nil (λ b. from ≤ b → b < to → 1 ≤ count_between from to [])
  all_counted (b ∷ bs) =
      let here = more b bs in
      All-cons (λ c. from ≤ c → c < to → 1 ≤ count_between from to (b ∷ bs)) b bs (λ low high. one_more b bs low high)
      (All-weaker (λ c. from ≤ c → c < to → 1 ≤ count_between from to bs) (λ c. from ≤ c → c < to → 1 ≤ count_between from to (b ∷ bs))
      (λ c h low high. let some = h low high in omega (arith, some, here)) bs (all_counted bs))

  some_between : (bs : List ℕ) (b : ℕ) → Contains bs b → from ≤ b → b < to → 1 ≤ count_between from to bs
  some_between bs b w = All-contains (λ c. from ≤ c → c < to → 1 ≤ count_between from to bs) bs b (all_counted bs) w

pub some_removed : (e : EntityTable) (old new : List (List ℕ)) (p : Places) → IsEdit e old new p → (line : ℕ) (before : List FoundUnit) (one : FoundUnit) (back : List FoundUnit)
    → HoldsLine e old before one back (old_line p line) → p.at + p.come ≤ line → line < meeting_line p → 1 ≤ units_removed p
some_removed e old new p w line before one back h behind small = by (begins_above e old new p w)
  where
    to : ℕ
    to = old_line p (meeting_line p)

    there : Contains (begins e old) one.begin
    there =
        subst (λ bs. Contains bs one.begin) (sym (ap begins_in h.is ∙ map-append (λ (u : FoundUnit). u.begin) before (one ∷ back)))
        (Contains-append_right (begins_in before) (begins_in (one ∷ back)) one.begin (Contains-append_left (one.begin ∷ []) (begins_in back) one.begin (Contains-push [] one.begin)))

    count : (b : ℕ) → Contains (begins e old) b → from_line p ≤ b → b < to → 1 ≤ units_removed p
    count b c low high = some_between (from_line p) to p.old_begins b (subst (λ bs. Contains bs b) (sym w.olds) c) low high

    by : BeginsAbove e old p → 1 ≤ units_removed p
    by (inl none) = let low = h.low in count one.begin there (omega (arith, none)) (omega (arith, low, behind, small))
    by (inr some) = let above = some.0 in count (from_line p) some.1 (omega arith) (omega (arith, above, behind, small))
