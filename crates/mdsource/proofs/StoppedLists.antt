-- Where reading stops inside a list: which old unit that list is, and what the lines give that were read.
use Rattle.std.proofs.Common.{◌≡◌, ℕ, ◌+◌, ◌-◌, ◌<◌, ◌≤◌, inl, inr, suc, List, [], ◌∷◌, ◌++◌, length, map, take, drop, get_or, refl, sym, ◌∙◌, ap, subst, arith, length-append}
use Rattle.std.specs.Prelude.{Contains}
use Rattle.std.specs.List.{All}
use Rattle.std.proofs.lemmas.List.{drop-append-le, drop-drop, drop-take, get_or-take, length-drop, length-take, length-take-le, map-append, take-append-drop, take-take}
use Rattle.std.proofs.lemmas.List.Elements.{All-nil, All-contains, All-weaker, Contains-append_right, Contains-push}
use Rattle.std.proofs.Math.Seq.{drop-cons}
use Rattle.mdtext.specs.EntityTable.{EntityTable}
use Rattle.blockspec.specs.BlockUnits.{begins, units}
use Rattle.blockspec.specs.UnitBegin.{shift_found}
use Rattle.blockspec.specs.UnitTree.{FoundUnit}
use Rattle.blockspec.proofs.DocumentLaws.{map_length}
use Rattle.blockspec.specs.Joins.{joins}
use Rattle.mdblock.specs.held.Reads.{handed}
use Rattle.mdsource.specs.Stretch.{Places, count_between, from_line, old_line, meeting_line, units_before, units_removed}
use Rattle.mdsource.proofs.Cuts.{begins_in, begins_within}
use Rattle.mdsource.proofs.ReadingBegins.{counted_between}
use Rattle.mdsource.proofs.Splices.{MeetsBehind, from_above, meets_behind}
use Rattle.mdsource.proofs.StretchEnds.{counts_join}
use Rattle.mdsource.specs.MetInside.{first_line, IsMetInside}
use Rattle.mdsource.specs.StoppedInside.{HoldsLine, IsStoppedIn}
use Rattle.mdsource.specs.Stops.{Stops, near_line}
use Rattle.mdsource.specs.UnitItems.{own_lines}
use Rattle.mdsource.proofs.NearLines.{IsStop, NearBehind, met_inside, near_behind}
use Rattle.mdsource.proofs.NearStretch.{joins_told, line_more, near_above, near_there}
use Rattle.mdsource.proofs.PartedLists.{joins_within}
use Rattle.mdsource.proofs.ReadJoins.{handed_inside}
use Rattle.mdsource.proofs.UnitCuts.{back_high, before_low, one_holds, split_behind, unit_ends, units_parted}
use Rattle.mdsource.proofs.UnitJoins.{unit_has}

-- ---- the old list

first_moved : (n m : ℕ) (later : List FoundUnit) → first_line (n + m) (map (shift_found m) later) ≡ first_line n later + m
first_moved n m [] = refl
first_moved n m (v ∷ later) = refl

module _ (e : EntityTable) (old new : List (List ℕ)) (s : Stops) (w : IsStop e old new s) (small : near_line s < meeting_line s.places) where
  abbrev p : Places
  p = s.places

  abbrev near : ℕ
  near = near_line s

  abbrev was : ℕ
  was = old_line p near

  met : IsMetInside e old new s
  met = met_inside e old new s w small

  -- how many lines the list has from the line on
  abbrev rest : ℕ
  rest = first_line (length (drop near new)) met.later

  within : meeting_line p ≤ length new
  within = by (meets_behind e old new p w.edit_there)
    where
      by : MeetsBehind e old new p → meeting_line p ≤ length new
      by (inl h) = omega (arith, h)
      by (inr h) = let inside = All-contains (λ y. y < length new) (begins e new) (meeting_line p) (begins_within e new) h.1 in omega (arith, inside)

  inside : near < length new
  inside = omega (arith, small, within)

  there : (p.at + p.come ≤ near) × Contains (joins e old) was
  there = by (near_behind e old new s w)
    where
      by : NearBehind e old new s → (p.at + p.come ≤ near) × Contains (joins e old) was
      by (inl h) = absurd (omega (arith, h, inside))
      by (inr h) = (h.0, h.2)

  was_inside : was < length old
  was_inside = All-contains (λ j. j < length old) (joins e old) was (joins_within e old) there.1

  old_meeting : old_line p (meeting_line p) ≡ was + rest
  old_meeting = let behind = there.0 in let meets = met.meets in omega (arith, behind, meets)

  -- the old list is a unit that has the line, and ends at the meeting line
  list_ends : met.old_list.begin + met.old_list.lines ≡ was + rest
  list_ends =
      let size : length old ≡ length (drop near new) + was = (let a = length-drop was old in let b = ap (λ z. length z) met.same in omega (arith, a, b, was_inside)) in
      let sum : rest + was ≡ was + rest = omega arith in
      unit_ends e old met.old_before met.old_list (map (shift_found was) met.later) met.olds.wholes
      ∙ ap (λ n. first_line n (map (shift_found was) met.later)) size
      ∙ first_moved (length (drop near new)) was met.later
      ∙ sum

  list_above : met.old_list.begin < was
  list_above =
      let size = length-take was old in
      let low = All-contains (λ b. b < length (take was old)) (begins_in (met.old_before ++ met.old_front ∷ [])) met.old_front.begin
      (subst (λ us. All (λ b. b < length (take was old)) (begins_in us)) met.olds.fronts (begins_within e (take was old)))
      (subst (λ bs. Contains bs met.old_front.begin) (sym (map-append (λ (u : FoundUnit). u.begin) met.old_before (met.old_front ∷ [])))
      (Contains-append_right (begins_in met.old_before) (met.old_front.begin ∷ []) met.old_front.begin (Contains-push [] met.old_front.begin))) in
      let same = met.olds.begin in
      grind (arith, size, low, same)

  list_holds : HoldsLine e old met.old_before met.old_list (map (shift_found was) met.later) was
  list_holds =
      let meets = met.meets in
      record {
        is = met.olds.wholes;
        low = omega (arith, list_above);
        high = omega (arith, list_ends, meets, small);
      }

  -- ---- how many units give way

  given_way : (before : List FoundUnit) (one : FoundUnit) (back : List FoundUnit) → units e old ≡ before ++ one ∷ back → one.begin + one.lines ≡ old_line p (meeting_line p)
      → length before + 1 ≡ units_before p + units_removed p
  given_way before one back is end =
      let to = old_line p (meeting_line p) in
      let us = before ++ one ∷ [] in
      let split = split_behind e old before one back is in
      let ends : first_line (length old) back ≡ to = sym (unit_ends e old before one back is) ∙ end in
      let order : from_line p ≤ to = (let above = from_above e old new p w.edit_there in let behind = there.0 in omega (arith, above, behind, old_meeting)) in
      let size : length (begins_in us) ≡ length before + 1 = map_length (λ (u : FoundUnit). u.begin) us ∙ length-append before (one ∷ []) in
      let count : count_between 0 to p.old_begins ≡ length before + 1 =
      ap (count_between 0 to) (w.edit_there.olds ∙ ap begins_in split ∙ map-append (λ (u : FoundUnit). u.begin) us back)
      ∙ counted_between 0 to [] (begins_in us) (begins_in back) (All-nil (λ b. b < 0))
      (All-weaker (λ b. b < to) (λ b. (0 ≤ b) × (b < to)) (λ b h. (omega arith, h)) (begins_in us) (subst (λ n. All (λ b. b < n) (begins_in us)) ends (before_low e old us back split)))
      (subst (λ n. All (λ b. n ≤ b) (begins_in back)) ends (back_high e old us back split))
      ∙ size in
      sym count ∙ counts_join (from_line p) to p.old_begins order

  -- ---- the lines from there on

  same_lines : (one : FoundUnit) → one.begin < was → one.begin + one.lines ≡ was + rest → drop near (take (meeting_line p) new) ≡ drop (was - one.begin) (own_lines old one)
  same_lines one above end =
      let place : one.begin + (was - one.begin) ≡ was = omega (arith, above) in
      ap (λ n. drop near (take n new)) met.meets
      ∙ drop-take near rest new
      ∙ ap (take rest) met.same
      ∙ sym (drop-take was rest old)
      ∙ ap (λ n. drop was (take n old)) (sym end)
      ∙ ap (λ n. drop n (take (one.begin + one.lines) old)) (sym place)
      ∙ sym (drop-drop (was - one.begin) one.begin (take (one.begin + one.lines) old))

  short : take near (take (meeting_line p) new) ≡ take near new
  short = take-take near (meeting_line p) new (omega (arith, small))

  -- the line, and those behind it up to the meeting line
  abbrev line : List ℕ
  line = get_or new near []

  abbrev later : List (List ℕ)
  later = drop (near + 1) (take (meeting_line p) new)

  line_first : drop near (take (meeting_line p) new) ≡ line ∷ later
  line_first =
      let text = take (meeting_line p) new in
      let size = length-take-le (meeting_line p) new within in
      let one : suc near ≡ near + 1 = omega arith in
      drop-cons text near [] (omega (arith, size, small))
      ∙ ap (λ z. z ∷ drop (suc near) text) (get_or-take (meeting_line p) new near [] small)
      ∙ ap (λ n. line ∷ drop n text) one

  own_front : (one : FoundUnit) → one.begin < was → one.begin + one.lines ≡ was + rest → length (take (was - one.begin) (own_lines old one)) ≡ was - one.begin
  own_front one above end =
      let a = ap (λ z. length z) (sym (same_lines one above end) ∙ line_first) in
      let b = length-drop (was - one.begin) (own_lines old one) in
      let some : length (line ∷ later) ≡ suc (length later) = refl in
      length-take-le (was - one.begin) (own_lines old one) (omega (arith, a, b, some))

  stretch_is : drop (from_line p) (take (meeting_line p) new) ≡ drop (from_line p) (take near new) ++ line ∷ later
  stretch_is =
      let text = take (meeting_line p) new in
      let above = near_above e old new s w in
      let size = length-take-le near new (omega (arith, inside)) in
      ap (drop (from_line p)) (sym (take-append-drop near text) ∙ ap (λ z. z ++ drop near text) short)
      ∙ drop-append-le (from_line p) (take near new) (drop near text) (omega (arith, above, size))
      ∙ ap (λ z. drop (from_line p) (take near new) ++ z) line_first

  -- Any unit of the old text that has the line is that list.
  pub stopped_in : (before : List FoundUnit) (one : FoundUnit) (back : List FoundUnit) → HoldsLine e old before one back was → IsStoppedIn e old new s before one
  stopped_in before one back h =
      let same = one_holds e old was before met.old_before one met.old_list back (map (shift_found was) met.later) h list_holds in
      let above : one.begin < was = subst (λ (u : FoundUnit). u.begin < was) (sym same.1) list_above in
      let end : one.begin + one.lines ≡ was + rest = ap (λ (u : FoundUnit). u.begin + u.lines) same.1 ∙ list_ends in
      record {
        number = given_way before one back h.is (end ∙ sym old_meeting);
        above = above;
        ends = end ∙ sym old_meeting;
        as_many = (let meets = met.meets in omega (arith, end, meets));
        marked = (unit_has e old before one back h.is was h.low h.high).0 there.1;
        line = line;
        later = later;
        old_front = own_front one above end;
        old_lines = sym (take-append-drop (was - one.begin) (own_lines old one)) ∙ ap (λ z. take (was - one.begin) (own_lines old one) ++ z) (sym (same_lines one above end) ∙ line_first);
        read = line_more new (from_line p) near [] (near_above e old new s w) inside;
        stretch = stretch_is;
      }

  -- ---- what the lines that were read give

  rest_alone : units e (drop near (take (meeting_line p) new)) ≡ met.behind ∷ []
  rest_alone =
      ap (λ n. units e (drop near (take n new))) met.meets
      ∙ ap (units e) (drop-take near rest new)
      ∙ (units_parted e (drop near new) (met.behind ∷ []) met.later met.news.behinds).0

  -- The units up to the meeting line are those that were handed out, and one more.
  pub one_more : (list : FoundUnit) × (units e (drop (from_line p) (take (meeting_line p) new)) ≡ handed e (drop (from_line p) (take (near + 1) new)) ++ list ∷ [])
  one_more =
      let ls = drop (from_line p) (take near new) in
      let above = near_above e old new s w in
      let joined = (joins_told e old new p w.edit_there near [] above inside).0 (near_there e old new s w inside).0 in
      let found = handed_inside e ls line later met.behind joined (ap (units e) (sym line_first) ∙ rest_alone) in
      (found.0, ap (units e) stretch_is ∙ found.1 ∙ ap (λ z. handed e z ++ found.0 ∷ []) (sym (line_more new (from_line p) near [] above inside)))

  -- There is such a unit.
  pub held_there : (before : List FoundUnit) × (one : FoundUnit) × (back : List FoundUnit) × HoldsLine e old before one back was
  held_there = (met.old_before, met.old_list, map (shift_found was) met.later, list_holds)
