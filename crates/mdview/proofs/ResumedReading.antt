-- A reader that goes on inside a list that is held: the lines that it has read are those of the new text up to an item above the edit, and that item's first line.
use Rattle.std.proofs.Common.{◌≡◌, ℕ, Bool, false, true, ◌&&◌, ◌+◌, ◌-◌, ◌^◌, ◌<◌, ◌≤◌, inl, inr, List, [], ◌∷◌, ◌++◌, Some, None, length, map, take, drop, get_or, refl, ap, ◌∙◌, sym, subst, append_assoc, arith}
use Rattle.std.specs.Prelude.{Contains, nat_eq, nat_le, slice_get}
use Rattle.std.specs.List.{list_any}
use Rattle.std.proofs.lemmas.Bool.Decides.{nat_tests}
use Rattle.std.proofs.lemmas.List.{append-nil, take-take}
use Rattle.std.proofs.lemmas.List.Elements.{All-contains, All-cons, All-head, All-nil, Contains-append_left, Contains-append_right, Contains-push}
use Rattle.mdtext.specs.EntityTable.{EntityTable}
use Rattle.blockspec.specs.BlockUnits.{begins, units}
use Rattle.blockspec.specs.BlockLine.{without_last}
use Rattle.blockspec.specs.Nesting.{first_too_deep}
use Rattle.blockspec.specs.UnitTree.{FoundUnit}
use Rattle.blockspec.specs.ItemMarks.{ItemMark}
use Rattle.mdblock.specs.FoundLists.{FoundList, StandsForUnit}
use Rattle.mdblock.specs.Spliced.{mark_at}
use Rattle.mdblock.specs.held.Following.{Follows, ItemReading, fed_in}
use Rattle.mdblock.specs.held.Reads.{handed}
use Rattle.mdsource.specs.MetInside.{first_line as first_begin}
use Rattle.mdsource.specs.Stops.{Stops, lines_to_stop, near_line}
use Rattle.mdsource.specs.UnitItems.{own_lines}
use Rattle.mdsource.proofs.NearLines.{IsStop, NearBehind, near_behind}
use Rattle.mdsource.proofs.NearStretch.{stop_high}
use Rattle.mdsource.proofs.UnitCuts.{next_cut, split_behind, unit_alone, unit_ends, units_parted}
use Rattle.mdsource.specs.Stretch.{Places, from_line, is_meeting, meeting_line, old_line}
use Rattle.mdsource.proofs.Cuts.{IsCut, begins_before_end, begins_in, beginning_kept}
use Rattle.mdsource.proofs.Depths.{deep_cut, neither}
use Rattle.mdsource.proofs.ReadLines.{none_handed}
use Rattle.mdsource.proofs.Splices.{IsEdit, MeetsBehind, meets_behind}
use Rattle.mdsource.proofs.StretchReadings.{Ascends, begins_ascend}
use Rattle.mdview.specs.HeldBlocks.{HoldsUnits}
use Rattle.mdview.specs.HeldLists.{list_in, unplaced}
use Rattle.mdview.specs.HeldUnit.{HeldUnit, first_line, read_of}
use Rattle.mdview.proofs.HeldItems.{HeldOne, held_one}
use Rattle.mdview.proofs.ListsStand.{stands_placed}
use Rattle.mdview.proofs.NearRead.{longer}
use Rattle.mdview.proofs.NearStops.{ItemWithin, item_within}
use Rattle.mdview.proofs.ReadStretches.{stretch_next, stretch_none, stretch_size}
use Rattle.mdview.proofs.Reparses.{ReadAbove, in_new}
use Rattle.mdview.proofs.UnitSizes.{lines_before}

-- ---- the first lines of one unit hand out nothing

without_one : (us : List FoundUnit) → Ascends (begins_in us) → ((b : ℕ) → Contains (begins_in us) b → b ≡ 0) → without_last us ≡ []
without_one [] rise first = refl
without_one (u ∷ []) rise first = refl
without_one (u ∷ v ∷ us) rise first =
    let second : v.begin ≡ 0 = first v.begin (Contains-append_right (u.begin ∷ []) (begins_in (v ∷ us)) v.begin (Contains-append_left (v.begin ∷ []) (begins_in us) v.begin (Contains-push [] v.begin))) in
    let later = All-head (λ b. u.begin < b) v.begin (begins_in us) rise.0 in
    absurd (omega (arith, second, later))

pub res_handed : (e : EntityTable) (front more : List (List ℕ)) → begins e (front ++ more) ≡ 0 ∷ [] → handed e front ≡ []
res_handed e front more one = without_one (units e front) (begins_ascend e front) first
  where
    first : (b : ℕ) → Contains (begins e front) b → b ≡ 0
    first b c =
        let small = begins_before_end e front b c in
        let kept = beginning_kept e front [] more b small (subst (λ ls. Contains (begins e ls) b) (sym (append-nil front)) c) in
        sym (All-contains (λ n. 0 ≡ n) (0 ∷ []) b (All-cons (λ n. 0 ≡ n) 0 [] refl (All-nil (λ n. 0 ≡ n))) (subst (λ bs. Contains bs b) one kept))

-- ---- the lines of a unit alone are no deeper than the text

own_fits : (e : EntityTable) (limit : ℕ) (lines : List (List ℕ)) (before : List FoundUnit) (one : FoundUnit) (back : List FoundUnit) → units e lines ≡ before ++ one ∷ back
    → first_too_deep limit lines ≡ None → first_too_deep limit (own_lines lines one) ≡ None
own_fits e limit lines before one back is fits =
    (neither (first_too_deep limit (take one.begin front)) one.begin (first_too_deep limit (own_lines lines one)) (sym (deep_cut e limit front one.begin in_front) ∙ short)).1
  where
    k : ℕ
    k = one.begin + one.lines

    front : List (List ℕ)
    front = take k lines

    end : k ≡ first_begin (length lines) back
    end = unit_ends e lines before one back is

    split : units e lines ≡ (before ++ one ∷ []) ++ back
    split = split_behind e lines before one back is

    in_lines : IsCut e lines k
    in_lines = subst (IsCut e lines) (sym end) (next_cut e lines (before ++ one ∷ []) back split)

    in_front : IsCut e front one.begin
    in_front = next_cut e front before (one ∷ []) (ap (λ n. units e (take n lines)) end ∙ (units_parted e lines (before ++ one ∷ []) back split).0)

    short : first_too_deep limit front ≡ None
    short = (neither (first_too_deep limit front) k (first_too_deep limit (drop k lines)) (sym (deep_cut e limit lines k in_lines) ∙ fits)).0

-- ---- lines above the edit

not_behind : (p : Places) (line : ℕ) → line < p.at + p.come → is_meeting p line ≡ false
not_behind p line h =
    let no : nat_le (p.at + p.come) line ≡ false = grind (arith, nat_tests, h) in ap (λ t. t && list_any (nat_eq (old_line p line)) p.old_begins) no

module _ (e : EntityTable) (old new : List (List ℕ)) (p : Places) (w : IsEdit e old new p) where
  same_above : (n : ℕ) → n ≤ p.at → take n new ≡ take n old
  same_above n above = sym (take-take n p.at new above) ∙ ap (take n) w.front ∙ take-take n p.at old above

  -- no unit begins in both texts up to the edit
  pub res_above : (limit : ℕ) (reader : ItemReading) (found : List FoundUnit) (line : ℕ) → line ≤ p.at → Follows limit e reader (drop (from_line p) (take line new))
      → handed e (drop (from_line p) (take line new)) ≡ [] → found ≡ [] → ReadAbove limit e new p reader found line
  res_above limit reader found line above reads none empty = record {
    reads = reads;
    handed_out = empty ∙ sym none;
    none = λ before c small. not_behind p before (omega (arith, small, above));
  }

  -- A new reader has read nothing.
  pub res_new : (limit : ℕ) (reader : ItemReading) (from : ℕ) → from ≤ p.at → fed_in reader ≡ 0 → Follows limit e reader []
      → (from + fed_in reader ≤ p.at) × Follows limit e reader (drop from (take (from + fed_in reader) new)) × (handed e (drop from (take (from + fed_in reader) new)) ≡ [])
  res_new limit reader from above fed reads =
      let at : from + fed_in reader ≡ from = omega (arith, fed) in
      let inside = in_new limit e old new p w in
      let empty : drop from (take (from + fed_in reader) new) ≡ [] = ap (λ n. drop from (take n new)) at ∙ stretch_none new from (omega (arith, above, inside)) in
      (omega (arith, at, above), subst (Follows limit e reader) (sym empty) reads, ap (handed e) empty ∙ none_handed e)

-- Reading may stop inside a list only behind the edit.
pub res_near : (e : EntityTable) (old new : List (List ℕ)) (s : Stops) → IsStop e old new s → s.places.at ≤ near_line s
res_near e old new s w = by (near_behind e old new s w)
  where
    by : NearBehind e old new s → s.places.at ≤ near_line s
    by (inl h) = let fits = w.edit_there.fits in let sizes = w.edit_there.sizes in omega (arith, h, fits, sizes)
    by (inr h) = let behind = h.0 in omega (arith, behind)

-- Reading stops behind the edit, so what stands above it is read.
meets_low : (e : EntityTable) (old new : List (List ℕ)) (p : Places) → IsEdit e old new p → p.at ≤ meeting_line p
meets_low e old new p w = by (meets_behind e old new p w)
  where
    by : MeetsBehind e old new p → p.at ≤ meeting_line p
    by (inl h) = let fits = w.fits in let sizes = w.sizes in omega (arith, h, fits, sizes)
    by (inr h) = let behind = h.0 in omega (arith, behind)

pub few_above : (e : EntityTable) (old new : List (List ℕ)) (s : Stops) → IsStop e old new s → s.places.at - from_line s.places ≤ lines_to_stop s
few_above e old new s w = let high = stop_high s s.places.at (res_near e old new s w) (meets_low e old new s.places w.edit_there) in omega (arith, high)

-- ---- a later item of a unit that is held, above the edit

module _ (e : EntityTable) (limit : ℕ) (old new : List (List ℕ)) (p : Places) (w : IsEdit e old new p) (head : ℕ) (held : List HeldUnit) (holds : HoldsUnits e old head (map read_of held))
    (few : length old ≤ 1000000) (fits : first_too_deep limit old ≡ None) (i : ℕ) (u : HeldUnit) (there : slice_get held i ≡ Some u) (k : ℕ) (within : k < length u.read.items)
    (from : ℕ) (begin : from ≡ first_line head (map read_of held) i) (above : from + (mark_at u.read.items k).line < p.at) where
  one : HeldOne e old head held i u
  one = held_one e old head held i u holds there

  inside : ItemWithin old u k one.one
  inside = item_within e old head held i u one k within

  abbrev mark : ℕ
  mark = (mark_at u.read.items k).line

  first : from ≡ one.one.begin
  first =
      let before = lines_before held i in
      let is = one.begin in
      let small = inside.inside in
      let size : one.one.begin < 2 ^ 64 - 1 = omega (arith, small, few) in
      grind (arith, begin, before, is, size)

  abbrev end : ℕ
  end = from + u.read.lines

  abbrev line : ℕ
  line = from + mark

  abbrev zs : List (List ℕ)
  zs = drop from (take line new)

  abbrev ys : List (List ℕ)
  ys = drop (line + 1) (take end old)

  abbrev l : List ℕ
  l = get_or new line []

  below : line < length new
  below = let at = in_new limit e old new p w in omega (arith, at, above)

  next : drop from (take (line + 1) new) ≡ zs ++ l ∷ []
  next = stretch_next new from line [] (omega arith) below

  own : own_lines old one.one ≡ (zs ++ l ∷ []) ++ ys
  own =
      let short = inside.above in
      let small = inside.inside in
      ap (λ n. drop one.one.begin (take (one.one.begin + n) old)) (sym one.lines_are)
      ∙ ap (λ n. drop n (take (n + u.read.lines) old)) (sym first)
      ∙ longer old from (line + 1) end (omega arith) (omega (arith, short)) (omega (arith, small, first))
      ∙ ap (λ z. drop from z ++ ys) (sym (same_above e old new p w (line + 1) (omega (arith, above))))
      ∙ ap (λ z. z ++ ys) next

  lines : own_lines old one.one ≡ zs ++ l ∷ ys
  lines = own ∙ append_assoc zs (l ∷ []) ys

  size : length zs ≡ mark
  size = let n = stretch_size new from line (omega (arith, below)) in omega (arith, n)

  none : handed e (zs ++ l ∷ []) ≡ []
  none = res_handed e (zs ++ l ∷ []) ys (ap (begins e) (sym own) ∙ ap begins_in (unit_alone e old one.before one.one one.back one.is))

  -- the list stands for the lines of the new text up to that item, and for those behind it as before
  record Found (list : FoundList) (text : List ℕ) : Type 0 where
    joined : k < length list.marks
    placed : (mark_at list.marks k).line ≡ length zs
    mark_is : (mark_at list.marks k).line ≡ mark
    stands : StandsForUnit e list (zs ++ text ∷ ys)
    fit : first_too_deep limit (zs ++ text ∷ ys) ≡ None

  as_found : (list : FoundList) → unplaced list ≡ list_in u → (text : List ℕ) → text ≡ l → Found list text
  as_found list same text is =
      let marks : list.marks ≡ u.read.items = ap (λ (f : FoundList). f.marks) same in
      let placed : (mark_at list.marks k).line ≡ mark = ap (λ (ms : List ItemMark). (mark_at ms k).line) marks in
      record {
        joined = subst (λ (ms : List ItemMark). k < length ms) (sym marks) within;
        placed = placed ∙ sym size;
        mark_is = placed;
        stands = stands_placed e list (zs ++ text ∷ ys) (subst (λ f. StandsForUnit e f (zs ++ text ∷ ys)) (sym same)
            (subst (StandsForUnit e (list_in u)) (lines ∙ ap (λ t. zs ++ t ∷ ys) (sym is)) one.stands));
        fit = ap (first_too_deep limit) (ap (λ t. zs ++ t ∷ ys) is ∙ sym lines) ∙ own_fits e limit old one.before one.one one.back one.is fits;
      }

  pub res_given : (list : FoundList) → unplaced list ≡ list_in u → (resumed : Bool) (text : List ℕ) → text ≡ get_or new (from + (mark_at u.read.items k).line) []
      → ((zs ys : List (List ℕ)) → k < length list.marks → StandsForUnit e list (zs ++ text ∷ ys) → (mark_at list.marks k).line ≡ length zs → first_too_deep limit (zs ++ text ∷ ys) ≡ None → resumed ≡ true)
      → resumed ≡ true
  res_given list same resumed text is given =
      let f = as_found list same text is in given zs ys f.joined f.stands f.placed f.fit

  pub res_read : (list : FoundList) → unplaced list ≡ list_in u → (reader : ItemReading) (text : List ℕ) → text ≡ get_or new (from + (mark_at u.read.items k).line) []
      → fed_in reader ≡ (mark_at list.marks k).line + 1
      → ((zs ys : List (List ℕ)) → StandsForUnit e list (zs ++ text ∷ ys) → (mark_at list.marks k).line ≡ length zs → first_too_deep limit (zs ++ text ∷ ys) ≡ None
      → Follows limit e reader (zs ++ text ∷ []))
      → (from + fed_in reader ≤ p.at) × Follows limit e reader (drop from (take (from + fed_in reader) new)) × (handed e (drop from (take (from + fed_in reader) new)) ≡ [])
  res_read list same reader text is fed reads =
      let f = as_found list same text is in
      let placed = f.mark_is in
      let at : from + fed_in reader ≡ line + 1 = omega (arith, fed, placed) in
      let read : drop from (take (from + fed_in reader) new) ≡ zs ++ text ∷ [] = ap (λ n. drop from (take n new)) at ∙ next ∙ ap (λ t. zs ++ t ∷ []) (sym is) in (
        omega (arith, at, above),
        subst (Follows limit e reader) (sym read) (reads zs ys f.stands f.placed f.fit),
        ap (handed e) (read ∙ ap (λ t. zs ++ t ∷ []) is) ∙ none,
      )
