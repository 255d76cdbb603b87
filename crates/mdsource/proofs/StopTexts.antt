-- How many inline texts an edit reads: as many as if it read up to the meeting line, but for those behind the line at which reading stops.
use Rattle.std.proofs.Common.{◌≡◌, ℕ, ◌+◌, ◌<◌, ◌≤◌, inl, inr, Bool, true, false, List, [], ◌∷◌, ◌++◌, length, length-append, map, take, drop, refl, sym, ◌∙◌, ap, subst, append_assoc, arith, nat_lt}
use Rattle.std.specs.Prelude.{Contains, nat_eq, nat_le, sum_by, if◌then◌else◌}
use Rattle.std.specs.List.{All, filter}
use Rattle.std.proofs.lemmas.Bool.Decides.{nat_tests}
use Rattle.std.proofs.lemmas.List.{append-nil, length-drop, length-map, length-take, map-append, take-take}
use Rattle.std.proofs.lemmas.List.Elements.{All-nil, All-cons, All-head, All-tail, All-weaker, All-contains, filter-append}
use Rattle.std.proofs.lemmas.List.Sums.{count_by-le-length, length-filter}
use Rattle.std.proofs.Math.Seq.{drop-append_seam}
use Rattle.mdtext.specs.EntityTable.{EntityTable}
use Rattle.blockspec.specs.BlockUnits.{begins, units}
use Rattle.blockspec.specs.BlockLine.{without_last}
use Rattle.blockspec.specs.UnitBegin.{shift_found}
use Rattle.blockspec.specs.UnitTree.{FoundUnit}
use Rattle.blockspec.proofs.BeginLaws.{shifted_begins}
use Rattle.blockspec.proofs.DocumentLaws.{map_length}
use Rattle.blockspec.proofs.OpenLeafLaws.{drops_last}
use Rattle.inlinespec.specs.LinkTails.{Table}
use Rattle.mdsource.specs.Calls.{put, set_prelude}
use Rattle.mdsource.specs.Changes.{asks_changed, texts_due, texts_read}
use Rattle.mdsource.specs.LabelTable.{table}
use Rattle.mdsource.specs.Setting.{Setting, Source}
use Rattle.mdsource.specs.Spliced.{IsSpliced}
use Rattle.mdsource.specs.Stretch.{Places, from_line, meeting_line, units_added, units_before}
use Rattle.mdsource.specs.View.{reading_of, view, viewed}
use Rattle.mdsource.specs.UnitTexts.{asking_texts, trees_in}
use Rattle.mdsource.proofs.AskingUnits.{due_parts, texts_all}
use Rattle.mdsource.proofs.Counts.{all_pass, none_passes, spliced}
use Rattle.mdsource.proofs.Cuts.{IsCut, begins_in, begins_within, no_units, units_cut}
use Rattle.mdsource.proofs.Splices.{BeginsAbove, IsEdit, MeetsBehind, begins_above, from_above, from_cut, meets, meets_behind}
use Rattle.mdsource.proofs.StretchReadings.{Ascends, begins_ascend}
use Rattle.mdsource.specs.MetInside.{IsMetInside, first_line}
use Rattle.mdsource.specs.SoonTexts.{later_asking, texts_of_read, texts_soon, texts_taken, units_read}
use Rattle.mdsource.specs.Stops.{Stops, near_line, stop_line, stops}
use Rattle.mdsource.specs.LaterTexts.{asking_of, later_texts, texts_of, trees_to}
use Rattle.mdsource.proofs.NearLines.{IsStop, NearBehind, first_moved, front_low, later_ascend, later_high, met_inside, near_behind}
use Rattle.mdsource.proofs.TakenTexts.{IsFrontOf, front_of_itself, many_found, many_in_trees, none_of_them, none_taken, parts_taken, texts_behind}

-- ---- units and their first lines

by_begins : (P : ℕ → Type 0) (us : List FoundUnit) → All P (begins_in us) → All (λ (one : FoundUnit). P one.begin) us
by_begins P [] h = All-nil (λ (one : FoundUnit). P one.begin)
by_begins P (u ∷ us) h = All-cons (λ (one : FoundUnit). P one.begin) u us (All-head P u.begin (begins_in us) h) (by_begins P us (All-tail P u.begin (begins_in us) h))

moved_high : (k : ℕ) (us : List FoundUnit) → All (λ b. k ≤ b) (begins_in (map (shift_found k) us))
moved_high k [] = All-nil (λ b. k ≤ b)
moved_high k (u ∷ us) = All-cons (λ b. k ≤ b) (u.begin + k) (begins_in (map (shift_found k) us)) (omega arith) (moved_high k us)

moved_low : (k many to : ℕ) (us : List FoundUnit) → k + many ≤ to → All (λ b. b < many) (begins_in us) → All (λ b. b < to) (begins_in (map (shift_found k) us))
moved_low k many to [] h all = All-nil (λ b. b < to)
moved_low k many to (u ∷ us) h all =
    let low = All-head (λ b. b < many) u.begin (begins_in us) all in
    All-cons (λ b. b < to) (u.begin + k) (begins_in (map (shift_found k) us)) (omega (arith, h, low)) (moved_low k many to us h (All-tail (λ b. b < many) u.begin (begins_in us) all))

trees_moved : (k : ℕ) (us : List FoundUnit) → trees_in (map (shift_found k) us) ≡ trees_in us
trees_moved k [] = refl
trees_moved k (u ∷ us) = ap (λ z. u.unit ∷ z) (trees_moved k us)

ascends_behind : (xs ys : List ℕ) → Ascends (xs ++ ys) → Ascends ys
ascends_behind [] ys h = h
ascends_behind (x ∷ xs) ys h = ascends_behind xs ys h.1

-- units in front of a line and behind it
cut_at : (to : ℕ) (xs ys : List FoundUnit) → All (λ b. b < to) (begins_in xs) → All (λ b. to ≤ b) (begins_in ys) → filter (λ (one : FoundUnit). nat_lt one.begin to) (xs ++ ys) ≡ xs
cut_at to xs ys low high =
    let t : FoundUnit → Bool = λ one. nat_lt one.begin to in
    filter-append t xs ys
    ∙ ap (λ l. l ++ filter t ys) (all_pass t xs (by_begins (λ b. nat_lt b to ≡ true) xs (All-weaker (λ b. b < to) (λ b. nat_lt b to ≡ true) (λ b h. grind (arith, nat_tests, h)) (begins_in xs) low)))
    ∙ ap (λ l. xs ++ l) (none_passes t ys (by_begins (λ b. nat_lt b to ≡ false) ys (All-weaker (λ b. to ≤ b) (λ b. nat_lt b to ≡ false) (λ b h. grind (arith, nat_tests, h)) (begins_in ys) high)))
    ∙ append-nil xs

-- the last of some units
record HasLast (us : List FoundUnit) : Type 0 where
  front : List FoundUnit
  last : FoundUnit
  is : us ≡ front ++ last ∷ []

has_last : (u : FoundUnit) (us : List FoundUnit) → HasLast (u ∷ us)
has_last u [] = record { front = []; last = u; is = refl }
has_last u (v ∷ us) = let rest = has_last v us in record { front = u ∷ rest.front; last = rest.last; is = ap (λ l. u ∷ l) rest.is }

last_or : FoundUnit → List FoundUnit → FoundUnit
last_or u [] = u
last_or u (v ∷ vs) = v

same_front : (xs ys : List FoundUnit) (x y : FoundUnit) → xs ++ x ∷ [] ≡ ys ++ y ∷ [] → xs ≡ ys
same_front xs ys x y h = sym (drops_last xs x) ∙ ap without_last h ∙ drops_last ys y

same_last : (xs ys : List FoundUnit) (x y : FoundUnit) → xs ++ x ∷ [] ≡ ys ++ y ∷ [] → x ≡ y
unfolding last_or
same_last xs ys x y h =
    let fronts = same_front xs ys x y h in
    ap (last_or y) (sym (drop-append_seam xs (x ∷ [])) ∙ ap (λ l. drop (length xs) l) h ∙ ap (λ l. drop (length l) (ys ++ y ∷ [])) fronts ∙ drop-append_seam ys (y ∷ []))

no_last : (xs : List FoundUnit) (x : FoundUnit) {A : Type 0} → [] ≡ xs ++ x ∷ [] → A
no_last [] x h = cc
no_last (y ∷ xs) x h = cc

pub asking_few : (e : EntityTable) (before after : Table) (texts : List (List ℕ)) → asking_of e before after texts ≤ length texts
asking_few e before after texts =
    let a = length-filter (asks_changed before after) (map (reading_of e before) texts) in
    let b = count_by-le-length (asks_changed before after) (map (reading_of e before) texts) in
    let c = length-map texts (reading_of e before) in
    omega (arith, a, b, c)

-- ---- an edit

module _ (setting : Setting) (old new : Source) (s : Stops) (w : IsStop setting.entities old.lines new.lines s) where
  abbrev e : EntityTable
  e = setting.entities

  abbrev p : Places
  p = s.places

  abbrev from : ℕ
  from = from_line p

  abbrev meet : ℕ
  meet = meeting_line p

  abbrev before : Table
  before = table e old

  abbrev after : Table
  after = table e new

  abbrev front : List FoundUnit
  front = units e (take from old.lines)

  -- the units of the lines up to one
  abbrev reached : ℕ → List FoundUnit
  reached to = map (shift_found from) (units e (drop from (take to new.lines)))

  abbrev back : List FoundUnit
  back = map (shift_found meet) (units e (drop meet new.lines))

  is : IsEdit e old.lines new.lines p
  is = w.edit_there

  parts : IsSpliced e old.lines new.lines p
  parts = spliced e old.lines new.lines p is

  met : p.at + p.come ≤ meet
  met = (meets e old.lines new.lines p is).behind

  units_to : (to : ℕ) → p.at ≤ to → units e (take to new.lines) ≡ front ++ reached to
  units_to to h =
      let same : take p.at (take to new.lines) ≡ take p.at old.lines = take-take p.at to new.lines h ∙ is.front in
      let above = from_above e old.lines new.lines p is in
      let short : take from (take to new.lines) ≡ take from old.lines =
      sym (take-take from p.at (take to new.lines) above) ∙ ap (take from) same ∙ take-take from p.at old.lines above in
      units_cut e (take to new.lines) from (from_cut e old.lines new.lines p is (take to new.lines) same) ∙ ap (λ z. units e z ++ reached to) short

  front_first : All (λ b. b < from) (begins_in front)
  front_first =
      let size = length-take from old.lines in
      All-weaker (λ b. b < length (take from old.lines)) (λ b. b < from) (λ b h. grind (arith, size, h)) (begins_in front) (begins_within e (take from old.lines))

  reached_high : (to : ℕ) → All (λ b. from ≤ b) (begins_in (reached to))
  reached_high to = moved_high from (units e (drop from (take to new.lines)))

  reached_low : (to : ℕ) → p.at ≤ to → All (λ b. b < to) (begins_in (reached to))
  reached_low to h =
      let above = from_above e old.lines new.lines p is in
      let size = length-drop from (take to new.lines) in
      let short = length-take to new.lines in
      let many = length (drop from (take to new.lines)) in
      let within : from + many ≤ to = grind (arith, above, h, size, short) in
      moved_low from many to (units e (drop from (take to new.lines))) within (begins_within e (drop from (take to new.lines)))

  reached_ascends : (to : ℕ) → p.at ≤ to → Ascends (begins_in (reached to))
  reached_ascends to h =
      ascends_behind (begins_in front) (begins_in (reached to))
      (subst Ascends (ap begins_in (units_to to h) ∙ map-append (λ (one : FoundUnit). one.begin) front (reached to)) (begins_ascend e (take to new.lines)))

  -- those that begin where reading begins or behind
  read_is : (to : ℕ) → p.at ≤ to → filter (λ (one : FoundUnit). nat_le from one.begin) (units e (take to new.lines)) ≡ reached to
  read_is to h =
      let t : FoundUnit → Bool = λ one. nat_le from one.begin in
      ap (filter t) (units_to to h)
      ∙ filter-append t front (reached to)
      ∙ ap (λ l. l ++ filter t (reached to)) (none_passes t front (by_begins (λ b. nat_le from b ≡ false) front (All-weaker (λ b. b < from) (λ b. nat_le from b ≡ false) (λ b k. grind (arith, nat_tests, k)) (begins_in front) front_first)))
      ∙ all_pass t (reached to) (by_begins (λ b. nat_le from b ≡ true) (reached to) (All-weaker (λ b. from ≤ b) (λ b. nat_le from b ≡ true) (λ b k. grind (arith, nat_tests, k)) (begins_in (reached to)) (reached_high to)))

  none_in_front : (to : ℕ) → All (λ k. texts_taken (reached to) k ≡ 0) (begins_in front)
  none_in_front to =
      All-weaker (λ b. b < from) (λ b. texts_taken (reached to) b ≡ 0)
      (λ b low. none_of_them b (reached to) (All-weaker (λ k. from ≤ k) (λ k. nat_eq k b ≡ false) (λ k high. grind (arith, nat_tests, low, high)) (begins_in (reached to)) (reached_high to)))
      (begins_in front) front_first

  none_in_back : (to : ℕ) → p.at ≤ to → to ≤ meet → All (λ k. texts_taken (reached to) k ≡ 0) (begins_in back)
  none_in_back to h order =
      All-weaker (λ b. meet ≤ b) (λ b. texts_taken (reached to) b ≡ 0)
      (λ b high. none_of_them b (reached to) (All-weaker (λ k. k < to) (λ k. nat_eq k b ≡ false) (λ k low. grind (arith, nat_tests, low, high, order)) (begins_in (reached to)) (reached_low to h)))
      (begins_in back) (moved_high meet (units e (drop meet new.lines)))

  -- of the texts up to the meeting line all but the rest are read
  read_by_parts : (to : ℕ) (rest : List (List ℕ)) → p.at ≤ to → to ≤ meet → IsFrontOf (reached to) (reached meet) rest
      → texts_of_read setting old new (filter (λ (one : FoundUnit). nat_le from one.begin) (units e (take to new.lines))) + length rest
      ≡ texts_due before after (units_before p) (units_added p) 0 (view setting new) + asking_of e before after rest
  unfolding parts
  read_by_parts to rest high order front_of =
      let a = ap (texts_of_read setting old new) (read_is to high) in
      let b = ap (λ us. sum_by (later_asking before after (reached to)) (map (viewed setting after) us)) parts.news
      ∙ parts_taken setting before after (reached to) front (reached meet) back rest (none_in_front to) (none_in_back to high order) front_of (reached_ascends to high) in
      let c = many_found (reached to) in
      let d = ap (λ us. texts_due before after (units_before p) (units_added p) 0 (map (viewed setting after) us)) parts.news
      ∙ due_parts setting before after (units_before p) (units_added p) front (reached meet) back (sym parts.first) (map_length (shift_found from) (units e (drop from (take meet new.lines))) ∙ sym parts.added) in
      let f = many_in_trees (trees_in (reached meet)) in
      let g = ap (λ l. length l) (texts_behind (reached to) (reached meet) rest front_of) ∙ length-append (texts_of (trees_in (reached to))) rest in
      omega (arith, a, b, c, d, f, g)

  -- ---- where reading stops

  record StopsAt (to : ℕ) : Type 0 where
    rest : List (List ℕ)
    high : p.at ≤ to
    order : to ≤ meet
    front_of : IsFrontOf (reached to) (reached meet) rest

  at_meeting : StopsAt meet
  at_meeting = let behind = met in record { rest = []; high = omega (arith, behind); order = omega arith; front_of = front_of_itself (reached meet) }

  -- a unit begins where reading begins, or behind it and before the line
  module _ (small : near_line s < meet) (behind : p.at + p.come ≤ near_line s) (k : IsMetInside e old.lines new.lines s) where
    abbrev near : ℕ
    near = near_line s

    high_near : p.at ≤ near
    high_near = omega (arith, behind)

    meet_within : meet ≤ length new.lines
    meet_within = by (meets_behind e old.lines new.lines p is)
      where
        by : MeetsBehind e old.lines new.lines p → meet ≤ length new.lines
        by (inl h) = omega (arith, h)
        by (inr h) = let inside = All-contains (λ y. y < length new.lines) (begins e new.lines) meet (begins_within e new.lines) h.1 in omega (arith, inside)

    near_size : length (take near new.lines) ≡ near
    near_size = let within = meet_within in let size = length-take near new.lines in grind (arith, small, within, size)

    some_reached : reached near ≡ [] → {A : Type 0} → A
    some_reached none = by (begins_above e old.lines new.lines p is) (from_cut e old.lines new.lines p is (take near new.lines) (take-take p.at near new.lines high_near ∙ is.front))
      where
        all_in_front : units e (take near new.lines) ≡ front
        all_in_front = units_to near high_near ∙ ap (λ l. front ++ l) none ∙ append-nil front

        by : {A : Type 0} → BeginsAbove e old.lines p → IsCut e (take near new.lines) from → A
        by (inl h) c =
            let nothing : front ≡ [] = ap (λ n. units e (take n old.lines)) h ∙ no_units e in
            no_last k.new_before k.new_front (sym nothing ∙ sym all_in_front ∙ k.news.fronts)
        by (inr h) (inl c) =
            let nothing : front ≡ [] = ap (λ n. units e (take n old.lines)) c ∙ no_units e in
            no_last k.new_before k.new_front (sym nothing ∙ sym all_in_front ∙ k.news.fronts)
        by (inr h) (inr (inl c)) = absurd (let size = near_size in let above = h.0 in omega (arith, size, above, c, behind))
        by (inr h) (inr (inr c)) =
            absurd (let low = All-contains (λ b. b < from) (begins_in front) from front_first (subst (λ us. Contains (begins_in us) from) all_in_front c) in omega (arith, low))

    reached_last : HasLast (reached near)
    reached_last = go (reached near) refl
      where
        go : (us : List FoundUnit) → reached near ≡ us → HasLast (reached near)
        go [] h = some_reached h
        go (u ∷ us) h = subst HasLast (sym h) (has_last u us)

    abbrev whole : List FoundUnit
    whole = reached_last.front

    both : (front ++ whole) ++ reached_last.last ∷ [] ≡ k.new_before ++ k.new_front ∷ []
    both =
        append_assoc front whole (reached_last.last ∷ [])
        ∙ ap (λ l. front ++ l) (sym reached_last.is)
        ∙ sym (units_to near high_near)
        ∙ k.news.fronts

    before_is : front ++ whole ≡ k.new_before
    before_is = same_front (front ++ whole) k.new_before reached_last.last k.new_front both

    last_is : reached_last.last ≡ k.new_front
    last_is = same_last (front ++ whole) k.new_before reached_last.last k.new_front both

    -- the list ends at the meeting line
    list_low : All (λ b. b < meet) (begins_in (k.new_before ++ k.new_list ∷ []))
    list_low =
        let first : begins_in (k.new_before ++ k.new_list ∷ []) ≡ begins_in k.new_before ++ k.new_front.begin ∷ [] =
        map-append (λ (one : FoundUnit). one.begin) k.new_before (k.new_list ∷ []) ∙ ap (λ b. begins_in k.new_before ++ b ∷ []) k.news.begin in
        subst (All (λ b. b < meet)) (sym first)
        (All-weaker (λ b. b < near) (λ b. b < meet) (λ b h. omega (arith, h, small)) (begins_in k.new_before ++ k.new_front.begin ∷ [])
        (front_low e new.lines near k.new_before k.new_front k.behind k.new_list k.later k.news))

    later_behind : All (λ b. meet ≤ b) (begins_in (map (shift_found near) k.later))
    later_behind =
        subst (All (λ b. meet ≤ b)) (sym (shifted_begins near k.later))
        (go k.later k.meets (later_high near k.later (later_ascend e new.lines near k.new_before k.new_front k.behind k.new_list k.later k.news)))
      where
        go : (vs : List FoundUnit) → meet ≡ near + first_line (length (drop near new.lines)) vs → All (λ b. first_moved near vs ≤ b) (map (λ n. n + near) (begins_in vs))
            → All (λ b. meet ≤ b) (map (λ n. n + near) (begins_in vs))
        go [] h all = All-nil (λ b. meet ≤ b)
        go (v ∷ vs) h all = All-weaker (λ b. v.begin + near ≤ b) (λ b. meet ≤ b) (λ b low. omega (arith, h, low)) (map (λ n. n + near) (begins_in (v ∷ vs))) all

    up_to_meeting : front ++ reached meet ≡ k.new_before ++ k.new_list ∷ []
    unfolding parts
    up_to_meeting =
        let h : p.at ≤ meet = let above = met in omega (arith, above) in
        let low : All (λ b. b < meet) (begins_in (front ++ reached meet)) =
        subst (λ us. All (λ b. b < meet) (begins_in us)) (units_to meet h)
        (let size = length-take meet new.lines in
        All-weaker (λ b. b < length (take meet new.lines)) (λ b. b < meet) (λ b small. grind (arith, size, small)) (begins e (take meet new.lines)) (begins_within e (take meet new.lines))) in
        sym (cut_at meet (front ++ reached meet) back low (moved_high meet (units e (drop meet new.lines))))
        ∙ ap (filter (λ (one : FoundUnit). nat_lt one.begin meet)) (sym parts.news ∙ k.news.wholes ∙ sym (append_assoc k.new_before (k.new_list ∷ []) (map (shift_found near) k.later)))
        ∙ cut_at meet (k.new_before ++ k.new_list ∷ []) (map (shift_found near) k.later) list_low later_behind

    all_is : reached meet ≡ whole ++ k.new_list ∷ []
    all_is =
        sym (drop-append_seam front (reached meet))
        ∙ ap (drop (length front)) (up_to_meeting ∙ ap (λ l. l ++ k.new_list ∷ []) (sym before_is) ∙ append_assoc front whole (k.new_list ∷ []))
        ∙ drop-append_seam front (whole ++ k.new_list ∷ [])

    inside : StopsAt near
    inside = record {
      rest = k.behind.unit.texts;
      high = high_near;
      order = omega (arith, small);
      front_of = record {
        whole = whole;
        last = reached_last.last ∷ [];
        last_all = k.new_list ∷ [];
        reads = reached_last.is;
        alls = all_is;
        ends = (
          refl,
          refl,
          k.news.begin ∙ ap (λ (u : FoundUnit). u.begin) (sym last_is),
          k.news.texts ∙ ap (λ (u : FoundUnit). u.unit.texts ++ k.behind.unit.texts) (sym last_is),
        );
      };
    }

  at_near : near_line s < meet → StopsAt (near_line s)
  at_near small = by (near_behind e old.lines new.lines s w)
    where
      within : MeetsBehind e old.lines new.lines p → meet ≤ length new.lines
      within (inl h) = omega (arith, h)
      within (inr h) = let small = All-contains (λ y. y < length new.lines) (begins e new.lines) meet (begins_within e new.lines) h.1 in omega (arith, small)

      by : NearBehind e old.lines new.lines s → StopsAt (near_line s)
      by (inl h) = absurd (let low = within (meets_behind e old.lines new.lines p is) in omega (arith, h, low, small))
      by (inr h) = inside small h.0 (met_inside e old.lines new.lines s w small)

  stops_at : StopsAt (stop_line s)
  stops_at = by (nat_le meet (near_line s)) refl
    where
      by : (t : Bool) → nat_le meet (near_line s) ≡ t → StopsAt (if t then meet else near_line s)
      by true h = at_meeting
      by false h = at_near (grind (arith, nat_tests, h))

  later_is : later_texts e new.lines s ≡ stops_at.rest
  later_is =
      let all = trees_moved from (units e (drop from (take meet new.lines))) in
      let read = trees_moved from (units e (drop from (take (stop_line s) new.lines))) in
      let rest = texts_behind (reached (stop_line s)) (reached meet) stops_at.rest stops_at.front_of in
      ap (λ ts. drop (length (texts_of ts)) (texts_of (trees_to e new.lines s meet))) (sym read)
      ∙ ap (λ ts. drop (length (texts_of (trees_in (reached (stop_line s))))) (texts_of ts)) (sym all)
      ∙ ap (drop (length (texts_of (trees_in (reached (stop_line s)))))) rest
      ∙ drop-append_seam (texts_of (trees_in (reached (stop_line s)))) stops_at.rest

  abbrev soon : ℕ
  soon = texts_of_read setting old new (filter (λ (one : FoundUnit). nat_le from one.begin) (units e (take (stop_line s) new.lines)))

  abbrev all_due : ℕ
  all_due = texts_due before after (units_before p) (units_added p) 0 (view setting new)

  pub soon_by_later : soon + length (later_texts e new.lines s) ≡ all_due + asking_of e before after (later_texts e new.lines s)
  soon_by_later =
      let r = stops_at in
      subst (λ later. soon + length later ≡ all_due + asking_of e before after later) (sym later_is) (read_by_parts (stop_line s) r.rest r.high r.order r.front_of)

  pub soon_at_meeting : meet ≤ near_line s → soon ≡ all_due
  soon_at_meeting h =
      let there : nat_le meet (near_line s) ≡ true = grind (arith, nat_tests, h) in
      let is_meet : stop_line s ≡ meet = ap (λ t. if t then meet else near_line s) there in
      let m = at_meeting in
      let all = read_by_parts meet [] m.high m.order (front_of_itself (reached meet)) in
      let same = ap (λ n. texts_of_read setting old new (filter (λ (one : FoundUnit). nat_le from one.begin) (units e (take n new.lines)))) is_meet in
      omega (arith, all, same)

  pub soon_few : soon ≤ all_due
  soon_few =
      let all = soon_by_later in
      let few = asking_few e before after (later_texts e new.lines s) in
      omega (arith, all, few)

-- ---- a new prelude, for which no line of the text is read

pub soon_of_prelude : (setting : Setting) (old : Source) (lines : List (List ℕ)) → texts_soon setting old (set_prelude lines) ≡ texts_read setting old (set_prelude lines)
soon_of_prelude setting old lines =
    let new = put old (set_prelude lines) in
    let before = table setting.entities old in
    let after = table setting.entities new in
    let none : units_read setting.entities new.lines (stops setting old (set_prelude lines)) ≡ [] =
    ap (filter (λ (one : FoundUnit). nat_le 0 one.begin)) (no_units setting.entities) in
    let nothing : texts_soon setting old (set_prelude lines) ≡ texts_of_read setting old new [] = ap (texts_of_read setting old new) none in
    let taken = none_taken setting before after [] (units setting.entities new.lines) (λ k d below. refl) in
    let all : texts_read setting old (set_prelude lines) ≡ asking_texts setting.entities before after (trees_in (units setting.entities new.lines)) =
    texts_all setting before after (units setting.entities new.lines) in
    let zero : sum_by (λ (one : FoundUnit). length one.unit.texts) [] ≡ 0 = refl in
    nothing ∙ omega (arith, taken, all, zero)
