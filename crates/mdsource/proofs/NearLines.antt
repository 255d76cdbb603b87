-- Where reading may stop inside a list: a later item of a list begins there in both texts; the list ends at the meeting line.
use Rattle.std.proofs.Common.{◌≡◌, ℕ, ◌+◌, ◌-◌, ◌<◌, ◌≤◌, ◌⊎◌, inl, inr, Bool, true, false, ◌&&◌, ◌||◌, List, [], ◌∷◌, ◌++◌, length, map, take, drop, Option, Some, None, refl, sym, ◌∙◌, ap, subst, append_assoc, arith}
use Rattle.std.specs.Prelude.{Contains, cond, nat_le, nat_eq, if◌then◌else◌}
use Rattle.std.specs.List.{All, find, list_any}
use Rattle.std.specs.Option.{unwrap_or}
use Rattle.std.proofs.lemmas.Bool.Decides.{nat_tests}
use Rattle.std.proofs.lemmas.Bool.{eqb-true, and_parts}
use Rattle.std.proofs.lemmas.List.{drop-drop, length-take, length-drop, map-append}
use Rattle.std.proofs.lemmas.List.Elements.{All-nil, All-cons, All-head, All-tail, All-weaker, All-contains, Contains-append_cases, Contains-append_left, Contains-append_right, Contains-push}
use Rattle.std.proofs.lemmas.Map.Views.{Contains-from_any}
use Rattle.mdtext.specs.EntityTable.{EntityTable}
use Rattle.blockspec.specs.BlockUnits.{begins}
use Rattle.blockspec.specs.UnitBegin.{shift_found}
use Rattle.blockspec.specs.UnitTree.{FoundUnit}
use Rattle.blockspec.proofs.BeginLaws.{shifted_begins}
use Rattle.blockspec.specs.Joins.{joins}
use Rattle.mdsource.specs.Calls.{edit, put}
use Rattle.mdsource.specs.Setting.{Setting, Source}
use Rattle.mdsource.specs.Stretch.{Places, old_line, is_meeting, meeting_line}
use Rattle.mdsource.proofs.Cuts.{begins_in, begins_within}
use Rattle.mdsource.proofs.PutLines.{edit_is}
use Rattle.mdsource.proofs.Splices.{IsEdit, MeetsBehind, meets_behind, found_is}
use Rattle.mdsource.proofs.StretchReadings.{Ascends, begins_ascend, find_least, find_none}
use Rattle.mdsource.specs.MetInside.{first_line, IsPartedAt, IsMetInside}
use Rattle.mdsource.specs.Stops.{Stops, is_near, near_line, stop_line, stops}
use Rattle.mdsource.proofs.PartedLists.{joins_ascend, Parted, parted, same_behind}

-- an edit, with the lines at which lists of both texts may be parted
pub record IsStop (e : EntityTable) (old new : List (List ℕ)) (s : Stops) : Type 0 where
  pub edit_there : IsEdit e old new s.places
  pub olds : s.old_joins ≡ joins e old
  pub news : s.new_joins ≡ joins e new

pub stop_is : (setting : Setting) (old : Source) (at del : ℕ) (add : List (List ℕ)) → at + del ≤ length old.lines →
    IsStop setting.entities old.lines (put old (edit at del add)).lines (stops setting old (edit at del add))
stop_is setting old at del add fits = record { edit_there = edit_is setting old at del add fits; olds = refl; news = refl }

-- ---- where reading may stop

-- It may at the first line behind the edit at which a later item begins in both texts.
pub near_at : (e : EntityTable) (old new : List (List ℕ)) (s : Stops) → IsStop e old new s → (line : ℕ) → Contains (joins e new) line → is_near s line ≡ true
    → ((before : ℕ) → Contains (joins e new) before → before < line → is_near s before ≡ false) → near_line s ≡ line
near_at e old new s w line here is none =
    ap (λ js. unwrap_or (find (is_near s) js) s.places.new_lines) w.news
    ∙ ap (λ o. unwrap_or o s.places.new_lines) (find_least (is_near s) (joins e new) line (joins_ascend e new) here is none)

-- Where there is none, that is the end of the text.
pub near_nowhere : (e : EntityTable) (old new : List (List ℕ)) (s : Stops) → IsStop e old new s
    → ((line : ℕ) → Contains (joins e new) line → is_near s line ≡ false) → near_line s ≡ length new
near_nowhere e old new s w none =
    ap (λ js. unwrap_or (find (is_near s) js) s.places.new_lines) w.news
    ∙ ap (λ o. unwrap_or o s.places.new_lines) (find_none (is_near s) (joins e new) none) ∙ w.edit_there.lines

abbrev pub NearBehind : EntityTable → (old new : List (List ℕ)) → Stops → Type 0
NearBehind e old new s =
    (near_line s ≡ length new)
    ⊎ ((s.places.at + s.places.come ≤ near_line s) × Contains (joins e new) (near_line s) × Contains (joins e old) (old_line s.places (near_line s)))

pub near_behind : (e : EntityTable) (old new : List (List ℕ)) (s : Stops) → IsStop e old new s → NearBehind e old new s
near_behind e old new s w = by (find (is_near s) s.new_joins) refl
  where
    by : (o : Option ℕ) → find (is_near s) s.new_joins ≡ o → NearBehind e old new s
    by None h = inl (ap (λ z. unwrap_or z s.places.new_lines) h ∙ w.edit_there.lines)
    by (Some m) h =
        let is : near_line s ≡ m = ap (λ z. unwrap_or z s.places.new_lines) h in
        let f = found_is (is_near s) s.new_joins m h in
        let both = and_parts (nat_le (s.places.at + s.places.come) m) (list_any (nat_eq (old_line s.places m)) s.old_joins) f.1 in
        let behind = both.0 in
        inr (subst (λ z. (s.places.at + s.places.come ≤ z) × Contains (joins e new) z × Contains (joins e old) (old_line s.places z)) (sym is) (
          grind (arith, nat_tests, behind),
          subst (λ z. Contains z m) w.news f.0,
          subst (λ z. Contains z (old_line s.places m)) w.olds (Contains-from_any eqb-true (old_line s.places m) s.old_joins both.1),
        ))

-- Reading stops no later than at the meeting line.
pub stop_low : (s : Stops) → stop_line s ≤ meeting_line s.places
stop_low s = by (nat_le (meeting_line s.places) (near_line s)) refl
  where
    by : (b : Bool) → nat_le (meeting_line s.places) (near_line s) ≡ b → (if b then meeting_line s.places else near_line s) ≤ meeting_line s.places
    by true h = omega arith
    by false h = grind (arith, nat_tests, h)

-- ---- both texts from such a line on

pub same_from : (e : EntityTable) (old new : List (List ℕ)) (p : Places) → IsEdit e old new p → (m : ℕ) → p.at + p.come ≤ m → drop m new ≡ drop (old_line p m) old
same_from e old new p w m h =
    let k = m - (p.at + p.come) in
    let is : (p.at + p.come) + k ≡ m = omega (arith, h) in
    let was : (p.at + p.gone) + k ≡ old_line p m = omega (arith, h) in
    ap (λ z. drop z new) (sym is) ∙ sym (drop-drop k (p.at + p.come) new) ∙ ap (drop k) w.back ∙ drop-drop k (p.at + p.gone) old ∙ ap (λ z. drop z old) was

-- ---- the first line of the units behind the list

-- the first number that passes is no greater than any that does
pub found_low : (p : ℕ → Bool) (xs : List ℕ) (z i : ℕ) → Ascends xs → Contains xs i → p i ≡ true → unwrap_or (find p xs) z ≤ i
found_low p [] z i h w is = let small = w.1 in absurd (omega (arith, small))
found_low p (x ∷ xs) z i h w is = by (p x) refl (Contains-append_cases (x ∷ []) xs i w) (λ v. found_low p xs z i h.1 v is)
  where
    is_first : Contains (x ∷ []) i → x ≡ i
    is_first v = All-contains (λ y. x ≡ y) (x ∷ []) i (All-cons (λ y. x ≡ y) x [] refl (All-nil (λ y. x ≡ y))) v

    clash : {A : Type 0} → true ≡ false → A
    clash k = cc

    by : (t : Bool) → p x ≡ t → Contains (x ∷ []) i ⊎ Contains xs i → (Contains xs i → unwrap_or (find p xs) z ≤ i) → unwrap_or (cond t (Some x) (find p xs)) z ≤ i
    by true e (inl v) later = let same = is_first v in omega (arith, same)
    by true e (inr v) later = let low = All-contains (λ y. x < y) xs i h.0 v in omega (arith, low)
    by false e (inl v) later = clash (sym is ∙ ap p (sym (is_first v)) ∙ e)
    by false e (inr v) later = later v

-- The meeting line is no greater than any line at which a unit begins in both texts.
pub meeting_low : (e : EntityTable) (old new : List (List ℕ)) (p : Places) → IsEdit e old new p → (line : ℕ) → Contains (begins e new) line → is_meeting p line ≡ true → meeting_line p ≤ line
meeting_low e old new p w line here is =
    subst (λ bs. unwrap_or (find (is_meeting p) bs) p.new_lines ≤ line) (sym w.news) (found_low (is_meeting p) (begins e new) p.new_lines line (begins_ascend e new) here is)

-- a list that has the number
pub any_equal : (n : ℕ) (xs : List ℕ) → Contains xs n → list_any (nat_eq n) xs ≡ true
any_equal n [] w = absurd (let small = w.1 in omega (arith, small))
any_equal n (x ∷ xs) w = by (Contains-append_cases (x ∷ []) xs n w) (λ v. any_equal n xs v)
  where
    is_first : Contains (x ∷ []) n → x ≡ n
    is_first v = All-contains (λ y. x ≡ y) (x ∷ []) n (All-cons (λ y. x ≡ y) x [] refl (All-nil (λ y. x ≡ y))) v

    either : (a b : Bool) → b ≡ true → (a || b) ≡ true
    either true b h = refl
    either false b h = h

    by : Contains (x ∷ []) n ⊎ Contains xs n → (Contains xs n → list_any (nat_eq n) xs ≡ true) → (nat_eq n x || list_any (nat_eq n) xs) ≡ true
    by (inl v) later = let same = is_first v in let here : nat_eq n x ≡ true = grind (arith, nat_tests, same) in ap (λ z. z || list_any (nat_eq n) xs) here
    by (inr v) later = either (nat_eq n x) (list_any (nat_eq n) xs) (later v)

-- the lines of a document at which its units begin, where a list is parted
parted_begins : (e : EntityTable) (lines : List (List ℕ)) (n : ℕ) (before : List FoundUnit) (front behind whole : FoundUnit) (later : List FoundUnit) → IsPartedAt e lines n before front behind whole later →
    begins e lines ≡ (begins_in before ++ front.begin ∷ []) ++ map (λ k. k + n) (begins_in later)
parted_begins e lines n before front behind whole later w =
    ap begins_in w.wholes
    ∙ map-append (λ (u : FoundUnit). u.begin) before (whole ∷ map (shift_found n) later)
    ∙ ap (λ z. begins_in before ++ whole.begin ∷ z) (shifted_begins n later)
    ∙ ap (λ z. begins_in before ++ z ∷ map (λ k. k + n) (begins_in later)) w.begin
    ∙ sym (append_assoc (begins_in before) (front.begin ∷ []) (map (λ k. k + n) (begins_in later)))

-- those up to the list lie in front of the line
pub front_low : (e : EntityTable) (lines : List (List ℕ)) (n : ℕ) (before : List FoundUnit) (front behind whole : FoundUnit) (later : List FoundUnit) → IsPartedAt e lines n before front behind whole later →
    All (λ b. b < n) (begins_in before ++ front.begin ∷ [])
front_low e lines n before front behind whole later w =
    let is : begins e (take n lines) ≡ begins_in before ++ front.begin ∷ [] = ap begins_in w.fronts ∙ map-append (λ (u : FoundUnit). u.begin) before (front ∷ []) in
    let size = length-take n lines in
    All-weaker (λ b. b < length (take n lines)) (λ b. b < n) (λ b h. grind (arith, size, h)) (begins_in before ++ front.begin ∷ [])
    (subst (All (λ b. b < length (take n lines))) is (begins_within e (take n lines)))

-- those behind it begin from the first of them on
abbrev pub first_moved : ℕ → List FoundUnit → ℕ
first_moved n [] = n
first_moved n (v ∷ vs) = v.begin + n

pub later_high : (n : ℕ) (vs : List FoundUnit) → Ascends (begins_in vs) → All (λ b. first_moved n vs ≤ b) (map (λ k. k + n) (begins_in vs))
later_high n [] h = All-nil (λ b. n ≤ b)
later_high n (v ∷ vs) h = All-cons (λ b. v.begin + n ≤ b) (v.begin + n) (map (λ k. k + n) (begins_in vs)) (omega arith) (go vs h.0)
  where
    go : (us : List FoundUnit) → All (λ y. v.begin < y) (begins_in us) → All (λ b. v.begin + n ≤ b) (map (λ k. k + n) (begins_in us))
    go [] w = All-nil (λ b. v.begin + n ≤ b)
    go (u ∷ us) w =
        let low = All-head (λ y. v.begin < y) u.begin (begins_in us) w in
        All-cons (λ b. v.begin + n ≤ b) (u.begin + n) (map (λ k. k + n) (begins_in us)) (omega (arith, low)) (go us (All-tail (λ y. v.begin < y) u.begin (begins_in us) w))

-- a unit begins in both texts where the first one behind the list does
met_first : (e : EntityTable) (old new : List (List ℕ)) (s : Stops) → IsEdit e old new s.places → s.places.at + s.places.come ≤ near_line s →
    (before before' : List FoundUnit) (front front' behind whole whole' : FoundUnit) (v : FoundUnit) (vs : List FoundUnit) →
    IsPartedAt e new (near_line s) before front behind whole (v ∷ vs) → IsPartedAt e old (old_line s.places (near_line s)) before' front' behind whole' (v ∷ vs) →
    Contains (begins e new) (v.begin + near_line s) × (is_meeting s.places (v.begin + near_line s) ≡ true)
met_first e old new s w h before before' front front' behind whole whole' v vs a b =
    let p = s.places in
    let n = near_line s in
    let m = v.begin + n in
    let back : (k : ℕ) → (fronts : List ℕ) → Contains (fronts ++ map (λ j. j + k) (begins_in (v ∷ vs))) (v.begin + k) =
    λ k fronts. Contains-append_right fronts (map (λ j. j + k) (begins_in (v ∷ vs))) (v.begin + k)
    (Contains-append_left ((v.begin + k) ∷ []) (map (λ j. j + k) (begins_in vs)) (v.begin + k) (Contains-push [] (v.begin + k))) in
    let there = subst (λ z. Contains z m) (sym (parted_begins e new n before front behind whole (v ∷ vs) a)) (back n (begins_in before ++ front.begin ∷ [])) in
    let was = subst (λ z. Contains z (v.begin + old_line p n)) (sym (w.olds ∙ parted_begins e old (old_line p n) before' front' behind whole' (v ∷ vs) b))
    (back (old_line p n) (begins_in before' ++ front'.begin ∷ [])) in
    let is : v.begin + old_line p n ≡ old_line p m = omega (arith, h) in
    let first : nat_le (p.at + p.come) m ≡ true = grind (arith, nat_tests, h) in
    let second : list_any (nat_eq (old_line p m)) p.old_begins ≡ true = any_equal (old_line p m) p.old_begins (subst (λ z. Contains p.old_begins z) is was) in
    (there, ap (λ z. z && list_any (nat_eq (old_line p m)) p.old_begins) first ∙ second)

-- Where a unit begins behind the line, it is one behind the list.
behind_line : (e : EntityTable) (lines : List (List ℕ)) (n : ℕ) (before : List FoundUnit) (front behind whole : FoundUnit) (later : List FoundUnit) → IsPartedAt e lines n before front behind whole later →
    (b : ℕ) → Contains (begins e lines) b → n < b → Contains (map (λ k. k + n) (begins_in later)) b
behind_line e lines n before front behind whole later w b there high =
    by (Contains-append_cases (begins_in before ++ front.begin ∷ []) (map (λ k. k + n) (begins_in later)) b
    (subst (λ z. Contains z b) (parted_begins e lines n before front behind whole later w) there))
  where
    by : Contains (begins_in before ++ front.begin ∷ []) b ⊎ Contains (map (λ k. k + n) (begins_in later)) b → Contains (map (λ k. k + n) (begins_in later)) b
    by (inl v) = absurd (let low = All-contains (λ y. y < n) (begins_in before ++ front.begin ∷ []) b (front_low e lines n before front behind whole later w) v in omega (arith, low, high))
    by (inr v) = v

pub later_ascend : (e : EntityTable) (lines : List (List ℕ)) (n : ℕ) (before : List FoundUnit) (front behind whole : FoundUnit) (later : List FoundUnit) → IsPartedAt e lines n before front behind whole later →
    Ascends (begins_in later)
later_ascend e lines n before front behind whole later w = (subst Ascends (ap begins_in w.behinds) (begins_ascend e (drop n lines))).1

-- The list in which reading stops ends at the meeting line.
list_ends : (e : EntityTable) (old new : List (List ℕ)) (s : Stops) → IsEdit e old new s.places → s.places.at + s.places.come ≤ near_line s → near_line s < meeting_line s.places →
    (before before' : List FoundUnit) (front front' behind whole whole' : FoundUnit) (later : List FoundUnit) →
    IsPartedAt e new (near_line s) before front behind whole later → IsPartedAt e old (old_line s.places (near_line s)) before' front' behind whole' later →
    MeetsBehind e old new s.places → meeting_line s.places ≡ near_line s + first_line (length (drop (near_line s) new)) later
list_ends e old new s w h small before before' front front' behind whole whole' [] a b (inl end) =
    let size = length-drop (near_line s) new in omega (arith, end, size, small)
list_ends e old new s w h small before before' front front' behind whole whole' [] a b (inr there) =
    absurd (let none = (behind_line e new (near_line s) before front behind whole [] a (meeting_line s.places) there.1 small).1 in omega (arith, none))
list_ends e old new s w h small before before' front front' behind whole whole' (v ∷ vs) a b (inl end) =
    let m = met_first e old new s w h before before' front front' behind whole whole' v vs a b in
    let low = meeting_low e old new s.places w (v.begin + near_line s) m.0 m.1 in
    let inside = All-contains (λ y. y < length new) (begins e new) (v.begin + near_line s) (begins_within e new) m.0 in
    omega (arith, end, low, inside)
list_ends e old new s w h small before before' front front' behind whole whole' (v ∷ vs) a b (inr there) =
    let m = met_first e old new s w h before before' front front' behind whole whole' v vs a b in
    let low = meeting_low e old new s.places w (v.begin + near_line s) m.0 m.1 in
    let one = behind_line e new (near_line s) before front behind whole (v ∷ vs) a (meeting_line s.places) there.1 small in
    let high = All-contains (λ y. v.begin + near_line s ≤ y) (map (λ k. k + near_line s) (begins_in (v ∷ vs))) (meeting_line s.places)
    (later_high (near_line s) (v ∷ vs) (later_ascend e new (near_line s) before front behind whole (v ∷ vs) a)) one in
    omega (arith, low, high)

met_by_parts : (e : EntityTable) (old new : List (List ℕ)) (s : Stops) → IsEdit e old new s.places → s.places.at + s.places.come ≤ near_line s → near_line s < meeting_line s.places →
    Parted e new (near_line s) → Parted e old (old_line s.places (near_line s)) → IsMetInside e old new s
met_by_parts e old new s w h small a b =
    let same = same_from e old new s.places w (near_line s) h in
    let olds = same_behind e new old (near_line s) (old_line s.places (near_line s)) a.before a.front a.behind a.whole a.later b.before b.front b.behind b.whole b.later same a.is b.is in
    record {
      old_before = b.before;
      new_before = a.before;
      old_front = b.front;
      new_front = a.front;
      behind = a.behind;
      old_list = b.whole;
      new_list = a.whole;
      later = a.later;
      same = same;
      olds = olds;
      news = a.is;
      meets = list_ends e old new s w h small a.before b.before a.front b.front a.behind a.whole b.whole a.later a.is olds (meets_behind e old new s.places w);
    }

-- Where reading stops before the meeting line, it stops inside a list that both texts have from there on.
pub met_inside : (e : EntityTable) (old new : List (List ℕ)) (s : Stops) → IsStop e old new s → near_line s < meeting_line s.places → IsMetInside e old new s
met_inside e old new s w small = by (near_behind e old new s w)
  where
    within : MeetsBehind e old new s.places → meeting_line s.places ≤ length new
    within (inl h) = omega (arith, h)
    within (inr h) = let inside = All-contains (λ y. y < length new) (begins e new) (meeting_line s.places) (begins_within e new) h.1 in omega (arith, inside)

    by : NearBehind e old new s → IsMetInside e old new s
    by (inl h) = absurd (let low = within (meets_behind e old new s.places w.edit_there) in omega (arith, h, low, small))
    by (inr h) = met_by_parts e old new s w.edit_there h.0 small (parted e new (near_line s) h.1) (parted e old (old_line s.places (near_line s)) h.2)
