-- The later items of lists that are held, by the lines in which they begin.
use Rattle.std.proofs.Common.{◌≡◌, ℕ, zero, suc, ◌+◌, ◌-◌, ◌<◌, ◌≤◌, Bool, true, false, List, [], ◌∷◌, ◌++◌, Option, Some, None, length, map, take, drop, refl, ap, ◌∙◌, sym, subst, arith, option_map, get_or, nat_lt}
use Rattle.std.specs.Prelude.{Contains, nat_eq, slice_get, sum_by}
use Rattle.std.specs.List.{All, list_any}
use Rattle.std.specs.List.Sorted.{IsNonDecreasing}
use Rattle.std.proofs.lemmas.Bool.Decides.{nat_tests}
use Rattle.std.proofs.lemmas.Bool.{eqb-true}
use Rattle.std.proofs.lemmas.List.{drop-take, length-take-le, map-append}
use Rattle.std.proofs.lemmas.List.Elements.{All-contains, All-get_or, All-weaker, Contains-append_left, Contains-append_right, Contains-push}
use Rattle.std.proofs.lemmas.List.Folds.{list_any_none}
use Rattle.std.proofs.lemmas.List.Sorted.{IsNonDecreasingBy-from_default, IsNonDecreasingBy-short}
use Rattle.std.proofs.lemmas.Map.Views.{Contains-from_any}
use Rattle.std.proofs.lemmas.Option.{slice_get-map, slice_get_within}
use Rattle.mdtext.specs.EntityTable.{EntityTable}
use Rattle.blockspec.specs.BlockLine.{document_line}
use Rattle.blockspec.specs.BlockUnits.{units}
use Rattle.blockspec.specs.UnitTree.{FoundUnit, UnitTree}
use Rattle.blockspec.specs.ItemMarks.{list_marks}
use Rattle.blockspec.specs.Joins.{joins}
use Rattle.mdblock.specs.FoundLists.{FoundList, StandsForUnit}
use Rattle.mdsource.specs.UnitItems.{own_joins, own_lines}
use Rattle.mdsource.proofs.NearStretch.{never_both}
use Rattle.mdsource.proofs.PartedLists.{joins_ascend, joins_within}
use Rattle.mdsource.specs.MetInside.{first_line}
use Rattle.mdsource.proofs.UnitCuts.{split_behind, unit_ends}
use Rattle.mdsource.proofs.UnitJoins.{unit_marks, unit_tells}
use Rattle.mdsource.proofs.Cuts.{begins_in}
use Rattle.mdsource.proofs.StretchReadings.{Ascends}
use Rattle.mdsource.specs.UnitTiles.{tile_of}
use Rattle.mdview.specs.HeldBlocks.{HoldsUnits, lines_in, tile_in}
use Rattle.mdview.specs.HeldLists.{item_line, list_in}
use Rattle.mdview.specs.HeldUnit.{HeldUnit, read_of}
use Rattle.mdview.proofs.HeldLines.{begin_of_held, stands_at}
use Rattle.mdview.proofs.ListsStand.{stands_long}

-- ---- one member of a list

split_at : {A : Type 0} (xs : List A) (n : ℕ) (x : A) → slice_get xs n ≡ Some x → xs ≡ take n xs ++ x ∷ drop (suc n) xs
split_at [] n x h = cc
split_at (y ∷ ys) zero x h = let same : y ≡ x = cc in ap (λ z. z ∷ ys) same
split_at (y ∷ ys) (suc n) x h = ap (λ z. y ∷ z) (split_at ys n x h)

record MappedAt {A B : Type 0} (f : A → B) (xs : List A) (n : ℕ) (y : B) : Type 0 where
  one : A
  at : slice_get xs n ≡ Some one
  is : f one ≡ y

mapped_at : {A B : Type 0} (f : A → B) (xs : List A) (n : ℕ) (y : B) → slice_get (map f xs) n ≡ Some y → MappedAt f xs n y
mapped_at f [] n y h = cc
mapped_at f (x ∷ xs) zero y h = let same : f x ≡ y = cc in record { one = x; at = refl; is = same }
mapped_at f (x ∷ xs) (suc n) y h = let m = mapped_at f xs n y h in record { one = m.one; at = m.at; is = m.is }

-- ---- a unit that is held

-- It is one of the text's, and stands for its own lines.
pub record HeldOne (e : EntityTable) (lines : List (List ℕ)) (head : ℕ) (held : List HeldUnit) (i : ℕ) (u : HeldUnit) : Type 0 where
  pub before : List FoundUnit
  pub one : FoundUnit
  pub back : List FoundUnit
  pub is : units e lines ≡ before ++ one ∷ back
  pub count : length before ≡ i
  pub begin : one.begin ≡ head + sum_by lines_in (take i held)
  pub lines_are : u.read.lines ≡ one.lines
  pub stands : StandsForUnit e (list_in u) (own_lines lines one)

pub held_one : (e : EntityTable) (lines : List (List ℕ)) (head : ℕ) (held : List HeldUnit) (i : ℕ) (u : HeldUnit) → HoldsUnits e lines head (map read_of held) → slice_get held i ≡ Some u
    → HeldOne e lines head held i u
held_one e lines head held i u w at = found
  where
    us : List FoundUnit
    us = units e lines

    b : ℕ
    b = head + sum_by lines_in (take i held)

    first : MappedAt (λ (one : FoundUnit). one.begin) us i b
    first = mapped_at (λ (one : FoundUnit). one.begin) us i b (begin_of_held e lines head held i w (slice_get_within held i u at))

    here : slice_get us i ≡ Some first.one
    here = first.at

    tiles : Some (tile_in u.read) ≡ Some (tile_of first.one)
    tiles =
        ap (option_map (λ (v : HeldUnit). tile_in v.read)) (sym at) ∙ sym (slice_get-map (λ (v : HeldUnit). tile_in v.read) held i)
        ∙ ap (λ ts. slice_get ts i) (both held ∙ w.tiles) ∙ slice_get-map tile_of us i ∙ ap (option_map tile_of) here
      where
        both : (vs : List HeldUnit) → map (λ (v : HeldUnit). tile_in v.read) vs ≡ map tile_in (map read_of vs)
        both [] = refl
        both (v ∷ vs) = ap (λ z. tile_in v.read ∷ z) (both vs)

    size : u.read.lines ≡ first.one.lines
    size = ap (λ (o : Option (ℕ × UnitTree)). lines_of o) tiles
      where
        lines_of : Option (ℕ × UnitTree) → ℕ
        lines_of None = 0
        lines_of (Some t) = t.0

    own : take u.read.lines (drop b lines) ≡ own_lines lines first.one
    own =
        sym (drop-take b u.read.lines lines)
        ∙ ap (λ n. drop n (take (n + u.read.lines) lines)) (sym first.is)
        ∙ ap (λ n. drop first.one.begin (take (first.one.begin + n) lines)) size

    found : HeldOne e lines head held i u
    found = record {
      before = take i us;
      one = first.one;
      back = drop (suc i) us;
      is = split_at us i first.one here;
      count = length-take-le i us (let small = slice_get_within us i first.one here in omega (arith, small));
      begin = first.is;
      lines_are = size;
      stands = subst (StandsForUnit e (list_in u)) own (stands_at e lines head held i u w at);
    }

-- No list may be parted where units begin, and none at the end.
pub no_join : (e : EntityTable) (lines : List (List ℕ)) (before back : List FoundUnit) → units e lines ≡ before ++ back → (line : ℕ) → line ≡ first_line (length lines) back
    → list_any (nat_eq line) (joins e lines) ≡ true → ⊥
no_join e lines before [] is line here h =
    let inside = All-contains (λ j. j < length lines) (joins e lines) line (joins_within e lines) (Contains-from_any eqb-true line (joins e lines) h) in omega (arith, here, inside)
no_join e lines before (v ∷ back) is line here h =
    never_both e lines line
    (subst (λ bs. Contains bs line) (sym (ap begins_in is ∙ map-append (λ (u : FoundUnit). u.begin) before (v ∷ back)))
    (subst (λ n. Contains (begins_in before ++ begins_in (v ∷ back)) n) (sym here)
    (Contains-append_right (begins_in before) (begins_in (v ∷ back)) v.begin (Contains-append_left (v.begin ∷ []) (begins_in back) v.begin (Contains-push [] v.begin)))))
    (Contains-from_any eqb-true line (joins e lines) h)

-- its later items begin where a list of the text may be parted
items_are : (e : EntityTable) (f : FoundList) (lines : List (List ℕ)) → StandsForUnit e f lines → map item_line f.marks ≡ map item_line (list_marks e (map document_line lines))
unfolding StandsForUnit
items_are e f lines h = ap (map item_line) h.1

pub own_items : (e : EntityTable) (lines : List (List ℕ)) (head : ℕ) (held : List HeldUnit) (i : ℕ) (u : HeldUnit) (h : HeldOne e lines head held i u)
    → map item_line u.read.items ≡ own_joins e lines h.one
own_items e lines head held i u h = items_are e (list_in u) (own_lines lines h.one) h.stands

-- Any line behind the unit's first one and not behind the next one's: an item of the unit begins in it exactly where a list of the text may be parted there.
pub item_told : (e : EntityTable) (lines : List (List ℕ)) (head : ℕ) (held : List HeldUnit) (i : ℕ) (u : HeldUnit) (h : HeldOne e lines head held i u) (line : ℕ) → h.one.begin ≤ line
    → line ≤ h.one.begin + h.one.lines → list_any (nat_eq (line - h.one.begin)) (map item_line u.read.items) ≡ list_any (nat_eq line) (joins e lines)
item_told e lines head held i u h line low high =
    ap (list_any (nat_eq (line - h.one.begin))) (own_items e lines head held i u h) ∙ by (nat_lt line end) refl
  where
    end : ℕ
    end = h.one.begin + h.one.lines

    own : List (List ℕ)
    own = own_lines lines h.one

    none_at : (n : ℕ) (js : List ℕ) → All (λ j. j < n) js → list_any (nat_eq n) js ≡ false
    none_at n js all = list_any_none (nat_eq n) js (All-weaker (λ j. j < n) (λ j. nat_eq n j ≡ false) (λ j k. grind (arith, nat_tests, k)) js all)

    -- no item begins at the unit's end, and no list may be parted there
    mine : line ≡ end → list_any (nat_eq (line - h.one.begin)) (own_joins e lines h.one) ≡ false
    mine same =
        let marks = unit_marks e lines h.before h.one h.back h.is in
        let long = stands_long e (list_in u) own h.stands ∙ h.lines_are in
        let at : line - h.one.begin ≡ length own = omega (arith, same, long) in
        ap (list_any (nat_eq (line - h.one.begin))) marks ∙ none_at (line - h.one.begin) (joins e own) (subst (λ n. All (λ j. j < n) (joins e own)) (sym at) (joins_within e own))

    theirs : line ≡ end → list_any (nat_eq line) (joins e lines) ≡ false
    theirs same = go (list_any (nat_eq line) (joins e lines)) refl
      where
        go : (t : Bool) → list_any (nat_eq line) (joins e lines) ≡ t → t ≡ false
        go false k = refl
        go true k = absurd (no_join e lines (h.before ++ h.one ∷ []) h.back (split_behind e lines h.before h.one h.back h.is) line
            (same ∙ unit_ends e lines h.before h.one h.back h.is) k)

    by : (t : Bool) → nat_lt line end ≡ t → list_any (nat_eq (line - h.one.begin)) (own_joins e lines h.one) ≡ list_any (nat_eq line) (joins e lines)
    by true k = sym (unit_tells e lines h.before h.one h.back h.is line low (grind (arith, nat_tests, k)))
    by false k = let same : line ≡ end = grind (arith, nat_tests, k, high) in mine same ∙ sym (theirs same)

-- ---- the lines of the items rise

rising_from : (xs : List ℕ) → Ascends xs → IsNonDecreasing xs
rising_from [] h = IsNonDecreasingBy-short (λ n. n) [] (omega arith)
rising_from (x ∷ xs) h = IsNonDecreasingBy-from_default (λ n. n) (x ∷ xs) 0 (go (x ∷ xs) h)
  where
    go : (ys : List ℕ) → Ascends ys → (i j : ℕ) → i ≤ j → j < length ys → get_or ys i 0 ≤ get_or ys j 0
    go [] a i j order below = absurd (omega (arith, below))
    go (y ∷ ys) a zero zero order below = omega arith
    go (y ∷ ys) a zero (suc j) order below =
        let more = All-get_or (λ z. y < z) ys j 0 (omega (arith, below)) a.0 in omega (arith, more)
    go (y ∷ ys) a (suc i) zero order below = absurd (omega (arith, order))
    go (y ∷ ys) a (suc i) (suc j) order below = go ys a.1 i j (omega (arith, order)) (omega (arith, below))

pub items_rise : (e : EntityTable) (lines : List (List ℕ)) (head : ℕ) (held : List HeldUnit) (i : ℕ) (u : HeldUnit) (h : HeldOne e lines head held i u) → IsNonDecreasing (map item_line u.read.items)
items_rise e lines head held i u h =
    subst IsNonDecreasing (sym (own_items e lines head held i u h ∙ unit_marks e lines h.before h.one h.back h.is)) (rising_from (joins e (own_lines lines h.one)) (joins_ascend e (own_lines lines h.one)))
