-- A cursor that has passed the units above a line: the last one it passed is the one whose item may begin in the line.
use Rattle.std.proofs.Common.{◌≡◌, ℕ, zero, suc, ◌+◌, ◌-◌, ◌^◌, ◌<◌, ◌≤◌, Bool, true, false, List, [], ◌∷◌, ◌++◌, Option, Some, None, length, map, take, min, refl, ap, ◌∙◌, sym, subst, arith, option_map, get_or, nat_lt}
use Rattle.std.specs.Prelude.{IfSome, is_some, nat_eq, slice_get, sum_by}
use Rattle.std.specs.List.{list_any}
use Rattle.std.specs.List.Sorted.{IsNonDecreasing}
use Rattle.std.specs.Option.{unwrap_or}
use Rattle.std.proofs.lemmas.Bool.Decides.{nat_tests}
use Rattle.std.proofs.lemmas.List.{get_or-take, length-append, length-drop, length-map, length-take, take_more}
use Rattle.std.proofs.lemmas.List.Elements.{All-get_or}
use Rattle.std.proofs.lemmas.List.Sums.{sum_by-append, sum_by-cons}
use Rattle.std.proofs.lemmas.Option.{get_or_from_slice_get, slice_get-map, slice_get_within}
use Rattle.mdtext.specs.EntityTable.{EntityTable}
use Rattle.blockspec.specs.BlockUnits.{begins, units}
use Rattle.blockspec.specs.UnitTree.{FoundUnit}
use Rattle.blockspec.specs.ItemMarks.{ItemMark}
use Rattle.blockspec.specs.Joins.{joins}
use Rattle.mdsource.specs.MetInside.{first_line as first_begin}
use Rattle.mdsource.specs.UnitItems.{own_lines}
use Rattle.mdsource.proofs.UnitCuts.{unit_ends}
use Rattle.mdsource.proofs.UnitJoins.{front_tells}
use Rattle.mdsource.specs.UnitTiles.{IsAhead, front_of, tile_of}
use Rattle.mdsource.proofs.Cuts.{begins_within}
use Rattle.mdview.specs.HeldBlocks.{HoldsUnits, lines_in, tile_in}
use Rattle.mdview.specs.HeldLists.{item_line, list_in}
use Rattle.mdview.specs.HeldUnit.{HeldUnit, first_line, read_of}
use Rattle.mdblock.specs.Spliced.{mark_at, no_mark}
use Rattle.mdview.proofs.HeldItems.{HeldOne, held_one, item_told, items_rise, no_join}
use Rattle.mdview.proofs.HeldLines.{begin_of_held}
use Rattle.mdview.proofs.ListsStand.{stands_long}
use Rattle.mdview.proofs.UnitSizes.{lines_before}

-- ---- the sizes of the first units

next_sum : (held : List HeldUnit) (n : ℕ) (u : HeldUnit) → slice_get held n ≡ Some u → sum_by lines_in (take (n + 1) held) ≡ sum_by lines_in (take n held) + u.read.lines
next_sum held n u at =
    let below = slice_get_within held n u at in
    let more = take_more held n u below ∙ ap (λ v. take n held ++ v ∷ []) (get_or_from_slice_get held n u u at) in
    let parts = sum_by-append lines_in (take n held) (u ∷ []) in
    let one = sum_by-cons lines_in u [] in
    let whole = ap (sum_by lines_in) more in
    omega (arith, whole, parts, one)

-- where the next unit begins
pub next_line : (head : ℕ) (held : List HeldUnit) (n : ℕ) (u : HeldUnit) (line far : ℕ) → slice_get held n ≡ Some u → line ≡ first_line head (map read_of held) n → far ≡ min (line + u.read.lines) (2 ^ 64 - 1)
    → far ≡ first_line head (map read_of held) (n + 1)
next_line head held n u line far at is next =
    let a = lines_before held n in
    let b = lines_before held (n + 1) in
    let more = next_sum held n u at in
    grind (arith, a, b, more, is, next)

-- ---- the units of a text

held_many : (e : EntityTable) (lines : List (List ℕ)) (head : ℕ) (held : List HeldUnit) → HoldsUnits e lines head (map read_of held) → length held ≡ length (units e lines)
held_many e lines head held w =
    let a = length-map held read_of in
    let b = length-map (map read_of held) tile_in in
    let c = length-map (units e lines) tile_of in
    let same = ap (λ z. length z) w.tiles in
    omega (arith, a, b, c, same)

first_is : (n : ℕ) (us : List FoundUnit) → front_of n us ≡ first_begin n us
first_is n [] = refl
first_is n (u ∷ us) = refl

-- No list may be parted up to the first unit's first line.
pub none_first : (e : EntityTable) (lines : List (List ℕ)) (head : ℕ) (held : List HeldUnit) (line : ℕ) → HoldsUnits e lines head (map read_of held) → line ≤ head
    → false ≡ list_any (nat_eq line) (joins e lines)
none_first e lines head held line w low = sym (by (nat_lt line head) refl)
  where
    place : head ≡ first_begin (length lines) (units e lines)
    place = w.before ∙ first_is (length lines) (units e lines)

    go : (t : Bool) → list_any (nat_eq line) (joins e lines) ≡ t → line ≡ head → t ≡ false
    go false k same = refl
    go true k same = absurd (no_join e lines [] (units e lines) refl line (same ∙ place) k)

    by : (t : Bool) → nat_lt line head ≡ t → list_any (nat_eq line) (joins e lines) ≡ false
    by true k = let above : line < head = grind (arith, nat_tests, k) in front_tells e lines line (omega (arith, above, place))
    by false k = let same : line ≡ head = grind (arith, nat_tests, k, low) in go (list_any (nat_eq line) (joins e lines)) refl same

pub front_passed : (e : EntityTable) (lines : List (List ℕ)) (head : ℕ) (held : List HeldUnit) (begin line : ℕ) → line < length lines → HoldsUnits e lines head (map read_of held)
    → begin ≡ first_line head (map read_of held) 0 → (0 < length held → line ≤ begin) → line ≤ head
front_passed e lines head held begin line inside w is past = by (units e lines) refl
  where
    by : (us : List FoundUnit) → units e lines ≡ us → line ≤ head
    by [] none = let before = w.before ∙ ap (front_of (length lines)) none in omega (arith, before, inside)
    by (u ∷ us) some =
        let many = held_many e lines head held w ∙ ap (λ z. length z) some in
        let low = past (omega (arith, many)) in
        grind (arith, low, is)

-- ---- the unit passed last

pub record PassedLast (e : EntityTable) (lines : List (List ℕ)) (head : ℕ) (held : List HeldUnit) (n : ℕ) (u : HeldUnit) (end line : ℕ) : Type 0 where
  pub found : HeldOne e lines head held n u
  pub there : slice_get (begins e lines) n ≡ Some found.one.begin
  pub above : found.one.begin < line
  pub ends : end ≡ found.one.begin + u.read.lines
  pub high : line ≤ found.one.begin + found.one.lines

pub passed_last : (e : EntityTable) (lines : List (List ℕ)) (head : ℕ) (held : List HeldUnit) (n : ℕ) (u : HeldUnit) (end line : ℕ) → length lines ≤ 1000000 → line < length lines
    → HoldsUnits e lines head (map read_of held) → slice_get held n ≡ Some u → IsAhead (map lines_in held) (begins e lines) (n + 1) end line
    → end ≡ first_line head (map read_of held) (n + 1) → (n + 1 < length held → line ≤ end) → PassedLast e lines head held n u end line
passed_last e lines head held n u end line few inside w at ahead is past = record {
  found = h;
  there = there;
  above = above;
  ends = ends;
  high = high;
}
  where
    h : HeldOne e lines head held n u
    h = held_one e lines head held n u w at

    b : ℕ
    b = h.one.begin

    there : slice_get (begins e lines) n ≡ Some b
    there = begin_of_held e lines head held n w (slice_get_within held n u at) ∙ ap (λ k. Some k) (sym h.begin)

    below : n < length (begins e lines)
    below = slice_get_within (begins e lines) n b there

    b_is : get_or (begins e lines) n 0 ≡ b
    b_is = get_or_from_slice_get (begins e lines) n b 0 there

    above : b < line
    above =
        let size = length-take (n + 1) (begins e lines) in
        let small = All-get_or (λ k. k < line) (take (n + 1) (begins e lines)) n 0 (grind (arith, size, below)) ahead.passed in
        let same = get_or-take (n + 1) (begins e lines) n 0 (omega arith) in
        omega (arith, small, same, b_is)

    long : length (own_lines lines h.one) ≡ u.read.lines
    long = stands_long e (list_in u) (own_lines lines h.one) h.stands

    b_inside : b < length lines
    b_inside = let small = All-get_or (λ k. k < length lines) (begins e lines) n 0 below (begins_within e lines) in omega (arith, small, b_is)

    within : b + u.read.lines ≤ length lines
    within =
        let a = length-drop b (take (b + h.one.lines) lines) in
        let c = length-take (b + h.one.lines) lines in
        let lines_are = h.lines_are in
        grind (arith, a, c, long, b_inside, lines_are)

    ends : end ≡ b + u.read.lines
    ends =
        let sums = lines_before held (n + 1) in
        let more = next_sum held n u at in
        let begin = h.begin in
        grind (arith, is, sums, more, begin, within, few)

    high : line ≤ b + h.one.lines
    high = by h.back refl
      where
        lines_are : u.read.lines ≡ h.one.lines
        lines_are = h.lines_are

        many : length held ≡ n + suc (length h.back)
        many =
            let a = held_many e lines head held w in
            let c = ap (λ z. length z) h.is ∙ length-append h.before (h.one ∷ h.back) in
            let count = h.count in
            omega (arith, a, c, count)

        by : (back : List FoundUnit) → h.back ≡ back → line ≤ b + h.one.lines
        by [] none = let last = unit_ends e lines h.before h.one h.back h.is ∙ ap (first_begin (length lines)) none in omega (arith, last, inside)
        by (v ∷ vs) some =
            let size = ap (λ z. length z) some in
            let low = past (omega (arith, many, size)) in
            omega (arith, low, ends, lines_are)

-- the mark of an item whose line is known
pub mark_line : (marks : List ItemMark) (i n : ℕ) → slice_get (map item_line marks) i ≡ Some n → ((mark_at marks i).line ≡ n) × (i < length marks)
mark_line marks i n h = (by (slice_get marks i) (sym (slice_get-map item_line marks i) ∙ h), let many = length-map marks item_line in let small = slice_get_within (map item_line marks) i n h in omega (arith, many, small))
  where
    by : (o : Option ItemMark) → option_map item_line o ≡ Some n → (unwrap_or o no_mark).line ≡ n
    by None k = cc
    by (Some m) k = cc

-- An item of it begins in the line exactly where a list of the text may be parted there.
pub told_last : (e : EntityTable) (lines : List (List ℕ)) (head : ℕ) (held : List HeldUnit) (n : ℕ) (u : HeldUnit) (end line : ℕ) → PassedLast e lines head held n u end line → (r : Option ℕ)
    → (IsNonDecreasing (map item_line u.read.items) → u.read.lines ≤ end → end ≤ line + u.read.lines → is_some r ≡ list_any (nat_eq ((line + u.read.lines) - end)) (map item_line u.read.items))
    → is_some r ≡ list_any (nat_eq line) (joins e lines)
told_last e lines head held n u end line p r told =
    let ends = p.ends in
    let above = p.above in
    let place : (line + u.read.lines) - end ≡ line - p.found.one.begin = omega (arith, ends, above) in
    told (items_rise e lines head held n u p.found) (omega (arith, ends)) (omega (arith, ends, above))
    ∙ ap (λ k. list_any (nat_eq k) (map item_line u.read.items)) place
    ∙ item_told e lines head held n u p.found line (omega (arith, above)) p.high

pub placed_last : (e : EntityTable) (lines : List (List ℕ)) (head : ℕ) (held : List HeldUnit) (n : ℕ) (u : HeldUnit) (end line : ℕ) → PassedLast e lines head held n u end line → (i : ℕ)
    → slice_get (map item_line u.read.items) i ≡ Some ((line + u.read.lines) - end) → IfSome (slice_get (begins e lines) n) (λ begin. begin + (mark_at u.read.items i).line ≡ line)
placed_last e lines head held n u end line p i at =
    let ends = p.ends in
    let above = p.above in
    let mark = (mark_line u.read.items i ((line + u.read.lines) - end) at).0 in
    let is : p.found.one.begin + (mark_at u.read.items i).line ≡ line = omega (arith, ends, above, mark) in
    subst (λ o. IfSome o (λ begin. begin + (mark_at u.read.items i).line ≡ line)) (sym p.there) is

pub something_got : {A : Type 0} (xs : List A) (i : ℕ) → None ≡ slice_get xs i → i < length xs → ⊥
something_got [] i h below = omega (arith, below)
something_got (x ∷ xs) zero h below = cc
something_got (x ∷ xs) (suc i) h below = something_got xs i h (omega (arith, below))
