-- Where an edit reads up to a line, whether it stops there inside a list, and which item of a held list that is.
use Rattle.std.proofs.Common.{◌≡◌, ℕ, ◌+◌, ◌-◌, ◌<◌, ◌≤◌, inl, inr, Bool, true, false, ◌&&◌, List, [], ◌∷◌, ◌++◌, Some, length, map, take, drop, get_or, refl, ap, ◌∙◌, sym, subst, arith, nat_eq}
use Rattle.std.specs.Prelude.{Contains, IfSome, if◌then◌else◌, nat_le, slice_get, sum_by}
use Rattle.std.specs.List.{list_any}
use Rattle.std.proofs.lemmas.Bool.Decides.{nat_tests}
use Rattle.std.proofs.lemmas.List.{length-drop, length-map, length-take, map-append}
use Rattle.std.proofs.lemmas.List.Elements.{All-contains, All-get_or, Contains-append_left, Contains-append_right, Contains-push}
use Rattle.std.proofs.lemmas.List.Sums.{sum_by-cons}
use Rattle.std.proofs.lemmas.Option.{slice_get_within, unwrap_or-slice_get}
use Rattle.std.proofs.Math.ListN.{get_or-map}
use Rattle.mdtext.specs.EntityTable.{EntityTable}
use Rattle.blockspec.specs.BlockUnits.{begins, units}
use Rattle.blockspec.specs.UnitTree.{FoundUnit}
use Rattle.blockspec.specs.Joins.{is_joined, joins}
use Rattle.mdblock.specs.held.Following.{ItemReading}
use Rattle.mdsource.specs.Stops.{Stops, is_near, lines_to_stop, near_line, stop_line}
use Rattle.mdsource.specs.UnitItems.{own_lines}
use Rattle.mdsource.proofs.NearLines.{IsStop}
use Rattle.mdsource.proofs.NearStretch.{near_before, near_told, stop_high}
use Rattle.mdsource.proofs.PartedLists.{joins_within}
use Rattle.mdsource.proofs.UnitJoins.{unit_marks}
use Rattle.mdsource.specs.Stretch.{Places, from_line, meeting_line, old_line}
use Rattle.mdsource.specs.UnitTexts.{trees_in}
use Rattle.mdsource.proofs.Cuts.{begins_in, begins_within}
use Rattle.mdsource.proofs.Splices.{IsEdit, MeetsBehind, meets_behind}
use Rattle.mdview.specs.HeldBlocks.{HoldsUnits, line_before, old_lines, places_of}
use Rattle.mdview.specs.HeldItems.{IsItemAt, IsItemOf, mark_in}
use Rattle.mdview.specs.HeldLists.{item_line, list_in}
use Rattle.mdview.specs.HeldUnit.{HeldUnit, read_of, texts_in}
use Rattle.mdview.specs.NewText.{lines_of}
use Rattle.mdview.specs.StopLines.{stops_of}
use Rattle.mdblock.specs.Spliced.{mark_at, no_mark}
use Rattle.mdview.specs.declared.source.new_text.NewText.{NewText}
use Rattle.mdview.specs.declared.blocks.held_places.HeldItem.{HeldItem}
use Rattle.mdview.proofs.HeldItems.{HeldOne, held_one, own_items}
use Rattle.mdview.proofs.HeldLines.{begin_of_held}
use Rattle.mdview.proofs.ListsStand.{stands_long}
use Rattle.mdview.proofs.NearReadings.{HoldsItem}
use Rattle.mdview.proofs.ReadStretches.{is_edit, meets_later}
use Rattle.mdview.proofs.Reparses.{ReadAbove}

pub is_stop : (e : EntityTable) (text : NewText) → IsStop e (old_lines text) (lines_of text) (stops_of e text)
is_stop e text = record { edit_there = is_edit e text; olds = refl; news = refl }

-- ---- how many lines are read

pub few_soon : (e : EntityTable) (text : NewText) (limit : ℕ) (reader : ItemReading) (found : List FoundUnit) (line : ℕ) → line ≤ length (lines_of text) → line ≤ near_line (stops_of e text)
    → ReadAbove limit e (lines_of text) (places_of e text) reader found line → (line - from_line (places_of e text)) + 1 ≤ lines_to_stop (stops_of e text)
few_soon e text limit reader found line below near s =
    let later = meets_later e (old_lines text) (lines_of text) (places_of e text) (is_edit e text) line below s.none in
    let high = stop_high (stops_of e text) line near later in
    omega (arith, high)

meets_within : (e : EntityTable) (old new : List (List ℕ)) (p : Places) → IsEdit e old new p → meeting_line p ≤ length new
meets_within e old new p w = by (meets_behind e old new p w)
  where
    by : MeetsBehind e old new p → meeting_line p ≤ length new
    by (inl h) = omega (arith, h)
    by (inr h) = let inside = All-contains (λ y. y < length new) (begins e new) (meeting_line p) (begins_within e new) h.1 in omega (arith, inside)

-- Up to the meeting line reading stops there if no list may be parted before it in both texts.
pub stops_met : (e : EntityTable) (text : NewText) (line : ℕ) → meeting_line (places_of e text) ≡ line → line ≤ near_line (stops_of e text) → stop_line (stops_of e text) ≡ line
stops_met e text line meet near = by (nat_le (meeting_line (places_of e text)) (near_line (stops_of e text))) refl
  where
    by : (t : Bool) → nat_le (meeting_line (places_of e text)) (near_line (stops_of e text)) ≡ t → (if t then meeting_line (places_of e text) else near_line (stops_of e text)) ≡ line
    by true h = meet
    by false h = absurd (let above : near_line (stops_of e text) < meeting_line (places_of e text) = grind (arith, nat_tests, h) in omega (arith, above, meet, near))

pub stops_near : (e : EntityTable) (text : NewText) (line : ℕ) → near_line (stops_of e text) ≡ line → line < meeting_line (places_of e text) → stop_line (stops_of e text) ≡ line
stops_near e text line near small = by (nat_le (meeting_line (places_of e text)) (near_line (stops_of e text))) refl
  where
    by : (t : Bool) → nat_le (meeting_line (places_of e text)) (near_line (stops_of e text)) ≡ t → (if t then meeting_line (places_of e text) else near_line (stops_of e text)) ≡ line
    by true h = absurd (let low : meeting_line (places_of e text) ≤ near_line (stops_of e text) = grind (arith, nat_tests, h) in omega (arith, low, near, small))
    by false h = near

-- ---- how many texts units have

sums_alike : (us : List FoundUnit) → sum_by (λ (one : FoundUnit). texts_in one.unit) us ≡ sum_by texts_in (trees_in us)
sums_alike [] = refl
sums_alike (u ∷ us) = sum_by-cons (λ (one : FoundUnit). texts_in one.unit) u us ∙ ap (λ n. texts_in u.unit + n) (sums_alike us) ∙ sym (sum_by-cons texts_in u.unit (trees_in us))

pub sums_are : (us : List FoundUnit) → sum_by (λ (one : FoundUnit). texts_in one.unit) us ≡ sum_by texts_in (trees_in us)
sums_are us = sums_alike us

-- ---- the item of a held list

-- a unit begins above the end
begins_below : (e : EntityTable) (lines : List (List ℕ)) (before : List FoundUnit) (one : FoundUnit) (back : List FoundUnit) → units e lines ≡ before ++ one ∷ back → one.begin < length lines
begins_below e lines before one back is =
    All-contains (λ b. b < length lines) (begins e lines) one.begin (begins_within e lines)
    (subst (λ bs. Contains bs one.begin) (sym (ap begins_in is ∙ map-append (λ (u : FoundUnit). u.begin) before (one ∷ back)))
    (Contains-append_right (begins_in before) (begins_in (one ∷ back)) one.begin (Contains-append_left (one.begin ∷ []) (begins_in back) one.begin (Contains-push [] one.begin))))

-- An item begins above its list's end, and the list ends within the text.
pub record ItemWithin (lines : List (List ℕ)) (u : HeldUnit) (k : ℕ) (one : FoundUnit) : Type 0 where
  pub above : (mark_at u.read.items k).line < u.read.lines
  pub inside : one.begin + u.read.lines ≤ length lines

pub item_within : (e : EntityTable) (lines : List (List ℕ)) (head : ℕ) (held : List HeldUnit) (i : ℕ) (u : HeldUnit) (h : HeldOne e lines head held i u) (k : ℕ) → k < length u.read.items
    → ItemWithin lines u k h.one
item_within e lines head held i u h k below =
    let is : (mark_at u.read.items k).line ≡ get_or (map item_line u.read.items) k 0 =
    ap item_line (unwrap_or-slice_get u.read.items k no_mark) ∙ sym (get_or-map item_line u.read.items k no_mark) in
    let own = own_lines lines h.one in
    let long = stands_long e (list_in u) own h.stands in
    let rows = own_items e lines head held i u h ∙ unit_marks e lines h.before h.one h.back h.is in
    let many = length-map u.read.items item_line in
    let size = ap (λ z. length z) rows in
    let small = All-get_or (λ j. j < length own) (joins e own) k 0 (omega (arith, below, many, size)) (joins_within e own) in
    let same = ap (λ ns. get_or ns k 0) rows in
    let a = length-drop h.one.begin (take (h.one.begin + h.one.lines) lines) in
    let c = length-take (h.one.begin + h.one.lines) lines in
    let lines_are = h.lines_are in
    record {
      above = omega (arith, small, same, is, long);
      inside = let b_small = begins_below e lines h.before h.one h.back h.is in grind (arith, a, c, long, b_small, lines_are);
    }

-- Reading stops in this line, and the item is where.
pub record StopsAt (e : EntityTable) (text : NewText) (held : List HeldUnit) (item : HeldItem) (line : ℕ) : Type 0 where
  pub near : near_line (stops_of e text) ≡ line
  pub small : near_line (stops_of e text) < meeting_line (places_of e text)
  pub inside : meeting_line (places_of e text) ≤ length (lines_of text)
  pub behind : text.at + length text.added.now ≤ near_line (stops_of e text)
  pub before : List FoundUnit
  pub one : FoundUnit
  pub back : List FoundUnit
  pub count : length before ≡ item.number
  pub holds : HoldsItem e (old_lines text) (old_line (places_of e text) (near_line (stops_of e text))) before one back (list_in item.unit.now) item.item
  pub above : (mark_in item).line < item.unit.now.read.lines
  pub within : item.unit.now.read.lines ≤ length (old_lines text)

both_true : (a b : Bool) → true ≡ (a && b) → b ≡ true
both_true true true h = refl
both_true true false h = cc
both_true false b h = cc

is_behind : (s : Stops) (line : ℕ) → is_near s line ≡ true → s.places.at + s.places.come ≤ line
is_behind s line h = by (nat_le (s.places.at + s.places.come) line) refl h
  where
    by : (t : Bool) → nat_le (s.places.at + s.places.come) line ≡ t → (t && list_any (nat_eq (old_line s.places line)) s.old_joins) ≡ true → s.places.at + s.places.come ≤ line
    by true k h = grind (arith, nat_tests, k)
    by false k h = cc

pub stops_at : (e : EntityTable) (text : NewText) (head : ℕ) (held : List HeldUnit) (limit : ℕ) (reader : ItemReading) (found : List FoundUnit) (line : ℕ) (item : HeldItem)
    → HoldsUnits e (old_lines text) head (map read_of held) → from_line (places_of e text) ≤ line → line < length (lines_of text) → line ≤ near_line (stops_of e text)
    → ReadAbove limit e (lines_of text) (places_of e text) reader found line → IsItemOf held item → IsItemAt (begins e (old_lines text)) (line_before (places_of e text) line) item
    → true ≡ (is_joined e (drop (from_line (places_of e text)) (take (line + 1) (lines_of text))) && is_near (stops_of e text) line) → StopsAt e text held item line
stops_at e text head held limit reader found line item w order below up_to above of at told = record {
  near = near;
  small = near_before e old new s (is_stop e text) (omega (arith, near, below)) (omega (arith, near, later));
  inside = meets_within e old new p (is_edit e text);
  behind = omega (arith, behind, near);
  before = h.before;
  one = h.one;
  back = h.back;
  count = h.count;
  holds = record {
    holds = record { is = h.is; low = omega (arith, place, near); high = let short = inside.above in omega (arith, place, near, short, lines_are) };
    lines = lines_are;
    stands = h.stands;
    within = of.1;
    item = place ∙ ap (old_line p) (sym near);
  };
  above = inside.above;
  within = let small = inside.inside in omega (arith, small);
}
  where
    old : List (List ℕ)
    old = old_lines text

    new : List (List ℕ)
    new = lines_of text

    p : Places
    p = places_of e text

    s : Stops
    s = stops_of e text

    u : HeldUnit
    u = item.unit.now

    h : HeldOne e old head held item.number u
    h = held_one e old head held item.number u w of.0

    lines_are : u.read.lines ≡ h.one.lines
    lines_are = h.lines_are

    inside : ItemWithin old u item.item h.one
    inside = item_within e old head held item.number u h item.item of.1

    later : line ≤ meeting_line p
    later = meets_later e old new p (is_edit e text) line (omega (arith, below)) above.none

    near : near_line s ≡ line
    near = let same = near_told e old new s (is_stop e text) line order below up_to ∙ sym told in grind (arith, nat_tests, same)

    behind : p.at + p.come ≤ line
    behind = is_behind s line (both_true (is_joined e (drop (from_line p) (take (line + 1) new))) (is_near s line) told)

    begun : slice_get (begins e old) item.number ≡ Some h.one.begin
    begun = begin_of_held e old head held item.number w (slice_get_within held item.number u of.0) ∙ ap (λ n. Some n) (sym h.begin)

    place : h.one.begin + (mark_in item).line ≡ old_line p line
    place =
        let there = subst (λ o. IfSome o (λ begin. begin + (mark_in item).line ≡ line_before p line)) begun at in
        there ∙ (let same : line_before p line ≡ old_line p line = omega (arith, behind) in same)
