-- A line of a level, by how it continues the last block.
use Rattle.std.proofs.Common.{Result, Ok, Err, OnOk, Box, Global, ◌≡◌, ℕ, suc, ◌+◌, Bool, true, false, not, ◌&&◌, ◌||◌, List, length, Option, None, is_some, refl, sym, ◌∙◌, ap, subst, arith}
use Rattle.std.proofs.Math.Bool.{or-true}
use Rattle.std.specs.Prelude.{nat_le}
use Rattle.mdtext.specs.EntityTable.{EntityTable}
use Rattle.mdscan.specs.declared.list_markers.Marker.{Marker}
use Rattle.blockspec.specs.BlockLine.{BlockLine, indentation, without_columns, as_lazy}
use Rattle.blockspec.specs.BlankLines.{is_blank_line}
use Rattle.blockspec.specs.BlockKinds.{Container, Quote, Item, Kind, Holds, Paragraph, FencedCode, IndentedCode, HtmlBlock}
use Rattle.blockspec.specs.BlockStart.{begun}
use Rattle.blockspec.specs.ContainerLines.{matches, taken_off, inside_where, inside, opened}
use Rattle.blockspec.specs.Laziness.{is_verbatim, continues_lazily}
use Rattle.blockspec.specs.LineSummary.{Summary, summary, Last, nothing_yet, ended_block, open_leaf, open_container, no_summary, last_in, last_tip, summary_tip, begin_after, line_added, is_apart_after, mark_of, part_mark}
use Rattle.blockspec.specs.Lists.{Part, Leaves, Quoted, Listed, Group}
use Rattle.blockspec.specs.OpenLeaf.{open_tip, leaf_from, OpenLeaf, open_table}
use Rattle.blockspec.specs.SummaryDepth.{sinks}
use Rattle.blockspec.specs.UnitBegin.{list_mark, same_mark}
use Rattle.mdblock.specs.held.HeldLevel.{is_list, CellsStand, StandsForList, behind_over, StandsFor, StandsForLast, HasGathered, IsLazyRight}
use Rattle.mdblock.specs.held.HeldNodes.{handed_nodes, closed_nodes}
use Rattle.mdblock.specs.held.LevelSteps.{MarksBlank, IsAllOver, HasRestOf, IsQuoteOf, IsListOf, IsInside, is_content, IsVerbatim, WasBlank, gap_behind, AddsButBlank, GrowsLeaf, EndsAll, BeginsApart, BeginsBehind, BeginsItem, EntersItem}
use Rattle.mdblock.specs.held.LinesAdded.{InOpen, IsTakenOff, ContinuesLast, ContinuesLevel, IsAdded, IsFollowed, AddsLine, SinksLine}
use Rattle.mdblock.specs.held.OpenLeaves.{IsLeafOf}
use Rattle.mdblock.specs.declared.container.list_items.Entry.{Entry}
use Rattle.mdblock.specs.declared.container.list_items.Entry.TheVariants as entry
use Rattle.mdblock.specs.declared.container.lists.OpenList.{OpenList}
use Rattle.mdblock.specs.declared.gathering.Gathering.{Gathering}
use Rattle.mdblock.specs.declared.leaf.Leaf as held
use Rattle.mdblock.specs.declared.leaf.Leaf.TheVariants as leaf
use Rattle.mdblock.specs.declared.block_starts.BlockStart.{BlockStart}
use Rattle.mdblock.specs.declared.open_blocks.Continuation.{Continuation}
use Rattle.mdblock.specs.declared.open_blocks.Continuation.TheVariants as continuation
use Rattle.mdblock.specs.declared.open_blocks.Level.{Level}
use Rattle.mdblock.specs.declared.open_blocks.OpenBlock.{OpenBlock}
use Rattle.mdblock.specs.declared.open_blocks.OpenBlock as open_block
use Rattle.mdblock.proofs.LevelBlanks.{was_blank, quoted_full}
use Rattle.mdblock.proofs.LevelGoes.{GoesInside, quote_added, quote_sunk}
use Rattle.mdblock.proofs.LevelItems.{item_added, item_sunk, between_added, next_added, next_sunk}
use Rattle.mdblock.proofs.LevelLines.{apart_added, apart_sinks, added_blank, is_last_blank}

-- ---- a line that the open container matches

-- a line with a marker or the columns of the open container goes on with it
pub matched_inside : (b : ℕ) (gap bare : Bool) (c : Container) (i : Summary) (l : BlockLine) → matches c l ≡ true → is_blank_line l ≡ false → (is_apart_after (open_container b gap bare c i) l ≡ false) × (inside c l ≡ taken_off c l)
unfolding is_apart_after inside
matched_inside b gap bare c i l m full = (go (matches c l) bare (is_blank_line l) m full, ap (λ z. inside_where z c l) m)
  where
    go : (m bare blank : Bool) → m ≡ true → blank ≡ false → not ((m && not (bare && blank)) || continues_lazily (summary_tip i) l) ≡ false
    go true true false e f = refl
    go true false false e f = refl
    go false bare blank e f = absurd (let x : ⊥ = cc in x)
    go true bare true e f = absurd (let x : ⊥ = cc in x)

-- of what stands for the last block
quote_last : (e : EntityTable) (at : ℕ) (inner : Box Level Global) (groups : List Group) (last : Last) (P : Last → Type 0) → ((b : ℕ) (gap bare : Bool) (i : Summary) → P (open_container b gap bare Quote i)) →
    StandsForLast e at (open_block.Quote inner) groups last → P last
quote_last e at inner groups nothing_yet P f st = absurd st
quote_last e at inner groups (ended_block g) P f st = absurd st
quote_last e at inner groups (open_leaf b gap leaf) P f st = absurd st
quote_last e at inner groups (open_container b gap bare Quote i) P f st = f b gap bare i
quote_last e at inner groups (open_container b gap bare (Item m needed) i) P f st = absurd st

pub quote_matched : (level : Level) (inner : Box Level Global) (l : BlockLine) → level.last ≡ open_block.Quote inner → matches Quote l ≡ true →
    (e : EntityTable) (at : ℕ) (in_item : Bool) (s : Summary) → StandsFor e at in_item level s → GoesInside s l (taken_off Quote l)
quote_matched level inner l is m e at in_item (summary groups last was lines) st =
    quote_last e (behind_over e at in_item groups last) inner groups last (λ z. GoesInside (summary groups z was lines) l (taken_off Quote l))
    (λ b gap bare i. matched_inside b gap bare Quote i l m (quoted_full l m)) (subst (λ z. StandsForLast e (behind_over e at in_item groups last) z groups last) is st.1)

and_left : (a b : Bool) → (a && b) ≡ true → a ≡ true
and_left true b h = refl
and_left false b h = absurd (let x : ⊥ = cc in x)

and_right : (a b : Bool) → (a && b) ≡ true → b ≡ true
and_right true b h = h
and_right false b h = absurd (let x : ⊥ = cc in x)

not_off : (b : Bool) → not b ≡ true → b ≡ false
not_off false h = refl
not_off true h = absurd (let x : ⊥ = cc in x)

item_matches : (m : Marker) (needed : ℕ) (l : BlockLine) → l.lazy ≡ false → nat_le needed (indentation l) ≡ true → matches (Item m needed) l ≡ true
unfolding matches
item_matches m needed l z n = ap (λ y. not y && (is_blank_line l || nat_le needed (indentation l))) z ∙ ap (λ y. is_blank_line l || y) n ∙ or-true (is_blank_line l)

ended_open : (at : ℕ) (list : OpenList) (groups : List Group) (gap : Bool) (p : Part) → StandsForList at list groups gap p → list.item_open ≡ true → ⊥
ended_open at list groups gap (Leaves leaves) st h = st
ended_open at list groups gap (Quoted nodes) st h = st
ended_open at list groups gap (Listed kind t items) st h = let c = st.0 in let x : ⊥ = cc in x

pub item_matched : (level : Level) (inner : Box Level Global) (list : OpenList) (l : BlockLine) → level.last ≡ open_block.List inner list → (list.item_open && not l.lazy && not (is_blank_line l) && nat_le list.needed (indentation l)) ≡ true →
    (e : EntityTable) (at : ℕ) (in_item : Bool) (s : Summary) → StandsFor e at in_item level s → GoesInside s l (without_columns l list.needed)
item_matched level inner list l is m e at in_item (summary groups last was lines) st = go last (subst (λ z. StandsForLast e (behind_over e at in_item groups last) z groups last) is st.1)
  where
    opened_first : (list.item_open && not l.lazy && not (is_blank_line l)) ≡ true
    opened_first = and_left (list.item_open && not l.lazy && not (is_blank_line l)) (nat_le list.needed (indentation l)) m

    lazy : l.lazy ≡ false
    lazy = not_off l.lazy (and_right list.item_open (not l.lazy) (and_left (list.item_open && not l.lazy) (not (is_blank_line l)) opened_first))

    full : is_blank_line l ≡ false
    full = not_off (is_blank_line l) (and_right (list.item_open && not l.lazy) (not (is_blank_line l)) opened_first)

    open_now : list.item_open ≡ true
    open_now = and_left list.item_open (not l.lazy) (and_left (list.item_open && not l.lazy) (not (is_blank_line l)) opened_first)

    enough : nat_le list.needed (indentation l) ≡ true
    enough = and_right (list.item_open && not l.lazy && not (is_blank_line l)) (nat_le list.needed (indentation l)) m

    go : (last : Last) → StandsForLast e (behind_over e at in_item groups last) (open_block.List inner list) groups last → GoesInside (summary groups last was lines) l (without_columns l list.needed)
    go nothing_yet st = absurd st
    go (ended_block g) st = absurd (ended_open _ list groups g.gap g.part st.0 open_now)
    go (open_leaf b gap leaf) st = absurd st
    go (open_container b gap bare Quote i) st = absurd st
    go (open_container b gap bare (Item mk needed) (summary bs k bl n)) st =
        let i = summary bs k bl n in
        let found = matched_inside b gap bare (Item mk needed) i l (item_matches mk needed l lazy (ap (λ z. nat_le z (indentation l)) (sym st.1) ∙ enough)) full in
        (found.0, found.1 ∙ ap (without_columns l) (sym st.1))

-- ---- the mark of a blank line

pub with_blank : (P : Level → Type 0) (new : Level) (b : Bool) → new.blank ≡ b → P (record new { blank = b }) → P new
with_blank P new b h p = subst (λ z. P (record new { blank = z })) (sym h) p

no_gap : (s : Summary) → is_last_blank s ≡ false → false ≡ gap_behind s
no_gap (summary before last blank lines) h = ap (λ z. z && not (is_verbatim (last_tip last))) (sym h)

full_gap : (e : EntityTable) (room : ℕ) (s : Summary) (l : BlockLine) → is_blank_line l ≡ false → false ≡ gap_behind (line_added e (suc room) s l)
full_gap e room s l h = no_gap (line_added e (suc room) s l) (added_blank e room s l ∙ h)

-- ---- a line with the marker or the columns of the open container

pub quote_follows : (room less : ℕ) (level new : Level) (inner : Box Level Global) (inner_new : Level) (before after : Gathering) (l il : BlockLine) → less + 1 ≡ room → level.last ≡ open_block.Quote inner → matches Quote l ≡ true → il ≡ opened Quote l →
    AddsLine less inner.value before il inner_new after → new.over ≡ level.over → HasRestOf level new → new.blank ≡ false → IsQuoteOf inner_new new.last → AddsLine room level before l new after
unfolding opened
quote_follows room less level new inner inner_new before after l il n is m opens adds over marks blank held =
    let same : suc less ≡ room = omega (arith, n) in
    let all : AddsLine (suc less) level before l new after = λ in_item s texts definitions r.
    let g = quote_matched level inner l is m before.entities.now (length texts) in_item s r.1 in
    with_blank (λ z. IsAdded before.entities.now (suc less) in_item s texts definitions l z after) new false blank
    (quote_added less level new inner inner_new before after l il is adds over marks held in_item s texts definitions r (subst (GoesInside s l) (sym opens) g) false (full_gap before.entities.now (suc less) s l (quoted_full l m))) in
    subst (λ z. AddsLine z level before l new after) same all

pub quote_is_followed : (level : Level) (inner : Box Level Global) (l : BlockLine) → level.last ≡ open_block.Quote inner → matches Quote l ≡ true → IsFollowed level l
quote_is_followed level inner l is m entities at in_item s st = (quote_matched level inner l is m entities at in_item s st).0

pub quote_sinks : (room less : ℕ) (level : Level) (inner : Box Level Global) (before : Gathering) (l il : BlockLine) → less + 1 ≡ room → level.last ≡ open_block.Quote inner → matches Quote l ≡ true → il ≡ opened Quote l →
    SinksLine less inner.value before il → SinksLine room level before l
unfolding opened
quote_sinks room less level inner before l il n is m opens deep =
    let same : suc less ≡ room = omega (arith, n) in
    subst (λ z. SinksLine z level before l) same (λ in_item s texts definitions r. quote_sunk less level inner before l il is deep in_item s texts definitions r (subst (GoesInside s l) (sym opens) (quote_matched level inner l is m before.entities.now (length texts) in_item s r.1)))

abbrev pub has_columns : OpenList → BlockLine → Bool
has_columns list l = list.item_open && not l.lazy && not (is_blank_line l) && nat_le list.needed (indentation l)

columns_full : (list : OpenList) (l : BlockLine) → has_columns list l ≡ true → is_blank_line l ≡ false
columns_full list l m =
    not_off (is_blank_line l) (and_right (list.item_open && not l.lazy) (not (is_blank_line l)) (and_left (list.item_open && not l.lazy && not (is_blank_line l)) (nat_le list.needed (indentation l)) m))

pub item_follows : (room less : ℕ) (level new : Level) (inner : Box Level Global) (list : OpenList) (inner_new : Level) (before after : Gathering) (l il : BlockLine) → less + 1 ≡ room → level.last ≡ open_block.List inner list → has_columns list l ≡ true → il ≡ without_columns l list.needed →
    AddsLine less inner.value before il inner_new after → new.over ≡ level.over → HasRestOf level new → new.blank ≡ false → IsListOf inner_new list new.last → AddsLine room level before l new after
item_follows room less level new inner list inner_new before after l il n is m opens adds over marks blank held =
    let same : suc less ≡ room = omega (arith, n) in
    let all : AddsLine (suc less) level before l new after = λ in_item s texts definitions r.
    let g = item_matched level inner list l is m before.entities.now (length texts) in_item s r.1 in
    with_blank (λ z. IsAdded before.entities.now (suc less) in_item s texts definitions l z after) new false blank
    (item_added less level new inner list inner_new before after l il is adds over marks held in_item s texts definitions r (subst (GoesInside s l) (sym opens) g) false (full_gap before.entities.now (suc less) s l (columns_full list l m))) in
    subst (λ z. AddsLine z level before l new after) same all

pub item_is_followed : (level : Level) (inner : Box Level Global) (list : OpenList) (l : BlockLine) → level.last ≡ open_block.List inner list → has_columns list l ≡ true → IsFollowed level l
item_is_followed level inner list l is m entities at in_item s st = (item_matched level inner list l is m entities at in_item s st).0

pub item_sinks : (room less : ℕ) (level : Level) (inner : Box Level Global) (list : OpenList) (before : Gathering) (l il : BlockLine) → less + 1 ≡ room → level.last ≡ open_block.List inner list → has_columns list l ≡ true → il ≡ without_columns l list.needed →
    SinksLine less inner.value before il → SinksLine room level before l
item_sinks room less level inner list before l il n is m opens deep =
    let same : suc less ≡ room = omega (arith, n) in
    subst (λ z. SinksLine z level before l) same (λ in_item s texts definitions r. item_sunk less level inner list before l il is deep in_item s texts definitions r (subst (GoesInside s l) (sym opens) (item_matched level inner list l is m before.entities.now (length texts) in_item s r.1)))

-- ---- whether a blank line is content

pub shut_verbatim : (x : OpenBlock) → x ≡ open_block.Shut → IsVerbatim x false
unfolding last_tip
shut_verbatim x is e at groups last st w = go last (subst (λ z. StandsForLast e at z groups last) is st)
  where
    go : (last : Last) → StandsForLast e at open_block.Shut groups last → false ≡ is_verbatim (last_tip last)
    go nothing_yet st = refl
    go (ended_block g) st = refl
    go (open_leaf b gap leaf) st = absurd st
    go (open_container b gap bare Quote i) st = absurd st
    go (open_container b gap bare (Item m needed) i) st = absurd st

content_tip : (e : EntityTable) (at : ℕ) (x : held.Leaf) (kind : Kind) (first : BlockLine) (later : List BlockLine) → IsLeafOf e x kind first later → CellsStand at x (leaf_from kind first later) → is_content x ≡ is_verbatim (open_tip (leaf_from kind first later))
unfolding leaf_from
content_tip e at (leaf.Paragraph p) Paragraph first later h cells = refl
content_tip e at (leaf.Fence f) (FencedCode i m n info closed) first later h cells = refl
content_tip e at (leaf.Html f) (HtmlBlock kind) first later h cells = refl
content_tip e at (leaf.Code f) IndentedCode first later h cells = refl
content_tip e at (leaf.Table t) kind first later h cells = go (leaf_from kind first later) cells
  where
    go : (kept : OpenLeaf) → CellsStand at (leaf.Table t) kept → false ≡ is_verbatim (open_tip kept)
    go (open_table above aligns head rows) cells = refl
    go kept cells = absurd cells
content_tip e at x kind first later h cells = absurd h

pub leaf_verbatim : (x : OpenBlock) (f : held.Leaf) → x ≡ open_block.Leaf f → IsVerbatim x (is_content f)
unfolding last_tip
leaf_verbatim x f is e at groups last st w = go last (subst (λ z. StandsForLast e at z groups last) is st)
  where
    go : (last : Last) → StandsForLast e at (open_block.Leaf f) groups last → is_content f ≡ is_verbatim (last_tip last)
    go nothing_yet st = absurd st
    go (ended_block g) st = absurd st
    go (open_leaf b gap kept) st = content_tip e at f st.kind st.first st.later st.held_is (subst (CellsStand at f) st.kept_is st.cells) ∙ ap (λ z. is_verbatim (open_tip z)) (sym st.kept_is)
    go (open_container b gap bare Quote i) st = absurd st
    go (open_container b gap bare (Item m needed) i) st = absurd st

pub quote_verbatim : (x : OpenBlock) (inner : Box Level Global) → x ≡ open_block.Quote inner → IsVerbatim x false
quote_verbatim x inner is e at groups last st w =
    quote_last e at inner groups last (λ z. WasBlank z → false ≡ is_verbatim (last_tip z)) (λ b gap bare i w. absurd w) (subst (λ z. StandsForLast e at z groups last) is st) w

pub open_verbatim : (x : OpenBlock) (inner : Box Level Global) (list : OpenList) → x ≡ open_block.List inner list → list.item_open ≡ true → IsVerbatim x (not inner.value.blank)
unfolding last_tip summary_tip
open_verbatim x inner list is opened e at groups last st w = go last (subst (λ z. StandsForLast e at z groups last) is st) w
  where
    not_and : (gap blank v : Bool) → gap ≡ (blank && not v) → blank ≡ true → not gap ≡ v
    not_and gap true true g b = ap not g
    not_and gap true false g b = ap not g
    not_and gap false v g b = absurd (let x : ⊥ = cc in x)

    go : (last : Last) → StandsForLast e at (open_block.List inner list) groups last → WasBlank last → not inner.value.blank ≡ is_verbatim (last_tip last)
    go nothing_yet st w = absurd st
    go (ended_block g) st w = absurd (ended_open _ list groups g.gap g.part st.0 opened)
    go (open_leaf b gap kept) st w = absurd st
    go (open_container b gap bare Quote i) st w = absurd st
    go (open_container b gap bare (Item m needed) (summary bs k blank n)) st w = not_and inner.value.blank blank (is_verbatim (last_tip k)) st.4.3 w

pub ended_verbatim : (x : OpenBlock) (inner : Box Level Global) (list : OpenList) → x ≡ open_block.List inner list → list.item_open ≡ false → IsVerbatim x false
unfolding last_tip
ended_verbatim x inner list is shut e at groups last st w = go last (subst (λ z. StandsForLast e at z groups last) is st)
  where
    go : (last : Last) → StandsForLast e at (open_block.List inner list) groups last → false ≡ is_verbatim (last_tip last)
    go nothing_yet st = absurd st
    go (ended_block g) st = refl
    go (open_leaf b gap kept) st = absurd st
    go (open_container b gap bare Quote i) st = absurd st
    go (open_container b gap bare (Item m needed) (summary bs k blank n)) st = absurd (let o = st.0 in let x : ⊥ = cc in x)

-- The level is right with its mark of a blank line.
pub but_blank : (room : ℕ) (level mid new : Level) (before after : Gathering) (l : BlockLine) (v : Bool) → AddsButBlank room level before l mid after → IsVerbatim mid.last v → new ≡ record mid { blank = is_blank_line l && not v } → AddsLine room level before l new after
but_blank room level mid new before after l v adds verbatim is in_item s texts definitions r =
    let e = before.entities.now in
    let S = line_added e (suc room) s l in
    let first = adds in_item s texts definitions r (gap_behind S) refl in
    let right = mark S (is_blank_line l) refl (added_blank e room s l) (λ b. was_blank e room s l r.2 r.3 b) first.2 in
    subst (λ z. IsAdded e room in_item s texts definitions l z after) (sym is) (adds in_item s texts definitions r (is_blank_line l && not v) right)
  where
    mark : (S : Summary) (blank : Bool) → is_blank_line l ≡ blank → is_last_blank S ≡ is_blank_line l → (is_blank_line l ≡ true → WasBlank (last_in S)) → StandsFor before.entities.now (length texts) in_item (record mid { blank = gap_behind S }) S →
        (is_blank_line l && not v) ≡ gap_behind S
    mark (summary bs k bl n) true e b w st = ap (λ z. is_blank_line l && not z) (verbatim before.entities.now _ bs k st.1 (w e)) ∙ ap (λ z. z && not (is_verbatim (last_tip k))) (sym b)
    mark (summary bs k bl n) false e b w st = ap (λ z. z && not v) e ∙ ap (λ z. z && not (is_verbatim (last_tip k))) (sym (b ∙ e))

-- ---- no block goes on

pub outside_adds : (room : ℕ) (level mid new : Level) (before between after : Gathering) (l : BlockLine) (opening : Option BlockStart) → EndsAll level before mid between → between.entities.now ≡ before.entities.now → ContinuesLevel level l (continuation.Outside opening) →
    BeginsBehind room mid between l new after → sinks room no_summary l ≡ false → AddsLine room level before l new after
outside_adds room level mid new before between after l opening ends entities continues begins fits in_item s texts definitions r =
    let e = before.entities.now in
    let c = continues e (length texts) in_item s r.1 r.2 in
    let ended = ends in_item s texts definitions r.0 r.1 in
    let begun_at = subst (λ z. HasGathered between texts definitions (closed_nodes z in_item s) → IsAllOver z (length texts) in_item mid s → BeginsApart (last_in s) l →
    HasGathered after texts definitions (handed_nodes z in_item (begin_after z (line_added z room) (is_blank_line l) s l)) × StandsFor z (length texts) in_item new (begin_after z (line_added z room) (is_blank_line l) s l)) entities (begins in_item s texts definitions) in
    let done = begun_at ended.0 ended.1 (c.1, c.2) in
    let added = sym (apart_added e room s l c.0) in
    (apart_sinks room s l c.0 ∙ fits, subst (λ z. HasGathered after texts definitions (handed_nodes e in_item z)) added done.0, subst (λ z. StandsFor e (length texts) in_item new z) added done.1)

pub outside_sinks : (room : ℕ) (level : Level) (before : Gathering) (l : BlockLine) (opening : Option BlockStart) → sinks room no_summary l ≡ true → ContinuesLevel level l (continuation.Outside opening) → SinksLine room level before l
outside_sinks room level before l opening deep continues in_item s texts definitions r = apart_sinks room s l (continues before.entities.now (length texts) in_item s r.1 r.2).0 ∙ deep

-- ---- the last block goes on

-- Only a list has a line between its items, or a next item.
no_list_goes : (last : Last) (l : BlockLine) (c : Continuation) → mark_of last ≡ None → IsInside c → ContinuesLast last l c → is_apart_after last l ≡ false
no_list_goes last l continuation.Matched m i h = h.0
no_list_goes last l (continuation.Underlines level) m i h = h.0
no_list_goes last l continuation.Delimits m i h = h.0
no_list_goes last l continuation.Lazy m i h = h.0
no_list_goes last l continuation.Between m i h = absurd (let k = ap is_some m in let p = h.2 in let x : ⊥ = cc in x)
no_list_goes last l (continuation.Next marker) m i h = absurd (let k = ap (λ z. same_mark z (list_mark (begun l))) m in let p = h.3 in let x : ⊥ = cc in x)
no_list_goes last l (continuation.Outside opening) m i h = absurd i

pub shut_goes : (room : ℕ) (level : Level) (before : Gathering) (l : BlockLine) (c : Continuation) → level.last ≡ open_block.Shut → IsInside c → ContinuesLevel level l c → AddsButBlank room level before l level before
unfolding is_apart_after mark_of
shut_goes room level before l c is inside_c continues in_item (summary groups last was lines) texts definitions r blank q =
    absurd (go last (subst (λ z. StandsForLast before.entities.now (behind_over before.entities.now (length texts) in_item groups last) z groups last) is r.1.1) (continues before.entities.now (length texts) in_item (summary groups last was lines) r.1 r.2))
  where
    no_part : (p : Part) → is_list p ≡ false → part_mark p ≡ None
    no_part (Leaves leaves) h = refl
    no_part (Quoted nodes) h = refl
    no_part (Listed kind t items) h = absurd (let x : ⊥ = cc in x)

    go : (last : Last) → StandsForLast before.entities.now (behind_over before.entities.now (length texts) in_item groups last) open_block.Shut groups last → ContinuesLast last l c → ⊥
    go nothing_yet st h = let a = no_list_goes nothing_yet l c refl inside_c h in let x : ⊥ = cc in x
    go (ended_block g) st h = let a = no_list_goes (ended_block g) l c (no_part g.part st) inside_c h in let x : ⊥ = cc in x
    go (open_leaf b gap leaf) st h = st
    go (open_container b gap bare Quote i) st h = st
    go (open_container b gap bare (Item m needed) i) st h = st

pub leaf_goes_on : (room : ℕ) (level new : Level) (x : held.Leaf) (before after : Gathering) (l : BlockLine) (c : Continuation) → level.last ≡ open_block.Leaf x → IsInside c → ContinuesLevel level l c → GrowsLeaf level before l new after → AddsButBlank room level before l new after
unfolding mark_of
leaf_goes_on room level new x before after l c is inside_c continues grows in_item (summary groups last was lines) texts definitions r blank q =
    grows room in_item (summary groups last was lines) texts definitions r
    (go last (subst (λ z. StandsForLast before.entities.now (behind_over before.entities.now (length texts) in_item groups last) z groups last) is r.1.1) (continues before.entities.now (length texts) in_item (summary groups last was lines) r.1 r.2)) blank q
  where
    go : (last : Last) → StandsForLast before.entities.now (behind_over before.entities.now (length texts) in_item groups last) (open_block.Leaf x) groups last → ContinuesLast last l c → is_apart_after last l ≡ false
    go nothing_yet st h = absurd st
    go (ended_block g) st h = absurd st
    go (open_leaf b gap leaf) st h = no_list_goes (open_leaf b gap leaf) l c refl inside_c h
    go (open_container b gap bare Quote i) st h = absurd st
    go (open_container b gap bare (Item m needed) i) st h = absurd st

quote_lazy : (b : ℕ) (gap bare : Bool) (i : Summary) (l : BlockLine) (c : Continuation) → IsInside c → ContinuesLast (open_container b gap bare Quote i) l c → (is_apart_after (open_container b gap bare Quote i) l ≡ false) × (inside Quote l ≡ as_lazy l)
unfolding mark_of
quote_lazy b gap bare i l continuation.Matched w h = absurd h.1
quote_lazy b gap bare i l (continuation.Underlines level) w h = absurd h.1
quote_lazy b gap bare i l continuation.Delimits w h = absurd h.1
quote_lazy b gap bare i l continuation.Lazy w h = h
quote_lazy b gap bare i l continuation.Between w h = absurd (let p = h.2 in let x : ⊥ = cc in x)
quote_lazy b gap bare i l (continuation.Next marker) w h = absurd (let p = h.3 in let x : ⊥ = cc in x)
quote_lazy b gap bare i l (continuation.Outside opening) w h = absurd w

quote_continues : (level : Level) (inner : Box Level Global) (l : BlockLine) (c : Continuation) → level.last ≡ open_block.Quote inner → IsInside c → ContinuesLevel level l c →
    (e : EntityTable) (at : ℕ) (in_item : Bool) (s : Summary) → StandsFor e at in_item level s → IsLazyRight s l → GoesInside s l (as_lazy l)
quote_continues level inner l c is w continues e at in_item (summary groups last was lines) st right =
    quote_last e (behind_over e at in_item groups last) inner groups last (λ z. ContinuesLast z l c → GoesInside (summary groups z was lines) l (as_lazy l)) (λ b gap bare i h. quote_lazy b gap bare i l c w h)
    (subst (λ z. StandsForLast e (behind_over e at in_item groups last) z groups last) is st.1) (continues e at in_item (summary groups last was lines) st right)

pub quote_goes_on : (room less : ℕ) (level new : Level) (inner : Box Level Global) (inner_new : Level) (before after : Gathering) (l : BlockLine) (c : Continuation) → less + 1 ≡ room → level.last ≡ open_block.Quote inner → IsInside c → ContinuesLevel level l c →
    AddsLine less inner.value before (as_lazy l) inner_new after → new.over ≡ level.over → HasRestOf level new → IsQuoteOf inner_new new.last → AddsButBlank room level before l new after
quote_goes_on room less level new inner inner_new before after l c n is w continues adds over marks held =
    let same : suc less ≡ room = omega (arith, n) in
    let all : AddsButBlank (suc less) level before l new after = λ in_item s texts definitions r blank q.
    quote_added less level new inner inner_new before after l (as_lazy l) is adds over marks held in_item s texts definitions r (quote_continues level inner l c is w continues before.entities.now (length texts) in_item s r.1 r.2) blank q in
    subst (λ z. AddsButBlank z level before l new after) same all

pub quote_lazy_sinks : (room less : ℕ) (level : Level) (inner : Box Level Global) (before : Gathering) (l : BlockLine) (c : Continuation) → less + 1 ≡ room → level.last ≡ open_block.Quote inner → IsInside c → ContinuesLevel level l c →
    SinksLine less inner.value before (as_lazy l) → SinksLine room level before l
quote_lazy_sinks room less level inner before l c n is w continues deep =
    let same : suc less ≡ room = omega (arith, n) in
    subst (λ z. SinksLine z level before l) same (λ in_item s texts definitions r. quote_sunk less level inner before l (as_lazy l) is deep in_item s texts definitions r (quote_continues level inner l c is w continues before.entities.now (length texts) in_item s r.1 r.2))

-- ---- a list goes on

list_inside : (level : Level) (inner : Box Level Global) (list : OpenList) (l il : BlockLine) → level.last ≡ open_block.List inner list → (e : EntityTable) (at : ℕ) (in_item : Bool) (s : Summary) → StandsFor e at in_item level s →
    (is_apart_after (last_in s) l ≡ false) → ((m : Marker) (needed : ℕ) (b : ℕ) (gap bare : Bool) (i : Summary) → last_in s ≡ open_container b gap bare (Item m needed) i → list.needed ≡ needed → inside (Item m needed) l ≡ il) → GoesInside s l il
unfolding is_apart_after
list_inside level inner list l il is e at in_item (summary groups last was lines) st apart f = go last refl apart (subst (λ z. StandsForLast e (behind_over e at in_item groups last) z groups last) is st.1)
  where
    go : (k : Last) → last ≡ k → is_apart_after k l ≡ false → StandsForLast e (behind_over e at in_item groups k) (open_block.List inner list) groups k → GoesInside (summary groups k was lines) l il
    go nothing_yet same a st = absurd st
    go (ended_block g) same a st = absurd (let x : ⊥ = cc in x)
    go (open_leaf b gap leaf) same a st = absurd st
    go (open_container b gap bare Quote i) same a st = absurd st
    go (open_container b gap bare (Item m needed) (summary bs k bl n)) same a st = (a, f m needed b gap bare (summary bs k bl n) same st.1)

taken_in : (last : Last) (l : BlockLine) (m : Marker) (needed : ℕ) (b : ℕ) (gap bare : Bool) (i : Summary) → last ≡ open_container b gap bare (Item m needed) i → InOpen last (IsTakenOff l) → inside (Item m needed) l ≡ without_columns l needed
taken_in last l m needed b gap bare i is h = subst (λ z. InOpen z (IsTakenOff l)) is h

lazy_in : (last : Last) (l : BlockLine) (m : Marker) (needed : ℕ) (b : ℕ) (gap bare : Bool) (i : Summary) → last ≡ open_container b gap bare (Item m needed) i → InOpen last (λ c. inside c l ≡ as_lazy l) → inside (Item m needed) l ≡ as_lazy l
lazy_in last l m needed b gap bare i is h = subst (λ z. InOpen z (λ c. inside c l ≡ as_lazy l)) is h

-- what a line that is read in the open item does
pub record ReadsInside (level : Level) (inner : Box Level Global) (list : OpenList) (before : Gathering) (l : BlockLine) (new : Level) (new_list : OpenList) (after : Gathering) (il : BlockLine) : Type 0 where
  pub inner_is : new ≡ inner.value
  pub list_is : new_list ≡ list
  pub gathering_is : after ≡ before
  pub goes : (e : EntityTable) (at : ℕ) (in_item : Bool) (s : Summary) → StandsFor e at in_item level s → IsLazyRight s l → GoesInside s l il

pub list_reads : (level : Level) (inner : Box Level Global) (list : OpenList) (gap : Bool) (before : Gathering) (l : BlockLine) (new : Level) (new_list : OpenList) (after : Gathering) (il : BlockLine) (made : Entry) (c : Continuation) → level.last ≡ open_block.List inner list → IsInside c →
    ContinuesLevel level l c → EntersItem c inner.value list gap before l new new_list after il made → made ≡ entry.Goes → ReadsInside level inner list before l new new_list after il
list_reads level inner list gap before l new new_list after il made continuation.Matched is w continues enters goes = record {
  inner_is = enters.0.0;
  list_is = enters.0.1;
  gathering_is = enters.0.2;
  goes = λ e at in_item s st right. let h = continues e at in_item s st right in
      list_inside level inner list l il is e at in_item s st h.0 (λ m needed b g bare i same n. taken_in (last_in s) l m needed b g bare i same h.1 ∙ ap (without_columns l) (sym n) ∙ sym enters.2);
}
list_reads level inner list gap before l new new_list after il made (continuation.Underlines level') is w continues enters goes = record {
  inner_is = enters.0.0;
  list_is = enters.0.1;
  gathering_is = enters.0.2;
  goes = λ e at in_item s st right. let h = continues e at in_item s st right in
      list_inside level inner list l il is e at in_item s st h.0 (λ m needed b g bare i same n. taken_in (last_in s) l m needed b g bare i same h.1 ∙ ap (without_columns l) (sym n) ∙ sym enters.2);
}
list_reads level inner list gap before l new new_list after il made continuation.Delimits is w continues enters goes = record {
  inner_is = enters.0.0;
  list_is = enters.0.1;
  gathering_is = enters.0.2;
  goes = λ e at in_item s st right. let h = continues e at in_item s st right in
      list_inside level inner list l il is e at in_item s st h.0 (λ m needed b g bare i same n. taken_in (last_in s) l m needed b g bare i same h.1 ∙ ap (without_columns l) (sym n) ∙ sym enters.2);
}
list_reads level inner list gap before l new new_list after il made continuation.Lazy is w continues enters goes = record {
  inner_is = enters.0.0;
  list_is = enters.0.1;
  gathering_is = enters.0.2;
  goes = λ e at in_item s st right. let h = continues e at in_item s st right in
      list_inside level inner list l il is e at in_item s st h.0 (λ m needed b g bare i same n. lazy_in (last_in s) l m needed b g bare i same h.1 ∙ sym enters.2);
}
list_reads level inner list gap before l new new_list after il made continuation.Between is w continues enters goes = absurd (let a = enters.1 in let x : ⊥ = cc in x)
list_reads level inner list gap before l new new_list after il made (continuation.Next marker) is w continues enters goes = absurd (let a = enters.1 in let x : ⊥ = cc in x)
list_reads level inner list gap before l new new_list after il made (continuation.Outside opening) is w continues enters goes = absurd w

pub list_goes_on : (room less : ℕ) (level new : Level) (inner : Box Level Global) (list : OpenList) (mid_inner inner_new : Level) (mid_list : OpenList) (before mid after : Gathering) (l il : BlockLine) → less + 1 ≡ room → level.last ≡ open_block.List inner list →
    ReadsInside level inner list before l mid_inner mid_list mid il → AddsLine less mid_inner mid il inner_new after → new.over ≡ level.over → HasRestOf level new → IsListOf inner_new mid_list new.last → AddsButBlank room level before l new after
list_goes_on room less level new inner list mid_inner inner_new mid_list before mid after l il n is reads adds over marks held =
    let same : suc less ≡ room = omega (arith, n) in
    let adds' = subst (λ z. AddsLine less z before il inner_new after) reads.inner_is (subst (λ z. AddsLine less mid_inner z il inner_new after) reads.gathering_is adds) in
    let all : AddsButBlank (suc less) level before l new after = λ in_item s texts definitions r blank q.
    item_added less level new inner list inner_new before after l il is adds' over marks (subst (λ z. IsListOf inner_new z new.last) reads.list_is held) in_item s texts definitions r (reads.goes before.entities.now (length texts) in_item s r.1 r.2) blank q in
    subst (λ z. AddsButBlank z level before l new after) same all

pub list_inside_sinks : (room less : ℕ) (level : Level) (inner : Box Level Global) (list : OpenList) (mid_inner : Level) (mid_list : OpenList) (before mid : Gathering) (l il : BlockLine) → less + 1 ≡ room → level.last ≡ open_block.List inner list →
    ReadsInside level inner list before l mid_inner mid_list mid il → SinksLine less mid_inner mid il → SinksLine room level before l
list_inside_sinks room less level inner list mid_inner mid_list before mid l il n is reads deep =
    let same : suc less ≡ room = omega (arith, n) in
    let deep' = subst (λ z. SinksLine less z before il) reads.inner_is (subst (λ z. SinksLine less mid_inner z il) reads.gathering_is deep) in
    subst (λ z. SinksLine z level before l) same (λ in_item s texts definitions r. item_sunk less level inner list before l il is deep' in_item s texts definitions r (reads.goes before.entities.now (length texts) in_item s r.1 r.2))

pub list_stays : (room : ℕ) (level new : Level) (inner : Box Level Global) (list : OpenList) (gap : Bool) (new_inner : Level) (new_list : OpenList) (before after : Gathering) (l il : BlockLine) (made : Entry) (c : Continuation) → level.last ≡ open_block.List inner list → IsInside c →
    ContinuesLevel level l c → EntersItem c inner.value list gap before l new_inner new_list after il made → made ≡ entry.Stays → new.over ≡ level.over → HasRestOf level new → IsListOf new_inner new_list new.last → AddsButBlank room level before l new after
list_stays room level new inner list gap new_inner new_list before after l il made continuation.Matched is w continues enters stays over marks held = absurd (let a = enters.1 in let x : ⊥ = cc in x)
list_stays room level new inner list gap new_inner new_list before after l il made (continuation.Underlines level') is w continues enters stays over marks held = absurd (let a = enters.1 in let x : ⊥ = cc in x)
list_stays room level new inner list gap new_inner new_list before after l il made continuation.Delimits is w continues enters stays over marks held = absurd (let a = enters.1 in let x : ⊥ = cc in x)
list_stays room level new inner list gap new_inner new_list before after l il made continuation.Lazy is w continues enters stays over marks held = absurd (let a = enters.1 in let x : ⊥ = cc in x)
list_stays room level new inner list gap new_inner new_list before after l il made continuation.Between is w continues enters stays over marks held = λ in_item s texts definitions r blank q.
    let h = continues before.entities.now (length texts) in_item s r.1 r.2 in
    between_added room level new inner list new_inner new_list before after l is enters.0 over marks held in_item s texts definitions r (h.0, h.1) blank q
list_stays room level new inner list gap new_inner new_list before after l il made (continuation.Next marker) is w continues enters stays over marks held = absurd (let a = enters.1 in let x : ⊥ = cc in x)
list_stays room level new inner list gap new_inner new_list before after l il made (continuation.Outside opening) is w continues enters stays over marks held = absurd w

-- what the first line of the next item does
pub record BeginsNext (level : Level) (inner : Box Level Global) (list : OpenList) (before : Gathering) (l : BlockLine) (new : Level) (new_list : OpenList) (after : Gathering) (il : BlockLine) : Type 0 where
  pub marker : Marker
  pub begins : BeginsItem marker inner.value list level.blank before l new new_list after il
  pub goes : (e : EntityTable) (at : ℕ) (in_item : Bool) (s : Summary) → StandsFor e at in_item level s → IsLazyRight s l → ContinuesLast (last_in s) l (continuation.Next marker)

pub list_begins : (level : Level) (inner : Box Level Global) (list : OpenList) (before : Gathering) (l : BlockLine) (new : Level) (new_list : OpenList) (after : Gathering) (il : BlockLine) (made : Entry) (c : Continuation) → IsInside c →
    ContinuesLevel level l c → EntersItem c inner.value list level.blank before l new new_list after il made → made ≡ entry.Begins → BeginsNext level inner list before l new new_list after il
list_begins level inner list before l new new_list after il made continuation.Matched w continues enters goes = absurd (let a = enters.1 in let x : ⊥ = cc in x)
list_begins level inner list before l new new_list after il made (continuation.Underlines level') w continues enters goes = absurd (let a = enters.1 in let x : ⊥ = cc in x)
list_begins level inner list before l new new_list after il made continuation.Delimits w continues enters goes = absurd (let a = enters.1 in let x : ⊥ = cc in x)
list_begins level inner list before l new new_list after il made continuation.Lazy w continues enters goes = absurd (let a = enters.1 in let x : ⊥ = cc in x)
list_begins level inner list before l new new_list after il made continuation.Between w continues enters goes = absurd (let a = enters.1 in let x : ⊥ = cc in x)
list_begins level inner list before l new new_list after il made (continuation.Next marker) w continues enters goes = record { marker = marker; begins = enters.0; goes = λ e at in_item s st right. continues e at in_item s st right }
list_begins level inner list before l new new_list after il made (continuation.Outside opening) w continues enters goes = absurd w

pub list_goes_next : (room less : ℕ) (level new : Level) (inner : Box Level Global) (list : OpenList) (mid_inner inner_new : Level) (mid_list : OpenList) (before mid after : Gathering) (l il : BlockLine) → less + 1 ≡ room → level.last ≡ open_block.List inner list →
    BeginsNext level inner list before l mid_inner mid_list mid il → mid.entities.now ≡ before.entities.now → BeginsBehind less mid_inner mid il inner_new after → sinks less no_summary il ≡ false →
    new.over ≡ level.over → HasRestOf level new → IsListOf inner_new mid_list new.last → AddsButBlank room level before l new after
list_goes_next room less level new inner list mid_inner inner_new mid_list before mid after l il n is b entities begins fits over marks held =
    let same : suc less ≡ room = omega (arith, n) in
    let i = b.begins in
    let all : AddsButBlank (suc less) level before l new after = λ in_item s texts definitions r blank q.
    let h = b.goes before.entities.now (length texts) in_item s r.1 r.2 in
    next_added less level new inner list mid_inner inner_new i.ended before mid after l il b.marker i.needed is i.ends entities begins fits i.line_is over marks (subst (λ z. IsListOf inner_new z new.last) i.goes_on held)
    in_item s texts definitions r (h.0, h.1, h.2 ∙ ap Holds i.item_is, h.3) blank q in
    subst (λ z. AddsButBlank z level before l new after) same all

pub list_next_sinks : (room less : ℕ) (level : Level) (inner : Box Level Global) (list : OpenList) (mid_inner : Level) (mid_list : OpenList) (before mid : Gathering) (l il : BlockLine) → less + 1 ≡ room → BeginsNext level inner list before l mid_inner mid_list mid il →
    sinks less no_summary il ≡ true → SinksLine room level before l
list_next_sinks room less level inner list mid_inner mid_list before mid l il n b deep in_item s texts definitions r =
    let i = b.begins in
    let h = b.goes before.entities.now (length texts) in_item s r.1 r.2 in
    next_sunk room less l il b.marker i.needed s n h.0 (h.2 ∙ ap Holds i.item_is) i.line_is deep

-- ---- as the code goes on

pub on_both : {T E P Q R : Type 0} (r : Result T E) → (P → Q → R) → OnOk r P → OnOk r Q → OnOk r R
on_both (Ok x) f p q = f p q
on_both (Err e) f p q = tt

pub marked_blank : (room : ℕ) (level mid new : Level) (before after : Gathering) (l : BlockLine) (blank : Bool) → AddsButBlank room level before l mid after → blank ≡ is_blank_line l → MarksBlank mid blank new → AddsLine room level before l new after
marked_blank room level mid new before after l blank adds is marks = go (is_blank_line l) refl
  where
    go : (b : Bool) → is_blank_line l ≡ b → AddsLine room level before l new after
    go true e =
        let found = marks.0 (is ∙ e) in
        but_blank room level mid new before after l found.0 adds found.1 (found.2 ∙ ap (λ z. record mid { blank = z && not found.0 }) (sym e))
    go false e = λ in_item s texts definitions r.
        subst (λ z. IsAdded before.entities.now room in_item s texts definitions l z after) (sym (marks.1 (is ∙ e))) (adds in_item s texts definitions r false (full_gap before.entities.now room s l e))

-- a level with this last block
abbrev pub holding_quote : Level → Box Level Global → Level → Level
holding_quote level inner inner_new = record level { last = open_block.Quote (record inner { value = inner_new }) }

abbrev pub holding_list : Level → Box Level Global → Level → OpenList → Level
holding_list level inner inner_new list = record level { last = open_block.List (record inner { value = inner_new }) list }

pub quote_read : (room less : ℕ) (level : Level) (inner : Box Level Global) (got inner_new : Level) (before after : Gathering) (l il : BlockLine) (c : Continuation) → less + 1 ≡ room → level.last ≡ open_block.Quote inner → IsInside c → ContinuesLevel level l c →
    got ≡ inner.value → il ≡ as_lazy l → AddsLine less got before il inner_new after → AddsButBlank room level before l (holding_quote level inner inner_new) after
quote_read room less level inner got inner_new before after l il c n is w continues same lazy adds =
    let adds' = subst (λ z. AddsLine less z before (as_lazy l) inner_new after) same (subst (λ z. AddsLine less got before z inner_new after) lazy adds) in
    quote_goes_on room less level (holding_quote level inner inner_new) inner inner_new before after l c n is w continues adds' refl (refl, refl, refl) refl

pub quote_read_sinks : (room less : ℕ) (level : Level) (inner : Box Level Global) (got : Level) (before : Gathering) (l il : BlockLine) (c : Continuation) → less + 1 ≡ room → level.last ≡ open_block.Quote inner → IsInside c → ContinuesLevel level l c →
    got ≡ inner.value → il ≡ as_lazy l → SinksLine less got before il → SinksLine room level before l
quote_read_sinks room less level inner got before l il c n is w continues same lazy deep =
    quote_lazy_sinks room less level inner before l c n is w continues (subst (λ z. SinksLine less z before (as_lazy l)) same (subst (λ z. SinksLine less got before z) lazy deep))

pub quote_followed : (room less : ℕ) (level : Level) (inner : Box Level Global) (got inner_new : Level) (before after : Gathering) (l il : BlockLine) → less + 1 ≡ room → level.last ≡ open_block.Quote inner → matches Quote l ≡ true → got ≡ inner.value → il ≡ opened Quote l →
    AddsLine less got before il inner_new after → AddsLine room level before l (record (holding_quote level inner inner_new) { blank = false }) after
quote_followed room less level inner got inner_new before after l il n is m same opens adds =
    quote_follows room less level (record (holding_quote level inner inner_new) { blank = false }) inner inner_new before after l il n is m opens (subst (λ z. AddsLine less z before il inner_new after) same adds) refl (refl, refl, refl) refl refl

pub quote_followed_sinks : (room less : ℕ) (level : Level) (inner : Box Level Global) (got : Level) (before : Gathering) (l il : BlockLine) → less + 1 ≡ room → level.last ≡ open_block.Quote inner → matches Quote l ≡ true → got ≡ inner.value → il ≡ opened Quote l →
    SinksLine less got before il → SinksLine room level before l
quote_followed_sinks room less level inner got before l il n is m same opens deep = quote_sinks room less level inner before l il n is m opens (subst (λ z. SinksLine less z before il) same deep)

pub item_followed : (room less : ℕ) (level : Level) (inner : Box Level Global) (list : OpenList) (got inner_new : Level) (before after : Gathering) (l il : BlockLine) → less + 1 ≡ room → level.last ≡ open_block.List inner list → has_columns list l ≡ true → got ≡ inner.value →
    il ≡ without_columns l list.needed → AddsLine less got before il inner_new after → AddsLine room level before l (record (holding_list level inner inner_new list) { blank = false }) after
item_followed room less level inner list got inner_new before after l il n is m same opens adds =
    item_follows room less level (record (holding_list level inner inner_new list) { blank = false }) inner list inner_new before after l il n is m opens (subst (λ z. AddsLine less z before il inner_new after) same adds) refl (refl, refl, refl) refl (refl, refl)

pub item_followed_sinks : (room less : ℕ) (level : Level) (inner : Box Level Global) (list : OpenList) (got : Level) (before : Gathering) (l il : BlockLine) → less + 1 ≡ room → level.last ≡ open_block.List inner list → has_columns list l ≡ true → got ≡ inner.value →
    il ≡ without_columns l list.needed → SinksLine less got before il → SinksLine room level before l
item_followed_sinks room less level inner list got before l il n is m same opens deep = item_sinks room less level inner list before l il n is m opens (subst (λ z. SinksLine less z before il) same deep)

reads_of : (level : Level) (inner : Box Level Global) (list : OpenList) (was mid_inner : Level) (mid_list : OpenList) (before mid : Gathering) (l il : BlockLine) (made : Entry) (c : Continuation) → level.last ≡ open_block.List inner list → IsInside c → ContinuesLevel level l c →
    was ≡ inner.value → EntersItem c was list level.blank before l mid_inner mid_list mid il made → made ≡ entry.Goes → ReadsInside level inner list before l mid_inner mid_list mid il
reads_of level inner list was mid_inner mid_list before mid l il made c is w continues same enters goes =
    list_reads level inner list level.blank before l mid_inner mid_list mid il made c is w continues (subst (λ z. EntersItem c z list level.blank before l mid_inner mid_list mid il made) same enters) goes

pub list_read : (room less : ℕ) (level : Level) (inner : Box Level Global) (list : OpenList) (was mid_inner got inner_new : Level) (mid_list : OpenList) (before mid after : Gathering) (l il : BlockLine) (made : Entry) (c : Continuation) → less + 1 ≡ room →
    level.last ≡ open_block.List inner list → IsInside c → ContinuesLevel level l c → was ≡ inner.value → EntersItem c was list level.blank before l mid_inner mid_list mid il made → made ≡ entry.Goes → got ≡ mid_inner → AddsLine less got mid il inner_new after →
    AddsButBlank room level before l (holding_list level inner inner_new mid_list) after
list_read room less level inner list was mid_inner got inner_new mid_list before mid after l il made c n is w continues same enters goes got_is adds =
    list_goes_on room less level (holding_list level inner inner_new mid_list) inner list mid_inner inner_new mid_list before mid after l il n is (reads_of level inner list was mid_inner mid_list before mid l il made c is w continues same enters goes)
    (subst (λ z. AddsLine less z mid il inner_new after) got_is adds) refl (refl, refl, refl) (refl, refl)

pub list_read_sinks : (room less : ℕ) (level : Level) (inner : Box Level Global) (list : OpenList) (was mid_inner got : Level) (mid_list : OpenList) (before mid : Gathering) (l il : BlockLine) (made : Entry) (c : Continuation) → less + 1 ≡ room →
    level.last ≡ open_block.List inner list → IsInside c → ContinuesLevel level l c → was ≡ inner.value → EntersItem c was list level.blank before l mid_inner mid_list mid il made → made ≡ entry.Goes → got ≡ mid_inner → SinksLine less got mid il → SinksLine room level before l
list_read_sinks room less level inner list was mid_inner got mid_list before mid l il made c n is w continues same enters goes got_is deep =
    list_inside_sinks room less level inner list mid_inner mid_list before mid l il n is (reads_of level inner list was mid_inner mid_list before mid l il made c is w continues same enters goes) (subst (λ z. SinksLine less z mid il) got_is deep)

pub list_stayed : (room : ℕ) (level : Level) (inner : Box Level Global) (list : OpenList) (was mid_inner : Level) (mid_list : OpenList) (before after : Gathering) (l il : BlockLine) (made : Entry) (c : Continuation) →
    level.last ≡ open_block.List inner list → IsInside c → ContinuesLevel level l c → was ≡ inner.value → EntersItem c was list level.blank before l mid_inner mid_list after il made → made ≡ entry.Stays → AddsButBlank room level before l (holding_list level inner mid_inner mid_list) after
list_stayed room level inner list was mid_inner mid_list before after l il made c is w continues same enters stays =
    list_stays room level (holding_list level inner mid_inner mid_list) inner list level.blank mid_inner mid_list before after l il made c is w continues (subst (λ z. EntersItem c z list level.blank before l mid_inner mid_list after il made) same enters) stays refl (refl, refl, refl) (refl, refl)

begins_of : (level : Level) (inner : Box Level Global) (list : OpenList) (was mid_inner : Level) (mid_list : OpenList) (before mid : Gathering) (l il : BlockLine) (made : Entry) (c : Continuation) → IsInside c → ContinuesLevel level l c →
    was ≡ inner.value → EntersItem c was list level.blank before l mid_inner mid_list mid il made → made ≡ entry.Begins → BeginsNext level inner list before l mid_inner mid_list mid il
begins_of level inner list was mid_inner mid_list before mid l il made c w continues same enters goes =
    list_begins level inner list before l mid_inner mid_list mid il made c w continues (subst (λ z. EntersItem c z list level.blank before l mid_inner mid_list mid il made) same enters) goes

pub list_begun : (room less : ℕ) (level : Level) (inner : Box Level Global) (list : OpenList) (was mid_inner got inner_new : Level) (mid_list : OpenList) (before mid after : Gathering) (l il : BlockLine) (made : Entry) (c : Continuation) → less + 1 ≡ room →
    level.last ≡ open_block.List inner list → IsInside c → ContinuesLevel level l c → was ≡ inner.value → EntersItem c was list level.blank before l mid_inner mid_list mid il made → made ≡ entry.Begins → mid.entities.now ≡ before.entities.now → got ≡ mid_inner →
    BeginsBehind less got mid il inner_new after → sinks less no_summary il ≡ false → AddsButBlank room level before l (holding_list level inner inner_new mid_list) after
list_begun room less level inner list was mid_inner got inner_new mid_list before mid after l il made c n is w continues same enters goes entities got_is begins fits =
    list_goes_next room less level (holding_list level inner inner_new mid_list) inner list mid_inner inner_new mid_list before mid after l il n is (begins_of level inner list was mid_inner mid_list before mid l il made c w continues same enters goes) entities
    (subst (λ z. BeginsBehind less z mid il inner_new after) got_is begins) fits refl (refl, refl, refl) (refl, refl)

pub list_begun_sinks : (room less : ℕ) (level : Level) (inner : Box Level Global) (list : OpenList) (was mid_inner : Level) (mid_list : OpenList) (before mid : Gathering) (l il : BlockLine) (made : Entry) (c : Continuation) → less + 1 ≡ room →
    IsInside c → ContinuesLevel level l c → was ≡ inner.value → EntersItem c was list level.blank before l mid_inner mid_list mid il made → made ≡ entry.Begins → sinks less no_summary il ≡ true → SinksLine room level before l
list_begun_sinks room less level inner list was mid_inner mid_list before mid l il made c n w continues same enters goes deep =
    list_next_sinks room less level inner list mid_inner mid_list before mid l il n (begins_of level inner list was mid_inner mid_list before mid l il made c w continues same enters goes) deep

pub passed_adds : (room : ℕ) (level mid new : Level) (before between after : Gathering) (l il : BlockLine) → mid ≡ level → il ≡ l → between ≡ before → AddsLine room mid between il new after → AddsLine room level before l new after
passed_adds room level mid new before between after l il a b c adds =
    subst (λ z. AddsLine room z before l new after) a (subst (λ z. AddsLine room mid z l new after) c (subst (λ z. AddsLine room mid between z new after) b adds))

-- The level is taken apart and put together again.
bl_put_back : (level : Level) (last : OpenBlock) → level.last ≡ last → (let put : Level = record level { last = last } in put) ≡ level
bl_put_back level last is = ap (λ (x : OpenBlock). let put : Level = record level { last = x } in put) (sym is)

pub bl_put_back_adds : (room : ℕ) (level new : Level) (last : OpenBlock) (before after : Gathering) (l : BlockLine) → level.last ≡ last → AddsLine room (record level { last = last }) before l new after → AddsLine room level before l new after
bl_put_back_adds room level new last before after l is adds = passed_adds room level (record level { last = last }) new before before after l l (bl_put_back level last is) refl refl adds
