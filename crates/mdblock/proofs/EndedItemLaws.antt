-- The item that is open in a list ends before the next one is read: that line finds what it would have found, and begins what it would have begun.
use Rattle.std.proofs.Common.{Box, Global, ◌≡◌, ℕ, suc, ◌+◌, Bool, true, false, not, ◌&&◌, List, length, Some, refl, sym, ◌∙◌, ap, subst}
use Rattle.std.specs.Prelude.{is_some, nat_le, ◌||◌}
use Rattle.mdtext.specs.EntityTable.{EntityTable}
use Rattle.mdscan.specs.declared.list_markers.Marker.{Marker}
use Rattle.blockspec.specs.BlockLine.{BlockLine, indentation}
use Rattle.blockspec.specs.BlankLines.{is_blank_line}
use Rattle.blockspec.specs.BlockStart.{begun}
use Rattle.blockspec.specs.BlockKinds.{Quote, Item}
use Rattle.blockspec.specs.LineSummary.{Summary, summary, Last, nothing_yet, ended_block, open_leaf, open_container, last_in, last_tip, closed, last_groups, ended_last, summary_gap, begin_after, new_last, line_added, is_apart_after, mark_of, part_mark}
use Rattle.blockspec.specs.Lists.{Part, Leaves, Quoted, Listed, Group, is_tight_inside, merged, nodes_of}
use Rattle.blockspec.specs.NodeTree.{texts_in, placed}
use Rattle.blockspec.specs.Stretches.{is_single, first_of}
use Rattle.blockspec.specs.SummaryDepth.{sinks}
use Rattle.blockspec.specs.UnitBegin.{list_mark, same_mark}
use Rattle.mdblock.specs.BlockView.{kind_view}
use Rattle.mdblock.specs.held.EndedItems.{ended_summary, EndsLastItem, IsNextOf, IsNextIn, KeepsNext}
use Rattle.blockspec.specs.SummaryJoins.{is_parted_first, is_parted_after, gap_in}
use Rattle.mdblock.specs.held.HeldLevel.{StandsFor, StandsForLast, HasGathered, Fits, behind_over, is_list, is_parted_last}
use Rattle.mdblock.specs.held.HeldNodes.{list_of, handed_groups, handed_last, handed_nodes, tasked}
use Rattle.mdblock.specs.held.LevelSteps.{EndsItem}
use Rattle.mdblock.specs.held.LinesAdded.{ContinuesLevel}
use Rattle.mdblock.specs.declared.container.lists.OpenList.{OpenList}
use Rattle.mdblock.specs.declared.gathering.Gathering.{Gathering}
use Rattle.mdblock.specs.declared.leaf.Leaf.{Leaf}
use Rattle.mdblock.specs.declared.open_blocks.Continuation.TheVariants as continuation
use Rattle.mdblock.specs.declared.open_blocks.Level.{Level}
use Rattle.mdblock.specs.declared.open_blocks.OpenBlock.{OpenBlock}
use Rattle.mdblock.specs.declared.open_blocks.OpenBlock as open_block
use Rattle.mdblock.proofs.CloseLaws.{not_both}
use Rattle.mdblock.proofs.ContinuationLaws.{list_continues, item_shut, between_next}
use Rattle.mdblock.proofs.FitLaws.{ended_fits}
use Rattle.mdblock.proofs.LevelAdds.{holding_list}
use Rattle.mdblock.proofs.LevelContainers.{item_front}
use Rattle.mdblock.proofs.LevelGroups.{group_with}
use Rattle.mdblock.proofs.LevelItems.{item_over, list_stands, from_list}
use Rattle.mdblock.proofs.LevelLines.{apart_added, apart_sinks}
use Rattle.mdblock.proofs.PartedLaws.{level_parted}

-- ---- the line behind the block that is over

and_true : (b : Bool) → (b && true) ≡ b
and_true true = refl
and_true false = refl

groups_ended : (e : EntityTable) (last : Last) → last_groups e (ended_last e last) ≡ last_groups e last
unfolding last_groups ended_last
groups_ended e nothing_yet = refl
groups_ended e (ended_block g) = refl
groups_ended e (open_leaf begin gap leaf) = refl
groups_ended e (open_container begin gap bare container inner) = refl

gap_ended : (e : EntityTable) (last : Last) (gap : Bool) → summary_gap (ended_last e last) gap ≡ gap
unfolding last_tip ended_last
gap_ended e nothing_yet gap = and_true gap
gap_ended e (ended_block g) gap = and_true gap
gap_ended e (open_leaf begin is leaf) gap = and_true gap
gap_ended e (open_container begin is bare container inner) gap = and_true gap

apart_ended : (e : EntityTable) (last : Last) (l : BlockLine) → is_apart_after (ended_last e last) l ≡ true
unfolding is_apart_after ended_last
apart_ended e nothing_yet l = refl
apart_ended e (ended_block g) l = refl
apart_ended e (open_leaf begin gap leaf) l = refl
apart_ended e (open_container begin gap bare container inner) l = refl

-- what makes a list loose where it goes on
pub ended_loose : (e : EntityTable) (level : Level) (s : Summary) → StandsFor e 0 false level (ended_summary e s) → (is_parted_last level.last || level.blank) ≡ (is_parted_after e s || gap_in s)
ended_loose e level (summary before last blank lines) st =
    let gap = summary_gap last blank in
    ap (λ z. z || level.blank) (level_parted e 0 false level (summary before (ended_last e last) gap lines) st ∙ ap is_parted_first (groups_ended e last))
    ∙ ap (λ z. is_parted_first (last_groups e last) || z) (st.0.3 ∙ gap_ended e last gap)

-- a block that begins behind some groups
abbrev begun_behind : EntityTable → (room lines : ℕ) → (before : List Group) → BlockLine → (gs : List Group) → (gap : Bool) → Summary
begun_behind e room lines before l gs gap = summary (merged before gs) (new_last e (line_added e room) (is_single (begun l) l) (begun l) (first_of lines gap l)) false (suc lines)

-- a line that begins a block makes the same of both
pub ended_added : (e : EntityTable) (room : ℕ) (s : Summary) (l : BlockLine) → is_apart_after (last_in s) l ≡ true → is_blank_line l ≡ false →
    line_added e (suc room) (ended_summary e s) l ≡ line_added e (suc room) s l
unfolding begin_after
ended_added e room (summary before last blank lines) l a b =
    let s = summary before last blank lines in
    let gap = summary_gap last blank in
    apart_added e room (ended_summary e s) l (apart_ended e last l)
    ∙ ap (λ z. begin_after e (line_added e room) z (ended_summary e s) l) b
    ∙ ap (λ z. begun_behind e room lines before l z (summary_gap (ended_last e last) gap)) (groups_ended e last)
    ∙ ap (λ z. begun_behind e room lines before l (last_groups e last) z) (gap_ended e last gap)
    ∙ ap (λ z. begin_after e (line_added e room) z s l) (sym b)
    ∙ sym (apart_added e room s l a)

pub ended_sinks : (e : EntityTable) (room : ℕ) (s : Summary) (l : BlockLine) → is_apart_after (last_in s) l ≡ true → sinks room (ended_summary e s) l ≡ sinks room s l
ended_sinks e room (summary before last blank lines) l a =
    let s = summary before last blank lines in apart_sinks room (ended_summary e s) l (apart_ended e last l) ∙ sym (apart_sinks room s l a)

pub still_fits : (e : EntityTable) (room : ℕ) (s : Summary) → Fits room s → Fits room (ended_summary e s)
still_fits e room (summary before last blank lines) w = ended_fits e room last w

-- ---- the level

pub last_item_ends : (level : Level) (inner : Box Level Global) (list : OpenList) (was new_inner : Level) (new_list : OpenList) (before after : Gathering) → level.last ≡ open_block.List inner list → was ≡ inner.value →
    EndsItem was list before new_inner new_list after → EndsLastItem level before (holding_list level inner new_inner new_list) after
unfolding closed handed_groups handed_last last_tip
last_item_ends level inner list was new_inner new_list before after is same ends in_item (summary groups last blank lines) texts definitions some had st =
    let e = before.entities.now in
    let s = summary groups last blank lines in
    let gap = summary_gap last blank in
    let o = item_over level inner list new_inner new_list before after is (subst (λ z. EndsItem z list before new_inner new_list after) same ends) in_item groups last blank lines texts definitions had st in
    let G = group_with o.begin o.gap (Listed o.kind o.tight o.items) in
    let S = summary groups (ended_block G) gap lines in
    let S_is : ended_summary e s ≡ S = ap (λ z. summary groups z gap lines) o.ended_is in
    let gathered = from_list after e in_item groups o.begin o.gap o.kind o.tight o.items gap lines texts definitions (o.texts_are, o.definitions_are) in (
      subst (λ z. HasGathered after texts definitions (tasked in_item (nodes_of (merged groups z)))) (sym o.groups_are) gathered,
      subst (λ z. HasGathered after texts definitions (handed_nodes e in_item z)) (sym S_is) gathered,
      subst (λ z. StandsFor e (length texts) in_item (holding_list level inner new_inner new_list) z) (sym S_is) (
        (
          st.0.0 ∙ ap (λ z. placed (length texts) (tasked in_item z)) o.over_is,
          st.0.1,
          st.0.2 ∙ o.begun_is,
          st.0.3 ∙ sym (and_true gap),
          st.0.4 ∙ ap (λ z. not (is_tight_inside (merged groups z))) o.groups_are,
        ),
        list_stands e (length texts + length (texts_in (item_front in_item (list_of groups o.kind o.gap)))) (open_block.List (record inner { value = new_inner }) new_list) new_inner new_list groups o.begin o.gap (Listed o.kind o.tight o.items)
            (refl, refl) o.stands o.fresh,
      ),
    )

-- no list stands last
abbrev IsNoList : OpenBlock → Type 0
IsNoList open_block.Shut = Unit {0}
IsNoList (open_block.Leaf held) = Unit {0}
IsNoList (open_block.Quote' p over last in_item begun blank spaced) = Unit {0}
IsNoList (open_block.List' p over last in_item begun blank spaced list) = ⊥

part_none : (p : Part) → is_list p ≡ false → is_some (part_mark p) ≡ true → ⊥
part_none (Leaves leaves) w x = not_both false x refl
part_none (Quoted nodes) w x = not_both false x refl
part_none (Listed kind t items) w x = not_both true refl w

none_marked : (e : EntityTable) (at : ℕ) (held : OpenBlock) (groups : List Group) (last : Last) → IsNoList held → StandsForLast e at held groups last → is_some (mark_of last) ≡ true → ⊥
unfolding mark_of
none_marked e at open_block.Shut groups nothing_yet none st some = not_both false some refl
none_marked e at open_block.Shut groups (ended_block g) none st some = part_none g.part st some
none_marked e at open_block.Shut groups (open_leaf begin gap leaf) none st some = absurd st
none_marked e at open_block.Shut groups (open_container begin gap bare container inner) none st some = absurd st
none_marked e at (open_block.Leaf held) groups nothing_yet none st some = absurd st
none_marked e at (open_block.Leaf held) groups (ended_block g) none st some = absurd st
none_marked e at (open_block.Leaf held) groups (open_leaf begin gap leaf) none st some = not_both false some refl
none_marked e at (open_block.Leaf held) groups (open_container begin gap bare container inner) none st some = absurd st
none_marked e at (open_block.Quote' p over held in_item begun blank spaced) groups nothing_yet none st some = absurd st
none_marked e at (open_block.Quote' p over held in_item begun blank spaced) groups (ended_block g) none st some = absurd st
none_marked e at (open_block.Quote' p over held in_item begun blank spaced) groups (open_leaf begin gap leaf) none st some = absurd st
none_marked e at (open_block.Quote' p over held in_item begun blank spaced) groups (open_container begin gap bare Quote inner) none st some = not_both false some refl
none_marked e at (open_block.Quote' p over held in_item begun blank spaced) groups (open_container begin gap bare (Item marker needed) inner) none st some = absurd st
none_marked e at (open_block.List' p over held in_item begun blank spaced list) groups last none st some = none

none_ends : (level : Level) (before : Gathering) → IsNoList level.last → EndsLastItem level before level before
none_ends level before none in_item (summary groups last blank lines) texts definitions some had st =
    absurd (none_marked before.entities.now (behind_over before.entities.now (length texts) in_item groups last) level.last groups last none st.1 some)

pub shut_ends : (level : Level) (before : Gathering) → level.last ≡ open_block.Shut → EndsLastItem level before level before
shut_ends level before is = none_ends level before (subst IsNoList (sym is) tt)

pub leaf_ends : (level : Level) (before : Gathering) (held : Leaf) → level.last ≡ open_block.Leaf held → EndsLastItem level before level before
leaf_ends level before held is = none_ends level before (subst IsNoList (sym is) tt)

pub quote_ends : (level : Level) (before : Gathering) (inner : Box Level Global) → level.last ≡ open_block.Quote inner → EndsLastItem level before level before
quote_ends level before inner is = none_ends level before (subst IsNoList (sym is) tt)

-- ---- the line is still the next item's

pub same_next : (level : Level) → KeepsNext level level
same_next level l c item continues stands next = (continues, stands)

not_open : (l : BlockLine) (list : OpenList) → list.item_open ≡ false → (list.item_open && not l.lazy && not (is_blank_line l) && nat_le list.needed (indentation l)) ≡ false
not_open l list shut = ap (λ z. z && not l.lazy && not (is_blank_line l) && nat_le list.needed (indentation l)) shut

list_next : (level : Level) (inner : Box Level Global) (list : OpenList) (new_inner : Level) (new_list : OpenList) (l : BlockLine) (m : Marker) → new_list.item_open ≡ false → new_list.kind ≡ list.kind →
    IsNextOf list l (continuation.Next m) → ContinuesLevel (holding_list level inner new_inner new_list) l (continuation.Next m)
list_next level inner list new_inner new_list l m shut kind next =
    list_continues (holding_list level inner new_inner new_list) (record inner { value = new_inner }) new_list l (continuation.Next m) refl
    (item_shut new_inner new_list l (continuation.Next m) shut)
    (between_next new_list l m next.0 next.1 (ap (λ z. same_mark (Some (kind_view z)) (list_mark (begun l))) kind ∙ next.2))
    (not_open l new_list shut)

pub list_keeps : (level : Level) (inner : Box Level Global) (list : OpenList) (new_inner : Level) (new_list : OpenList) → level.last ≡ open_block.List inner list → new_list.item_open ≡ false → new_list.kind ≡ list.kind →
    KeepsNext level (holding_list level inner new_inner new_list)
list_keeps level inner list new_inner new_list is shut kind l continuation.Matched item o w n = absurd (not_both false item refl)
list_keeps level inner list new_inner new_list is shut kind l (continuation.Underlines u) item o w n = absurd (not_both false item refl)
list_keeps level inner list new_inner new_list is shut kind l continuation.Delimits item o w n = absurd (not_both false item refl)
list_keeps level inner list new_inner new_list is shut kind l continuation.Lazy item o w n = absurd (not_both false item refl)
list_keeps level inner list new_inner new_list is shut kind l continuation.Between item o w n = absurd (not_both false item refl)
list_keeps level inner list new_inner new_list is shut kind l (continuation.Outside opening) item o w n = absurd (not_both false item refl)
list_keeps level inner list new_inner new_list is shut kind l (continuation.Next m) item o w n =
    (tt, list_next level inner list new_inner new_list l m shut kind (subst (λ z. IsNextIn z l (continuation.Next m)) is n))
