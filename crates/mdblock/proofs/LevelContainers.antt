-- A block quote or an item behind what is over: what it holds stands for lines of its own, further on.
use Rattle.std.proofs.Common.{Box, Global, ◌≡◌, ℕ, suc, ◌+◌, Bool, true, false, not, ◌&&◌, ◌||◌, List, [], ◌∷◌, ◌++◌, length, length-append, append-nil, Some, None, refl, sym, ◌∙◌, ap, subst, arith}
use Rattle.mdtext.specs.EntityTable.{EntityTable}
use Rattle.mdleaf.specs.DefinedLinks.{LinkDefinition}
use Rattle.mdscan.specs.declared.list_markers.Marker.{Marker}
use Rattle.blockspec.specs.BlockLine.{BlockLine}
use Rattle.blockspec.specs.BlankLines.{is_blank_line}
use Rattle.blockspec.specs.BlockKinds.{Container, Quote, Item, Holds}
use Rattle.blockspec.specs.BlockStart.{begun}
use Rattle.blockspec.specs.BlockTree.{no_items}
use Rattle.blockspec.specs.BlockUnits.{container_part}
use Rattle.blockspec.specs.ContainerLines.{opened}
use Rattle.blockspec.specs.LineSummary.{Summary, summary, nothing_yet, ended_block, open_leaf, open_container, no_summary, last_in, closed, last_groups, container_group, new_last, begin_after, line_added, mark_of}
use Rattle.blockspec.specs.Lists.{Quoted, Group, kind_of, is_tight_inside, merged, nodes_of}
use Rattle.blockspec.specs.NodeTree.{Nodes, texts_in, texts_in_items, definitions_in, definitions_in_items, placed, placed_items}
use Rattle.blockspec.specs.Stretches.{is_single, first_of}
use Rattle.blockspec.specs.TaskListItems.{with_task}
use Rattle.blockspec.specs.UnitBegin.{list_mark, same_mark}
use Rattle.mdblock.specs.BlockView.{kind_view, blocks_view, items_view}
use Rattle.mdblock.specs.held.HandedIn.{gathered_texts, gathered_definitions}
use Rattle.mdblock.specs.held.HeldLevel.{is_begun, StandsFor, StandsForItems, StandsForLast, HasGathered}
use Rattle.mdblock.specs.held.HeldNodes.{ListSoFar, list_behind, list_of, handed_groups, handed_nodes, closed_nodes, tasked}
use Rattle.mdblock.specs.held.LevelSteps.{last_mark, tight_with, IsAllOver, begun_behind, BeginsBehind, BeginsBlock, HasMarksOf, IsQuoteOf, IsListOf}
use Rattle.mdblock.specs.declared.container.lists.OpenList.{OpenList}
use Rattle.mdblock.specs.declared.gathering.Gathering.{Gathering}
use Rattle.mdblock.specs.declared.open_blocks.Level.{Level}
use Rattle.mdblock.specs.declared.open_blocks.OpenBlock.{OpenBlock}
use Rattle.mdblock.specs.declared.open_blocks.OpenBlock as open_block
use Rattle.mdblock.proofs.ClosingLaws.{handed_quote, tasked_quote, quote_texts, quote_definitions, handed_item, tasked_list, list_texts, list_definitions, behind}
use Rattle.mdblock.proofs.LevelGroups.{tight_pushed, list_apart}
use Rattle.mdblock.proofs.LevelLines.{none_added, has_begun, begin_begun}

-- ---- what has been handed in

abbrev pub texts_over : List (List ℕ) → Nodes → List (List ℕ)
texts_over texts a = texts ++ texts_in a

pub into_quote : (g : Gathering) (e : EntityTable) (in_item : Bool) (before : List Group) (b : ℕ) (gap bare : Bool) (s : Summary) (blank : Bool) (lines : ℕ) (texts : List (List ℕ)) (definitions : List LinkDefinition) →
    HasGathered g texts definitions (handed_nodes e in_item (summary before (open_container b gap bare Quote s) blank lines)) →
    let a = tasked in_item (nodes_of before) in HasGathered g (texts ++ texts_in a) (definitions ++ definitions_in a) (handed_nodes e false s)
into_quote g e in_item before b gap bare s blank lines texts definitions h =
    let a = tasked in_item (nodes_of before) in
    let handed = handed_quote e in_item before b gap bare s blank lines ∙ tasked_quote in_item (nodes_of before) (handed_nodes e false s) in
    let had = subst (λ z. HasGathered g texts definitions z) handed h in
    (had.0 ∙ quote_texts texts a (handed_nodes e false s), had.1 ∙ quote_definitions definitions a (handed_nodes e false s))

pub from_quote : (g : Gathering) (e : EntityTable) (in_item : Bool) (before : List Group) (b : ℕ) (gap bare : Bool) (s : Summary) (blank : Bool) (lines : ℕ) (texts : List (List ℕ)) (definitions : List LinkDefinition) →
    (let a = tasked in_item (nodes_of before) in HasGathered g (texts ++ texts_in a) (definitions ++ definitions_in a) (handed_nodes e false s)) →
    HasGathered g texts definitions (handed_nodes e in_item (summary before (open_container b gap bare Quote s) blank lines))
from_quote g e in_item before b gap bare s blank lines texts definitions h =
    let a = tasked in_item (nodes_of before) in
    let handed = handed_quote e in_item before b gap bare s blank lines ∙ tasked_quote in_item (nodes_of before) (handed_nodes e false s) in
    subst (λ z. HasGathered g texts definitions z) (sym handed) (h.0 ∙ sym (quote_texts texts a (handed_nodes e false s)), h.1 ∙ sym (quote_definitions definitions a (handed_nodes e false s)))

-- the texts and the definitions before an item of this list
abbrev pub item_front : (in_item : Bool) → ListSoFar → Nodes
item_front in_item l = tasked in_item (nodes_of l.front)

abbrev pub texts_to_item : (in_item : Bool) → List (List ℕ) → ListSoFar → List (List ℕ)
texts_to_item in_item texts l = (texts ++ texts_in (item_front in_item l)) ++ texts_in_items l.items

abbrev pub definitions_to_item : (in_item : Bool) → List LinkDefinition → ListSoFar → List LinkDefinition
definitions_to_item in_item definitions l = (definitions ++ definitions_in (item_front in_item l)) ++ definitions_in_items l.items

pub behind_items : (in_item : Bool) (texts : List (List ℕ)) (l : ListSoFar) → length texts + length (texts_in (item_front in_item l)) + length (texts_in_items l.items) ≡ length (texts_to_item in_item texts l)
behind_items in_item texts l =
    ap (λ z. z + length (texts_in_items l.items)) (behind texts (item_front in_item l)) ∙ sym (length-append (texts ++ texts_in (item_front in_item l)) (texts_in_items l.items))

pub into_item : (g : Gathering) (e : EntityTable) (in_item : Bool) (before : List Group) (b : ℕ) (gap bare : Bool) (m : Marker) (needed : ℕ) (s : Summary) (blank : Bool) (lines : ℕ) (texts : List (List ℕ)) (definitions : List LinkDefinition) →
    HasGathered g texts definitions (handed_nodes e in_item (summary before (open_container b gap bare (Item m needed) s) blank lines)) →
    let l = list_of before (kind_of m) gap in HasGathered g (texts_to_item in_item texts l) (definitions_to_item in_item definitions l) (handed_nodes e true s)
into_item g e in_item before b gap bare m needed s blank lines texts definitions h =
    let l = list_of before (kind_of m) gap in
    let a = item_front in_item l in
    let tight = l.tight && is_tight_inside (handed_groups e s) in
    let inner = handed_nodes e true s in
    let handed = handed_item e in_item before b gap bare m needed s blank lines ∙ tasked_list in_item (nodes_of l.front) l.kind tight _ in
    let had = subst (λ z. HasGathered g texts definitions z) handed h in
    (had.0 ∙ list_texts texts a l.kind tight l.items inner, had.1 ∙ list_definitions definitions a l.kind tight l.items inner)

pub from_item : (g : Gathering) (e : EntityTable) (in_item : Bool) (before : List Group) (b : ℕ) (gap bare : Bool) (m : Marker) (needed : ℕ) (s : Summary) (blank : Bool) (lines : ℕ) (texts : List (List ℕ)) (definitions : List LinkDefinition) →
    (let l = list_of before (kind_of m) gap in HasGathered g (texts_to_item in_item texts l) (definitions_to_item in_item definitions l) (handed_nodes e true s)) →
    HasGathered g texts definitions (handed_nodes e in_item (summary before (open_container b gap bare (Item m needed) s) blank lines))
from_item g e in_item before b gap bare m needed s blank lines texts definitions h =
    let l = list_of before (kind_of m) gap in
    let a = item_front in_item l in
    let tight = l.tight && is_tight_inside (handed_groups e s) in
    let inner = handed_nodes e true s in
    let handed = handed_item e in_item before b gap bare m needed s blank lines ∙ tasked_list in_item (nodes_of l.front) l.kind tight _ in
    subst (λ z. HasGathered g texts definitions z) (sym handed) (h.0 ∙ sym (list_texts texts a l.kind tight l.items inner), h.1 ∙ sym (list_definitions definitions a l.kind tight l.items inner))

-- ---- what the last block holds

pub in_quote : (e : EntityTable) (at : ℕ) (inner : Box Level Global) (before : List Group) (b : ℕ) (gap bare : Bool) (s : Summary) →
    StandsForLast e at (open_block.Quote inner) before (open_container b gap bare Quote s) → StandsFor e at false inner.value s
in_quote e at inner before b gap bare (summary bs last blank lines) st = st

pub quote_stands : (e : EntityTable) (at : ℕ) (x : OpenBlock) (inner : Level) (before : List Group) (b : ℕ) (gap bare : Bool) (s : Summary) → IsQuoteOf inner x → StandsFor e at false inner s →
    StandsForLast e at x before (open_container b gap bare Quote s)
quote_stands e at (open_block.Quote' p over last in_item begun blank spaced) inner before b gap bare (summary bs l k n) is st = subst (λ z. StandsFor e at false z (summary bs l k n)) is st
quote_stands e at open_block.Shut inner before b gap bare s is st = absurd is
quote_stands e at (open_block.Leaf held) inner before b gap bare s is st = absurd is
quote_stands e at (open_block.List' p over last in_item begun blank spaced list) inner before b gap bare s is st = absurd is

pub record InItem (e : EntityTable) (at : ℕ) (inner : Level) (list : OpenList) (items : ListSoFar) (bare : Bool) (needed : ℕ) (s : Summary) : Type 0 where
  pub open_is : list.item_open ≡ true
  pub needed_is : list.needed ≡ needed
  pub bare_is : bare ≡ not inner.begun
  pub items_are : StandsForItems at list items
  pub inside : StandsFor e (at + length (texts_in_items items.items)) true inner s

pub in_item_of : (e : EntityTable) (at : ℕ) (inner : Box Level Global) (list : OpenList) (before : List Group) (b : ℕ) (gap bare : Bool) (m : Marker) (needed : ℕ) (s : Summary) →
    StandsForLast e at (open_block.List inner list) before (open_container b gap bare (Item m needed) s) → InItem e at inner.value list (list_of before (kind_of m) gap) bare needed s
in_item_of e at inner list before b gap bare m needed (summary bs last blank lines) st =
    record { open_is = st.0; needed_is = st.1; bare_is = st.2; items_are = st.3; inside = (st.4, st.5) }

pub item_stands : (e : EntityTable) (at : ℕ) (x : OpenBlock) (inner : Level) (list : OpenList) (before : List Group) (b : ℕ) (gap bare : Bool) (m : Marker) (needed : ℕ) (s : Summary) → IsListOf inner list x →
    InItem e at inner list (list_of before (kind_of m) gap) bare needed s → StandsForLast e at x before (open_container b gap bare (Item m needed) s)
item_stands e at (open_block.List' p over last in_item begun blank spaced held) inner list before b gap bare m needed s is st =
    go s (subst (λ z. InItem e at z held (list_of before (kind_of m) gap) bare needed s) is.0 (subst (λ z. InItem e at inner z (list_of before (kind_of m) gap) bare needed s) is.1 st))
  where
    go : (s : Summary) → InItem e at (record { over = over; last = last; in_item = in_item; begun = begun; blank = blank; spaced = spaced }) held (list_of before (kind_of m) gap) bare needed s →
        StandsForLast e at (open_block.List' p over last in_item begun blank spaced held) before (open_container b gap bare (Item m needed) s)
    go (summary bs l k n) st = (st.open_is, st.needed_is, st.bare_is, st.items_are, st.inside.0, st.inside.1)
item_stands e at open_block.Shut inner list before b gap bare m needed s is st = absurd is
item_stands e at (open_block.Leaf held) inner list before b gap bare m needed s is st = absurd is
item_stands e at (open_block.Quote' p over last in_item begun blank spaced) inner list before b gap bare m needed s is st = absurd is

-- ---- a container that a line begins

fresh_gathered : (g : Gathering) (e : EntityTable) (in_item : Bool) (texts : List (List ℕ)) (definitions : List LinkDefinition) → gathered_texts g ≡ texts → gathered_definitions g ≡ definitions →
    HasGathered g texts definitions (closed_nodes e in_item no_summary)
unfolding closed last_groups nodes_of texts_in definitions_in with_task
fresh_gathered g e true texts definitions t d = (t ∙ sym (append-nil texts), d ∙ sym (append-nil definitions))
fresh_gathered g e false texts definitions t d = (t ∙ sym (append-nil texts), d ∙ sym (append-nil definitions))

-- what a container's first line makes of an empty level
pub inside_begun : (less room : ℕ) (in_item : Bool) (fresh : Level) (before : Gathering) (l : BlockLine) (inner : Level) (after : Gathering) (texts : List (List ℕ)) (definitions : List LinkDefinition) →
    less + 1 ≡ room → IsAllOver before.entities.now (length texts) in_item fresh no_summary → BeginsBehind less fresh before l inner after → gathered_texts before ≡ texts → gathered_definitions before ≡ definitions →
    let e = before.entities.now in
    HasGathered after texts definitions (handed_nodes e in_item (line_added e room no_summary l)) × StandsFor e (length texts) in_item inner (line_added e room no_summary l)
unfolding mark_of
inside_begun less room in_item fresh before l inner after texts definitions r empty begins t d =
    let e = before.entities.now in
    let done = begins in_item no_summary texts definitions (fresh_gathered before e in_item texts definitions t d) empty (refl, λ _. refl) in
    let n : suc less ≡ room = omega (arith, r) in
    let same = sym (none_added e less l) ∙ ap (λ z. line_added e z no_summary l) n in
    subst (λ z. HasGathered after texts definitions (handed_nodes e in_item z) × StandsFor e (length texts) in_item inner z) same done

same_none : (m : _) → same_mark m None ≡ false
same_none None = refl
same_none (Some kind) = refl

pub begun_container : (e : EntityTable) (room : ℕ) (groups : List Group) (gap : Bool) (lines : ℕ) (l : BlockLine) (c : Container) → begun l ≡ Holds c →
    begun_behind e room groups gap lines l ≡ summary groups (open_container lines gap (is_blank_line (opened c l)) c (line_added e room no_summary (opened c l))) false (suc lines)
unfolding new_last
begun_container e room groups gap lines l c is = ap (λ z. summary groups (new_last e (line_added e room) (is_single z l) z (first_of lines gap l)) false (suc lines)) is

pub quote_begins : (room less : ℕ) (level : Level) (before : Gathering) (l : BlockLine) (fresh inner new : Level) (after : Gathering) →
    less + 1 ≡ room → begun l ≡ Holds Quote → ((entities : EntityTable) (at : ℕ) → IsAllOver entities at false fresh no_summary) → BeginsBehind less fresh before (opened Quote l) inner after →
    new.over ≡ level.over → HasMarksOf level new → IsQuoteOf inner new.last → BeginsBlock room level before l new after
unfolding closed last_groups container_part
quote_begins room less level before l fresh inner new after r is empty begins over m held in_item groups gap lines texts definitions had ready apart =
    let e = before.entities.now in
    let n = length texts in
    let a = tasked in_item (nodes_of groups) in
    let il = opened Quote l in
    let inner_s = line_added e room no_summary il in
    let bare = is_blank_line il in
    let done = inside_begun less room false fresh before il inner after (texts ++ texts_in a) (definitions ++ definitions_in a) r (empty e _) begins had.0 had.1 in
    let tight : is_tight_inside (merged groups (container_group lines gap Quote (closed e inner_s) ∷ [])) ≡ tight_with groups gap = tight_pushed groups lines gap (Quoted (nodes_of (closed e inner_s))) (same_none (last_mark groups)) in
    let stands = quote_stands e (n + length (texts_in a)) new.last inner groups lines gap bare inner_s held (subst (λ z. StandsFor e z false inner inner_s) (sym (behind texts a)) done.1) in
    subst (λ z. HasGathered after texts definitions (handed_nodes e in_item z) × StandsFor e n in_item new z) (sym (begun_container e room groups gap lines l Quote is)) (
      from_quote after e in_item groups lines gap bare inner_s false (suc lines) texts definitions done.0,
      ((ap (λ z. blocks_view z.items) over ∙ ready.0, m.0 ∙ ready.1, m.1 ∙ ready.2, m.2 ∙ ready.3, m.3 ∙ ready.4 ∙ ap not (sym tight)), stands),
    )

-- an item's list is open, and has no items yet
pub record IsNewList (m : Marker) (needed : ℕ) (list : OpenList) : Type 0 where
  pub kind_is : kind_view list.kind ≡ kind_of m
  pub needed_is : list.needed ≡ needed
  pub open_is : list.item_open ≡ true
  pub tight : list.loose ≡ false
  pub none : items_view list.items.items ≡ no_items

pub begun_of : (e : EntityTable) (at : ℕ) (in_item : Bool) (level : Level) (s : Summary) → StandsFor e at in_item level s → level.begun ≡ is_begun (last_in s)
begun_of e at in_item level (summary before last blank lines) st = st.0.2

not_twice : (b : Bool) → b ≡ not (not b || false)
not_twice true = refl
not_twice false = refl

pub begun_same : (s : Summary) → is_begun (last_in s) ≡ has_begun (last_in s)
begun_same (summary bs nothing_yet k n) = refl
begun_same (summary bs (ended_block g) k n) = refl
begun_same (summary bs (open_leaf b g leaf) k n) = refl
begun_same (summary bs (open_container b g bare c i) k n) = refl

-- an item that begins with a blank line is bare
pub bare_begun : (e : EntityTable) (less room at : ℕ) (il : BlockLine) (inner : Level) → less + 1 ≡ room → StandsFor e at true inner (line_added e room no_summary il) → is_blank_line il ≡ not inner.begun
bare_begun e less room at il inner r st =
    let bare = is_blank_line il in
    let n : room ≡ suc less = omega (arith, r) in
    let begun = ap (λ z. is_begun (last_in (line_added e z no_summary il))) n ∙ ap (λ z. is_begun (last_in z)) (none_added e less il)
    ∙ begun_same (begin_after e (line_added e less) bare no_summary il) ∙ begin_begun e (line_added e less) bare no_summary il in
    not_twice bare ∙ ap not (sym begun) ∙ ap not (sym (begun_of e at true inner (line_added e room no_summary il) st))

pub item_begins : (room less : ℕ) (level : Level) (before : Gathering) (l : BlockLine) (fresh inner new : Level) (list : OpenList) (after : Gathering) (m : Marker) (needed : ℕ) →
    less + 1 ≡ room → begun l ≡ Holds (Item m needed) → ((entities : EntityTable) (at : ℕ) → IsAllOver entities at true fresh no_summary) → BeginsBehind less fresh before (opened (Item m needed) l) inner after →
    new.over ≡ level.over → HasMarksOf level new → IsListOf inner list new.last → IsNewList m needed list → BeginsBlock room level before l new after
unfolding closed last_groups container_part placed_items texts_in_items definitions_in_items
item_begins room less level before l fresh inner new list after m needed r is empty begins over marks held first in_item groups gap lines texts definitions had ready apart =
    let e = before.entities.now in
    let n = length texts in
    let c = Item m needed in
    let il = opened c l in
    let inner_s = line_added e room no_summary il in
    let bare = is_blank_line il in
    let list_is : list_of groups (kind_of m) gap ≡ list_behind groups (kind_of m) = list_apart groups (kind_of m) gap (ap (λ z. same_mark (last_mark groups) (list_mark z)) (sym is) ∙ apart) in
    let so_far = list_of groups (kind_of m) gap in
    let a = item_front in_item so_far in
    let T = texts_to_item in_item texts so_far in
    let D = definitions_to_item in_item definitions so_far in
    let texts_are : texts_to_item in_item texts so_far ≡ texts ++ texts_in (tasked in_item (nodes_of groups)) = ap (texts_to_item in_item texts) list_is ∙ append-nil (texts ++ texts_in (tasked in_item (nodes_of groups))) in
    let definitions_are : definitions_to_item in_item definitions so_far ≡ definitions ++ definitions_in (tasked in_item (nodes_of groups)) =
    ap (definitions_to_item in_item definitions) list_is ∙ append-nil (definitions ++ definitions_in (tasked in_item (nodes_of groups))) in
    let done = inside_begun less room true fresh before il inner after T D r (empty e _) begins (had.0 ∙ sym texts_are) (had.1 ∙ sym definitions_are) in
    let tight : is_tight_inside (merged groups (container_group lines gap c (closed e inner_s) ∷ [])) ≡ tight_with groups gap =
    tight_pushed groups lines gap (container_part c (closed e inner_s)) (ap (λ z. same_mark (last_mark groups) (list_mark z)) (sym is) ∙ apart) in
    let bare_is = bare_begun e less room (length T) il inner r done.1 in
    let stands = item_stands e (n + length (texts_in a)) new.last inner list groups lines gap bare m needed inner_s held (record {
      open_is = first.open_is;
      needed_is = first.needed_is;
      bare_is = bare_is;
      items_are = (
        first.kind_is ∙ ap (λ z. z.kind) (sym list_is),
        first.tight ∙ ap (λ (z : ListSoFar). not z.tight) (sym list_is),
        first.none ∙ ap (λ (z : ListSoFar). placed_items (n + length (texts_in a)) z.items) (sym list_is),
      );
      inside = subst (λ z. StandsFor e z true inner inner_s) (sym (behind_items in_item texts so_far)) done.1;
    }) in
    subst (λ z. HasGathered after texts definitions (handed_nodes e in_item z) × StandsFor e n in_item new z) (sym (begun_container e room groups gap lines l c is)) (
      from_item after e in_item groups lines gap bare m needed inner_s false (suc lines) texts definitions done.0,
      (
        (
          ap (λ z. blocks_view z.items) over ∙ ready.0 ∙ ap (λ (z : ListSoFar). placed n (tasked in_item (nodes_of z.front))) (sym list_is),
          marks.0 ∙ ready.1,
          marks.1 ∙ ready.2,
          marks.2 ∙ ready.3,
          marks.3 ∙ ready.4 ∙ ap not (sym tight),
        ),
        stands,
      ),
    )
