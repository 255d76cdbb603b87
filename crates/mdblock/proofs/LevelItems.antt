-- A line of a list: it is read in the open item, ends the item, or begins the next one.
use Rattle.std.proofs.Common.{Box, Global, ◌≡◌, ℕ, suc, ◌+◌, Bool, true, false, not, ◌&&◌, ◌||◌, List, [], ◌∷◌, ◌++◌, length, append-nil, append_assoc, Some, refl, sym, ◌∙◌, ap, subst, arith}
use Rattle.mdtext.specs.EntityTable.{EntityTable}
use Rattle.mdleaf.specs.DefinedLinks.{LinkDefinition}
use Rattle.mdscan.specs.declared.list_markers.Marker.{Marker}
use Rattle.blockspec.specs.BlockLine.{BlockLine}
use Rattle.blockspec.specs.BlankLines.{is_blank_line}
use Rattle.blockspec.specs.BlockKinds.{Quote, Item, Holds}
use Rattle.blockspec.specs.BlockStart.{begun}
use Rattle.blockspec.specs.BlockTree.{ListKind, item, no_items}
use Rattle.blockspec.specs.BlockUnits.{container_part}
use Rattle.blockspec.specs.ContainerLines.{matches, opened}
use Rattle.blockspec.specs.Laziness.{Tip, continues_lazily}
use Rattle.blockspec.specs.LineSummary.{Summary, summary, Last, nothing_yet, ended_block, open_leaf, open_container, no_summary, last_in, summary_tip, closed, last_groups, ended_last, summary_gap, begin_after, line_added, is_apart_after, mark_of}
use Rattle.blockspec.specs.Lists.{Part, Leaves, Quoted, Listed, Group, kind_of, is_same_list, items_before, is_tight_inside, merged, nodes_of}
use Rattle.blockspec.specs.NodeTree.{Nodes, no_nodes, list_node, ItemNodes, no_item_nodes, item_node, texts_in, texts_in_items, definitions_in, definitions_in_items, placed, placed_items}
use Rattle.blockspec.specs.Stretches.{goes_on}
use Rattle.blockspec.specs.SummaryDepth.{sinks}
use Rattle.blockspec.specs.UnitBegin.{list_mark, same_mark}
use Rattle.mdblock.specs.BlockView.{kind_view, blocks_view, items_view}
use Rattle.mdblock.specs.held.HandedIn.{gathered_texts, gathered_definitions}
use Rattle.mdblock.specs.held.HeldLevel.{is_begun, behind_over, with_item, StandsForList, StandsFor, StandsForLast, HasGathered, ClosesAll, IsLazyRight}
use Rattle.mdblock.specs.held.HeldNodes.{ListSoFar, list_of, over_nodes, handed_groups, handed_last, handed_nodes, closed_nodes, tasked}
use Rattle.mdblock.specs.held.LevelSteps.{BeginsBehind, HasRestOf, IsListOf, gap_behind, IsEmpty, EndsOpenItem, EndsItem, goes_on_with}
use Rattle.mdblock.specs.held.LinesAdded.{IsReadBehind, IsAdded, AddsLine, SinksLine}
use Rattle.mdblock.specs.held.TreesBehind.{nodes_before, placed_before}
use Rattle.mdblock.specs.declared.container.lists.OpenList.{OpenList}
use Rattle.mdblock.specs.held.ClosedViews.{list_view, list_view_with}
use Rattle.mdblock.specs.declared.blocks.Block as b
use Rattle.mdblock.specs.declared.gathering.Gathering.{Gathering}
use Rattle.mdblock.specs.declared.open_blocks.Level.{Level}
use Rattle.mdblock.specs.declared.open_blocks.OpenBlock.{OpenBlock}
use Rattle.mdblock.specs.declared.open_blocks.OpenBlock as open_block
use Rattle.mdblock.proofs.ClosingLaws.{tasked_list}
use Rattle.mdblock.proofs.HeldNodesLaws.{merged_list}
use Rattle.mdblock.proofs.LevelBegins.{last_marks, first_last, not_and, empty_over}
use Rattle.mdblock.proofs.LevelBlanks.{item_blank, lazily_full}
use Rattle.mdblock.proofs.LevelContainers.{texts_to_item, definitions_to_item, item_front, behind_items, into_item, from_item, in_item_of, item_stands, begun_of, inside_begun, begun_container, begun_same, bare_begun}
use Rattle.mdblock.proofs.LevelGoes.{GoesInside, inner_right}
use Rattle.mdblock.proofs.LevelGroups.{group_with, item_more, same_gaps, tight_joined, list_next}
use Rattle.mdblock.proofs.LevelLines.{apart_added, apart_sinks, blank_sinks, held_fits, container_added, container_sinks, added_begun}
use Rattle.mdblock.proofs.PlacedNodes.{texts_before, earlier_definitions, placed_items_before, item_texts_before, item_definitions_before}

-- ---- the item reads the line

-- a bare item takes no blank line more
item_begun : (m : Marker) (needed : ℕ) (bare begun' : Bool) (tip : Tip) (l : BlockLine) → bare ≡ not begun' → (l.lazy ≡ true → is_blank_line l ≡ false) → not (goes_on (Item m needed) bare tip l) ≡ false →
    (begun' || not (is_blank_line l)) ≡ true
item_begun m needed bare true tip l b right apart = refl
item_begun m needed bare false tip l b right apart = go (matches (Item m needed) l) (is_blank_line l) (continues_lazily tip l) refl refl (ap (λ z. not ((matches (Item m needed) l && not (z && is_blank_line l)) || continues_lazily tip l)) (sym b) ∙ apart)
  where
    go : (t blank z : Bool) → is_blank_line l ≡ blank → continues_lazily tip l ≡ z → not ((t && not (true && blank)) || z) ≡ false → not blank ≡ true
    go t false z e f h = refl
    go t true true e f h = absurd (let full = lazily_full tip l right f in let x : ⊥ = cc in x)
    go true true false e f h = absurd (let x : ⊥ = cc in x)
    go false true false e f h = absurd (let x : ⊥ = cc in x)

pub item_added : (less : ℕ) (level new : Level) (inner : Box Level Global) (list : OpenList) (inner_new : Level) (before after : Gathering) (l il : BlockLine) → level.last ≡ open_block.List inner list →
    AddsLine less inner.value before il inner_new after → new.over ≡ level.over → HasRestOf level new → IsListOf inner_new list new.last →
    (in_item : Bool) (s : Summary) (texts : List (List ℕ)) (definitions : List LinkDefinition) → IsReadBehind (suc less) level before in_item s texts definitions l → GoesInside s l il → (blank : Bool) →
    blank ≡ gap_behind (line_added before.entities.now (suc (suc less)) s l) → IsAdded before.entities.now (suc less) in_item s texts definitions l (record new { blank = blank }) after
unfolding closed last_groups container_part is_apart_after
item_added less level new inner list inner_new before after l il is adds over marks held in_item (summary groups last was lines) texts definitions behind_it goes blank blank_is =
    go last behind_it goes blank_is
  where
    e : EntityTable
    e = before.entities.now

    go : (last : Last) → IsReadBehind (suc less) level before in_item (summary groups last was lines) texts definitions l → GoesInside (summary groups last was lines) l il →
        blank ≡ gap_behind (line_added e (suc (suc less)) (summary groups last was lines) l) → IsAdded e (suc less) in_item (summary groups last was lines) texts definitions l (record new { blank = blank }) after
    go nothing_yet r g w = absurd (let x : ⊥ = cc in x)
    go (ended_block b) r g w = absurd (let h = g.0 in let x : ⊥ = cc in x)
    go (open_leaf b gap leaf) r g w = absurd (subst (λ z. StandsForLast e (behind_over e (length texts) in_item groups (open_leaf b gap leaf)) z groups (open_leaf b gap leaf)) is r.1.1)
    go (open_container b gap bare Quote i) r g w = absurd (subst (λ z. StandsForLast e (behind_over e (length texts) in_item groups (open_container b gap bare Quote i)) z groups (open_container b gap bare Quote i)) is r.1.1)
    go (open_container b gap bare (Item m needed) i) r g w =
        let so_far = list_of groups (kind_of m) gap in
        let a = item_front in_item so_far in
        let at = length texts + length (texts_in a) in
        let T = texts_to_item in_item texts so_far in
        let c = Item m needed in
        let old = open_container b gap bare c i in
        let i_new = line_added e (suc less) i il in
        let added = container_added e (suc less) groups b gap bare c i was lines l g.0 ∙ ap (λ z. summary groups (open_container b gap false c (line_added e (suc less) i z)) (is_blank_line l) (suc lines)) g.1 in
        let st : StandsForLast e at (open_block.List inner list) groups old = subst (λ z. StandsForLast e at z groups old) is r.1.1 in
        let item_in = in_item_of e at inner list groups b gap bare m needed i st in
        let right = subst (λ z. IsLazyRight i z) g.1 (inner_right groups b gap bare c i was lines l r.2 g.0) in
        let done = adds true i T _ (
          into_item before e in_item groups b gap bare m needed i was lines texts definitions r.0,
          subst (λ z. StandsFor e z true inner.value i) (behind_items in_item texts so_far) item_in.inside,
          right,
          r.3,
        ) in
        let tight = same_gaps groups b gap (container_part c (closed e i)) (container_part c (closed e i_new)) refl in
        let inner_begun = begun_of e _ true inner.value i item_in.inside in
        let some = item_begun m needed bare inner.value.begun (summary_tip i) l item_in.bare_is (λ z. (r.2 z).0) g.0 in
        let il_blank : is_blank_line il ≡ is_blank_line l = ap is_blank_line (sym g.1) ∙ item_blank m needed l in
        let begun_now : inner_new.begun ≡ true =
        begun_of e (length T) true inner_new i_new done.2 ∙ begun_same i_new
        ∙ added_begun e less i il (ap (λ z. z || not (is_blank_line il)) (sym (inner_begun ∙ begun_same i)) ∙ ap (λ z. inner.value.begun || not z) il_blank ∙ some) in
        let new_stands = item_stands e at new.last inner_new list groups b gap false m needed i_new held (record {
          open_is = item_in.open_is;
          needed_is = item_in.needed_is;
          bare_is = ap not (sym begun_now);
          items_are = item_in.items_are;
          inside = subst (λ z. StandsFor e z true inner_new i_new) (sym (behind_items in_item texts so_far)) done.2;
        }) in (
          container_sinks less groups b gap bare c i was lines l g.0 ∙ ap (sinks less i) g.1 ∙ done.0,
          subst (λ z. HasGathered after texts definitions (handed_nodes e in_item z)) (sym added) (from_item after e in_item groups b gap false m needed i_new (is_blank_line l) (suc lines) texts definitions done.1),
          subst (λ z. StandsFor e (length texts) in_item (record new { blank = blank }) z) (sym added) (
            (ap (λ z. blocks_view z.items) over ∙ r.1.0.0, marks.0 ∙ r.1.0.1, marks.1 ∙ r.1.0.2, w ∙ ap gap_behind added, marks.2 ∙ r.1.0.4 ∙ ap not tight),
            new_stands,
          ),
        )

pub item_sunk : (less : ℕ) (level : Level) (inner : Box Level Global) (list : OpenList) (before : Gathering) (l il : BlockLine) → level.last ≡ open_block.List inner list → SinksLine less inner.value before il →
    (in_item : Bool) (s : Summary) (texts : List (List ℕ)) (definitions : List LinkDefinition) → IsReadBehind (suc less) level before in_item s texts definitions l → GoesInside s l il → sinks (suc less) s l ≡ true
unfolding is_apart_after
item_sunk less level inner list before l il is deep in_item (summary groups last was lines) texts definitions behind_it goes = go last behind_it goes
  where
    e : EntityTable
    e = before.entities.now

    go : (last : Last) → IsReadBehind (suc less) level before in_item (summary groups last was lines) texts definitions l → GoesInside (summary groups last was lines) l il → sinks (suc less) (summary groups last was lines) l ≡ true
    go nothing_yet r g = absurd (let x : ⊥ = cc in x)
    go (ended_block b) r g = absurd (let h = g.0 in let x : ⊥ = cc in x)
    go (open_leaf b gap leaf) r g = absurd (subst (λ z. StandsForLast e (behind_over e (length texts) in_item groups (open_leaf b gap leaf)) z groups (open_leaf b gap leaf)) is r.1.1)
    go (open_container b gap bare Quote i) r g = absurd (subst (λ z. StandsForLast e (behind_over e (length texts) in_item groups (open_container b gap bare Quote i)) z groups (open_container b gap bare Quote i)) is r.1.1)
    go (open_container b gap bare (Item m needed) i) r g =
        let so_far = list_of groups (kind_of m) gap in
        let at = length texts + length (texts_in (item_front in_item so_far)) in
        let c = Item m needed in
        let old = open_container b gap bare c i in
        let st : StandsForLast e at (open_block.List inner list) groups old = subst (λ z. StandsForLast e at z groups old) is r.1.1 in
        let item_in = in_item_of e at inner list groups b gap bare m needed i st in
        let right = subst (λ z. IsLazyRight i z) g.1 (inner_right groups b gap bare c i was lines l r.2 g.0) in
        container_sinks less groups b gap bare c i was lines l g.0 ∙ ap (sinks less i) g.1
        ∙ deep true i (texts_to_item in_item texts so_far) _ (
          into_item before e in_item groups b gap bare m needed i was lines texts definitions r.0,
          subst (λ z. StandsFor e z true inner.value i) (behind_items in_item texts so_far) item_in.inside,
          right,
          r.3,
        )

-- ---- no item is open any more

pub record ItemIsOver (e : EntityTable) (in_item : Bool) (groups : List Group) (last : Last) (texts : List (List ℕ)) (definitions : List LinkDefinition) (inner : Level) (list : OpenList) (after : Gathering) : Type 0 where
  pub begin : ℕ
  pub gap : Bool
  pub kind : ListKind
  pub tight : Bool
  pub items : ItemNodes
  pub groups_are : last_groups e last ≡ group_with begin gap (Listed kind tight items) ∷ []
  pub ended_is : ended_last e last ≡ ended_block (group_with begin gap (Listed kind tight items))
  pub mark_is : mark_of last ≡ Some kind
  pub begun_is : is_begun last ≡ true
  pub over_is : over_nodes e groups last ≡ nodes_of (list_of groups kind gap).front
  pub texts_are : gathered_texts after ≡ texts_to_item in_item texts (with_item (list_of groups kind gap) (Listed kind tight items))
  pub definitions_are : gathered_definitions after ≡ definitions_to_item in_item definitions (with_item (list_of groups kind gap) (Listed kind tight items))
  pub stands : StandsForList (length texts + length (texts_in (item_front in_item (list_of groups kind gap)))) list groups gap (Listed kind tight items)
  pub fresh : IsEmpty true inner

listed_texts : (texts : List (List ℕ)) (a : Nodes) (kind : ListKind) (tight : Bool) (items : ItemNodes) → texts ++ texts_in (nodes_before a (list_node kind tight items no_nodes)) ≡ (texts ++ texts_in a) ++ texts_in_items items
unfolding texts_in
listed_texts texts a kind tight items =
    ap (λ z. texts ++ z) (texts_before a (list_node kind tight items no_nodes) ∙ ap (λ z. texts_in a ++ z) (append-nil (texts_in_items items))) ∙ sym (append_assoc texts (texts_in a) (texts_in_items items))

listed_definitions : (definitions : List LinkDefinition) (a : Nodes) (kind : ListKind) (tight : Bool) (items : ItemNodes) →
    definitions ++ definitions_in (nodes_before a (list_node kind tight items no_nodes)) ≡ (definitions ++ definitions_in a) ++ definitions_in_items items
unfolding definitions_in
listed_definitions definitions a kind tight items =
    ap (λ z. definitions ++ z) (earlier_definitions a (list_node kind tight items no_nodes) ∙ ap (λ z. definitions_in a ++ z) (append-nil (definitions_in_items items)))
    ∙ sym (append_assoc definitions (definitions_in a) (definitions_in_items items))

abbrev ended_list : List Group → (gap : Bool) → ListKind → (tight : Bool) → ItemNodes → ListSoFar
ended_list groups gap kind tight items = with_item (list_of groups kind gap) (Listed kind tight items)

handed_list : (e : EntityTable) (in_item : Bool) (groups : List Group) (b : ℕ) (gap : Bool) (kind : ListKind) (tight : Bool) (items : ItemNodes) (blank : Bool) (lines : ℕ) →
    handed_nodes e in_item (summary groups (ended_block (group_with b gap (Listed kind tight items))) blank lines)
    ≡ (let l = ended_list groups gap kind tight items in nodes_before (item_front in_item l) (list_node l.kind l.tight l.items no_nodes))
unfolding handed_groups handed_last
handed_list e in_item groups b gap kind tight items blank lines =
    let l = list_of groups kind gap in
    ap (tasked in_item) (merged_list groups b gap kind tight items) ∙ tasked_list in_item (nodes_of l.front) l.kind (l.tight && tight) (items_before l.items items)

pub into_list : (g : Gathering) (e : EntityTable) (in_item : Bool) (groups : List Group) (b : ℕ) (gap : Bool) (kind : ListKind) (tight : Bool) (items : ItemNodes) (blank : Bool) (lines : ℕ) (texts : List (List ℕ)) (definitions : List LinkDefinition) →
    HasGathered g texts definitions (handed_nodes e in_item (summary groups (ended_block (group_with b gap (Listed kind tight items))) blank lines)) →
    (let l = ended_list groups gap kind tight items in (gathered_texts g ≡ texts_to_item in_item texts l) × (gathered_definitions g ≡ definitions_to_item in_item definitions l))
into_list g e in_item groups b gap kind tight items blank lines texts definitions h =
    let l = ended_list groups gap kind tight items in
    let had = subst (λ z. HasGathered g texts definitions z) (handed_list e in_item groups b gap kind tight items blank lines) h in
    (had.0 ∙ listed_texts texts (item_front in_item l) l.kind l.tight l.items, had.1 ∙ listed_definitions definitions (item_front in_item l) l.kind l.tight l.items)

pub from_list : (g : Gathering) (e : EntityTable) (in_item : Bool) (groups : List Group) (b : ℕ) (gap : Bool) (kind : ListKind) (tight : Bool) (items : ItemNodes) (blank : Bool) (lines : ℕ) (texts : List (List ℕ)) (definitions : List LinkDefinition) →
    (let l = ended_list groups gap kind tight items in (gathered_texts g ≡ texts_to_item in_item texts l) × (gathered_definitions g ≡ definitions_to_item in_item definitions l)) →
    HasGathered g texts definitions (handed_nodes e in_item (summary groups (ended_block (group_with b gap (Listed kind tight items))) blank lines))
from_list g e in_item groups b gap kind tight items blank lines texts definitions h =
    let l = ended_list groups gap kind tight items in
    subst (λ z. HasGathered g texts definitions z) (sym (handed_list e in_item groups b gap kind tight items blank lines))
    (h.0 ∙ sym (listed_texts texts (item_front in_item l) l.kind l.tight l.items), h.1 ∙ sym (listed_definitions definitions (item_front in_item l) l.kind l.tight l.items))

not_either : (a b : Bool) → (not a || not b) ≡ not (a && b)
not_either true b = refl
not_either false b = refl

one_more : {X : Type 0} (xs ys zs : List X) → (xs ++ ys) ++ zs ≡ xs ++ (ys ++ (zs ++ []))
one_more xs ys zs = append_assoc xs ys zs ∙ ap (λ z. xs ++ (ys ++ z)) (sym (append-nil zs))

pushed_texts : (texts : List (List ℕ)) (items : ItemNodes) (n : Nodes) → (texts ++ texts_in_items items) ++ texts_in n ≡ texts ++ texts_in_items (items_before items (item_node n no_item_nodes))
unfolding texts_in_items
pushed_texts texts items n = one_more texts (texts_in_items items) (texts_in n) ∙ ap (λ z. texts ++ z) (sym (item_texts_before items (item_node n no_item_nodes)))

pushed_definitions : (definitions : List LinkDefinition) (items : ItemNodes) (n : Nodes) →
    (definitions ++ definitions_in_items items) ++ definitions_in n ≡ definitions ++ definitions_in_items (items_before items (item_node n no_item_nodes))
unfolding definitions_in_items
pushed_definitions definitions items n = one_more definitions (definitions_in_items items) (definitions_in n) ∙ ap (λ z. definitions ++ z) (sym (item_definitions_before items (item_node n no_item_nodes)))

pushed_items : (at : ℕ) (items : ItemNodes) (n : Nodes) →
    placed_before (placed_items at items) (item (placed (at + length (texts_in_items items)) n) no_items) ≡ placed_items at (items_before items (item_node n no_item_nodes))
unfolding placed_items
pushed_items at items n = sym (placed_items_before at items (item_node n no_item_nodes))

pub item_over : (level : Level) (inner : Box Level Global) (list : OpenList) (new_inner : Level) (new_list : OpenList) (before after : Gathering) → level.last ≡ open_block.List inner list → EndsItem inner.value list before new_inner new_list after →
    (in_item : Bool) (groups : List Group) (last : Last) (was : Bool) (lines : ℕ) (texts : List (List ℕ)) (definitions : List LinkDefinition) →
    HasGathered before texts definitions (handed_nodes before.entities.now in_item (summary groups last was lines)) → StandsFor before.entities.now (length texts) in_item level (summary groups last was lines) →
    ItemIsOver before.entities.now in_item groups last texts definitions new_inner new_list after
unfolding last_groups ended_last mark_of container_part
item_over level inner list new_inner new_list before after is ends in_item groups last was lines texts definitions had st =
    go last had (subst (λ z. StandsForLast e (behind_over e (length texts) in_item groups last) z groups last) is st.1)
  where
    e : EntityTable
    e = before.entities.now

    part : (b : ℕ) (gap : Bool) (p : Part) → HasGathered before texts definitions (handed_nodes e in_item (summary groups (ended_block (group_with b gap p)) was lines)) →
        StandsForLast e (behind_over e (length texts) in_item groups (ended_block (group_with b gap p))) (open_block.List inner list) groups (ended_block (group_with b gap p)) →
        ItemIsOver e in_item groups (ended_block (group_with b gap p)) texts definitions new_inner new_list after
    part b gap (Leaves leaves) had st = absurd st.0
    part b gap (Quoted nodes) had st = absurd st.0
    part b gap (Listed kind tight items) had st =
        let same = ends.1 st.0.0 in
        let t = into_list before e in_item groups b gap kind tight items was lines texts definitions had in
        record {
          begin = b;
          gap = gap;
          kind = kind;
          tight = tight;
          items = items;
          groups_are = refl;
          ended_is = refl;
          mark_is = refl;
          begun_is = refl;
          over_is = refl;
          texts_are = same.2 ∙ t.0;
          definitions_are = same.3 ∙ t.1;
          stands = subst (λ z. StandsForList (behind_over e (length texts) in_item groups (ended_block (group_with b gap (Listed kind tight items)))) z groups gap (Listed kind tight items)) (sym same.1) st.0;
          fresh = subst (IsEmpty true) (sym same.0) st.1;
        }

    go : (last : Last) → HasGathered before texts definitions (handed_nodes e in_item (summary groups last was lines)) →
        StandsForLast e (behind_over e (length texts) in_item groups last) (open_block.List inner list) groups last → ItemIsOver e in_item groups last texts definitions new_inner new_list after
    go nothing_yet had st = absurd st
    go (ended_block g) had st = part g.begin g.gap g.part had st
    go (open_leaf b gap leaf) had st = absurd st
    go (open_container b gap bare Quote i) had st = absurd st
    go (open_container b gap bare (Item m needed) i) had st =
        let so_far = list_of groups (kind_of m) gap in
        let at = length texts + length (texts_in (item_front in_item so_far)) in
        let T = texts_to_item in_item texts so_far in
        let D = definitions_to_item in_item definitions so_far in
        let item_in = in_item_of e at inner list groups b gap bare m needed i st in
        let N = closed_nodes e true i in
        let one = item_node N no_item_nodes in
        let tight = is_tight_inside (closed e i) in
        let done = ends.0 item_in.open_is i T D (into_item before e in_item groups b gap bare m needed i was lines texts definitions had)
        (subst (λ z. StandsFor e z true inner.value i) (behind_items in_item texts so_far) item_in.inside) in
        record {
          begin = b;
          gap = gap;
          kind = kind_of m;
          tight = tight;
          items = one;
          groups_are = refl;
          ended_is = refl;
          mark_is = refl;
          begun_is = refl;
          over_is = refl;
          texts_are = done.0.0 ∙ pushed_texts (texts ++ texts_in (item_front in_item so_far)) so_far.items N;
          definitions_are = done.0.1 ∙ pushed_definitions (definitions ++ definitions_in (item_front in_item so_far)) so_far.items N;
          stands = (
            done.1.0,
            (
              done.1.1 ∙ item_in.items_are.0,
              done.1.2 ∙ ap (λ z. z || not tight) item_in.items_are.1 ∙ not_either so_far.tight tight,
              done.1.3 ∙ ap (λ z. placed_before z (item (placed (length T) N) no_items)) item_in.items_are.2
                  ∙ ap (λ z. placed_before (placed_items at so_far.items) (item (placed z N) no_items)) (sym (behind_items in_item texts so_far))
                  ∙ pushed_items at so_far.items N,
            ),
            done.1.4,
          );
          fresh = done.2;
        }

pub list_stands : (e : EntityTable) (at : ℕ) (x : OpenBlock) (inner : Level) (list : OpenList) (groups : List Group) (b : ℕ) (gap : Bool) (p : Part) → IsListOf inner list x → StandsForList at list groups gap p → IsEmpty true inner →
    StandsForLast e at x groups (ended_block (group_with b gap p))
list_stands e at (open_block.List' q over last in_item begun blank spaced held) inner list groups b gap p is st fresh =
    (subst (λ z. StandsForList at z groups gap p) is.1 st, subst (IsEmpty true) is.0 fresh)
list_stands e at open_block.Shut inner list groups b gap p is st fresh = absurd is
list_stands e at (open_block.Leaf held) inner list groups b gap p is st fresh = absurd is
list_stands e at (open_block.Quote' q over last in_item begun blank spaced) inner list groups b gap p is st fresh = absurd is

-- ---- a blank line outside of the items

pub between_added : (room : ℕ) (level new : Level) (inner : Box Level Global) (list : OpenList) (new_inner : Level) (new_list : OpenList) (before after : Gathering) (l : BlockLine) → level.last ≡ open_block.List inner list →
    EndsItem inner.value list before new_inner new_list after → new.over ≡ level.over → HasRestOf level new → IsListOf new_inner new_list new.last →
    (in_item : Bool) (s : Summary) (texts : List (List ℕ)) (definitions : List LinkDefinition) → IsReadBehind room level before in_item s texts definitions l → (is_apart_after (last_in s) l ≡ true) × (is_blank_line l ≡ true) →
    (blank : Bool) → blank ≡ gap_behind (line_added before.entities.now (suc room) s l) → IsAdded before.entities.now room in_item s texts definitions l (record new { blank = blank }) after
unfolding begin_after closed last_groups
between_added room level new inner list new_inner new_list before after l is ends over marks held in_item (summary groups last was lines) texts definitions r c blank blank_is =
    let e = before.entities.now in
    let s = summary groups last was lines in
    let o = item_over level inner list new_inner new_list before after is ends in_item groups last was lines texts definitions r.0 r.1 in
    let G = group_with o.begin o.gap (Listed o.kind o.tight o.items) in
    let S = summary groups (ended_block G) true (suc lines) in
    let added : line_added e (suc room) s l ≡ S = apart_added e room s l c.0 ∙ ap (λ z. begin_after e (line_added e room) z s l) c.1 ∙ ap (λ z. summary groups z true (suc lines)) o.ended_is in (
      apart_sinks room s l c.0 ∙ blank_sinks room l c.1,
      subst (λ z. HasGathered after texts definitions (handed_nodes e in_item z)) (sym added) (from_list after e in_item groups o.begin o.gap o.kind o.tight o.items true (suc lines) texts definitions (o.texts_are, o.definitions_are)),
      subst (λ z. StandsFor e (length texts) in_item (record new { blank = blank }) z) (sym added) (
        (
          ap (λ z. blocks_view z.items) over ∙ r.1.0.0 ∙ ap (λ z. placed (length texts) (tasked in_item z)) o.over_is,
          marks.0 ∙ r.1.0.1,
          marks.1 ∙ r.1.0.2 ∙ o.begun_is,
          blank_is ∙ ap gap_behind added,
          marks.2 ∙ r.1.0.4 ∙ ap (λ z. not (is_tight_inside (merged groups z))) o.groups_are,
        ),
        list_stands e (length texts + length (texts_in (item_front in_item (list_of groups o.kind o.gap)))) new.last new_inner new_list groups o.begin o.gap (Listed o.kind o.tight o.items) held o.stands o.fresh,
      ),
    )

-- ---- the next item

pub next_added : (less : ℕ) (level new : Level) (inner : Box Level Global) (list : OpenList) (mid_inner inner_new : Level) (mid_list : OpenList) (before mid after : Gathering) (l il : BlockLine) (m : Marker) (needed : ℕ) → level.last ≡ open_block.List inner list →
    EndsItem inner.value list before mid_inner mid_list mid → mid.entities.now ≡ before.entities.now → BeginsBehind less mid_inner mid il inner_new after → sinks less no_summary il ≡ false → il ≡ opened (Item m needed) l →
    new.over ≡ level.over → HasRestOf level new → IsListOf inner_new (goes_on_with mid_list needed level.blank) new.last →
    (in_item : Bool) (s : Summary) (texts : List (List ℕ)) (definitions : List LinkDefinition) → IsReadBehind (suc less) level before in_item s texts definitions l →
    (is_apart_after (last_in s) l ≡ true) × (is_blank_line l ≡ false) × (begun l ≡ Holds (Item m needed)) × (same_mark (mark_of (last_in s)) (list_mark (begun l)) ≡ true) →
    (blank : Bool) → blank ≡ gap_behind (line_added before.entities.now (suc (suc less)) s l) → IsAdded before.entities.now (suc less) in_item s texts definitions l (record new { blank = blank }) after
unfolding begin_after closed last_groups container_part
next_added less level new inner list mid_inner inner_new mid_list before mid after l il m needed is ends entities begins fits opens over marks held in_item (summary groups last was lines) texts definitions r c blank blank_is =
    let e = before.entities.now in
    let room = suc less in
    let s = summary groups last was lines in
    let o = item_over level inner list mid_inner mid_list before mid is ends in_item groups last was lines texts definitions r.0 r.1 in
    let first = first_last e _ level.last groups last r.1.1 in
    let G = group_with o.begin o.gap (Listed o.kind o.tight o.items) in
    let gs = merged groups (last_groups e last) in
    let gs_are : gs ≡ merged groups (G ∷ []) = ap (λ z. merged groups z) o.groups_are in
    let gap = summary_gap last was in
    let container = Item m needed in
    let i_new = line_added e room no_summary (opened container l) in
    let bare = is_blank_line (opened container l) in
    let S = summary gs (open_container lines gap bare container i_new) false (suc lines) in
    let added : line_added e (suc room) s l ≡ S =
    apart_added e room s l c.0 ∙ ap (λ z. begin_after e (line_added e room) z s l) c.1 ∙ begun_container e room gs gap lines l container c.2 in
    let mark : list_mark (begun l) ≡ Some (kind_of m) = ap list_mark c.2 in
    let same : is_same_list o.kind (kind_of m) ≡ true = ap (λ z. same_mark z (Some (kind_of m))) (sym o.mark_is) ∙ ap (same_mark (mark_of last)) (sym mark) ∙ c.3 in
    let more = item_more (list_of groups o.kind o.gap) o.tight o.items gap in
    let list_is : list_of gs (kind_of m) gap ≡ more = ap (λ z. list_of z (kind_of m) gap) gs_are ∙ list_next groups o.begin o.gap o.kind o.tight o.items (kind_of m) gap same in
    let so_far = list_of gs (kind_of m) gap in
    let T = texts_to_item in_item texts so_far in
    let D = definitions_to_item in_item definitions so_far in
    let n : less + 1 ≡ room = omega arith in
    let done = inside_begun less room true mid_inner mid (opened container l) inner_new after T D n (empty_over mid.entities.now (length T) true mid_inner o.fresh)
    (subst (λ z. BeginsBehind less mid_inner mid z inner_new after) opens begins) (o.texts_are ∙ ap (texts_to_item in_item texts) (sym list_is)) (o.definitions_are ∙ ap (definitions_to_item in_item definitions) (sym list_is)) in
    let inside_now : HasGathered after T D (handed_nodes e true i_new) × StandsFor e (length T) true inner_new i_new =
    subst (λ z. HasGathered after T D (handed_nodes z true (line_added z room no_summary (opened container l))) × StandsFor z (length T) true inner_new (line_added z room no_summary (opened container l))) entities done in
    let at = length texts + length (texts_in (item_front in_item so_far)) in
    let at_is : length texts + length (texts_in (item_front in_item (list_of groups o.kind o.gap))) ≡ at = ap (λ (z : ListSoFar). length texts + length (texts_in (item_front in_item z))) (sym list_is) in
    let part = container_part container (closed e i_new) in
    let tight : is_tight_inside (merged gs (group_with lines gap part ∷ [])) ≡ is_tight_inside gs =
    tight_joined gs lines gap part (last_marks e groups last (Some (kind_of m)) first ∙ ap (same_mark (mark_of last)) (sym mark) ∙ c.3) in
    let stands = o.stands.1 in
    let was_open = list_of groups o.kind o.gap in
    let new_stands = item_stands e at new.last inner_new (goes_on_with mid_list needed level.blank) gs lines gap bare m needed i_new held (record {
      open_is = refl;
      needed_is = refl;
      bare_is = bare_begun e less room (length T) (opened container l) inner_new n inside_now.1;
      items_are = (
        stands.0 ∙ ap (λ (z : ListSoFar). z.kind) (sym list_is),
        ap (λ z. z || level.blank) stands.1 ∙ ap (λ z. not (was_open.tight && o.tight) || z) r.1.0.3 ∙ not_and (was_open.tight && o.tight) gap ∙ ap (λ (z : ListSoFar). not z.tight) (sym list_is),
        stands.2 ∙ ap (λ z. placed_items z (items_before was_open.items o.items)) at_is ∙ ap (λ (z : ListSoFar). placed_items at z.items) (sym list_is),
      );
      inside = subst (λ z. StandsFor e z true inner_new i_new) (sym (behind_items in_item texts so_far)) inside_now.1;
    }) in (
      apart_sinks room s l c.0 ∙ held_fits room less container l il false n c.2 opens fits,
      subst (λ z. HasGathered after texts definitions (handed_nodes e in_item z)) (sym added) (from_item after e in_item gs lines gap bare m needed i_new false (suc lines) texts definitions inside_now.0),
      subst (λ z. StandsFor e (length texts) in_item (record new { blank = blank }) z) (sym added) (
        (
          ap (λ z. blocks_view z.items) over ∙ r.1.0.0 ∙ ap (λ z. placed (length texts) (tasked in_item z)) (o.over_is ∙ ap (λ (z : ListSoFar). nodes_of z.front) (sym list_is)),
          marks.0 ∙ r.1.0.1,
          marks.1 ∙ r.1.0.2 ∙ o.begun_is,
          blank_is ∙ ap gap_behind added,
          marks.2 ∙ r.1.0.4 ∙ ap not (sym tight),
        ),
        new_stands,
      ),
    )

-- a next item that begins a container too deep
pub next_sunk : (room less : ℕ) (l il : BlockLine) (m : Marker) (needed : ℕ) (s : Summary) → less + 1 ≡ room → is_apart_after (last_in s) l ≡ true → begun l ≡ Holds (Item m needed) → il ≡ opened (Item m needed) l → sinks less no_summary il ≡ true → sinks room s l ≡ true
next_sunk room less l il m needed s n apart is opens deep = apart_sinks room s l apart ∙ held_fits room less (Item m needed) l il true n is opens deep

-- ---- the open item ends

not_same : (a b : Bool) → not a ≡ not b → a ≡ b
not_same true true h = refl
not_same false false h = refl
not_same true false h = absurd (let x : ⊥ = cc in x)
not_same false true h = absurd (let x : ⊥ = cc in x)

pub item_ends : (inner got new : Level) (list new_list : OpenList) (before after : Gathering) (blocks : List b.Block) → got ≡ inner → ClosesAll got before blocks after → list_view new_list ≡ list_view_with list blocks got.spaced → new_list.item_open ≡ false → new_list.parted ≡ got.spaced → IsEmpty true new →
    EndsOpenItem inner list before new new_list after
item_ends inner got new list new_list before after blocks is closes view shut parted empty (summary groups last was lines) texts definitions had st =
    let e = before.entities.now in
    let s = summary groups last was lines in
    let done = subst (λ z. ClosesAll z before blocks after) is closes true s texts definitions had st in
    let kind : kind_view new_list.kind ≡ kind_view list.kind = cc in
    let tight : not new_list.loose ≡ not (list.loose || got.spaced) = cc in
    let items : items_view new_list.items.items ≡ placed_before (items_view list.items.items) (item (blocks_view blocks) no_items) = cc in (
      done.0,
      (
        shut,
        kind,
        not_same new_list.loose (list.loose || got.spaced) tight ∙ ap (λ (z : Level). list.loose || z.spaced) is ∙ ap (λ z. list.loose || z) st.0.4,
        items ∙ ap (λ z. placed_before (items_view list.items.items) (item z no_items)) done.1,
        parted ∙ ap (λ (z : Level). z.spaced) is ∙ st.0.4,
      ),
      empty,
    )
