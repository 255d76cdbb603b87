-- Closing a level gives the blocks of its lines.
use Rattle.std.proofs.Common.{Box, Global, Result, Ok, Err, IfOk, ◌≡◌, ℕ, ◌+◌, Bool, true, false, not, ◌&&◌, ◌||◌, if◌then◌else◌, List, ◌++◌, length, length-append, refl, sym, ◌∙◌, ap, subst}
use Rattle.mdtext.specs.EntityTable.{EntityTable}
use Rattle.mdleaf.specs.DefinedLinks.{LinkDefinition}
use Rattle.blockspec.specs.BlockKinds.{Quote, Item}
use Rattle.blockspec.specs.BlockTree.{block_quote, no_blocks, no_items}
use Rattle.blockspec.specs.BlockTree as tree
use Rattle.mdblock.specs.BlockView.{blocks_view, items_view}
use Rattle.mdblock.specs.held.ClosedViews.{list_view, list_view_with}
use Rattle.mdblock.specs.held.HeldLevel.{behind_over, StandsFor, StandsForLast, StandsForList, HasGathered, ClosesAll}
use Rattle.mdblock.specs.held.HeldNodes.{list_of, over_behind, over_nodes, handed_nodes, handed_groups, handed_last, closed_nodes, tasked}
use Rattle.blockspec.specs.LineSummary.{summary, Last, nothing_yet, ended_block, open_leaf, open_container, closed, last_groups}
use Rattle.blockspec.specs.Lists.{Part, Leaves, Quoted, Listed, kind_of, items_before, is_tight_inside, nodes_of}
use Rattle.blockspec.specs.NodeTree.{Nodes, no_nodes, quote_node, no_item_nodes, item_node, texts_in, texts_in_items, definitions_in, definitions_in_items, placed, placed_items}
use Rattle.mdblock.specs.held.TreesBehind.{nodes_before, blocks_before, placed_before}
use Rattle.mdblock.specs.declared.blocks.Block.{Block}
use Rattle.mdblock.specs.declared.container.lists.OpenList.{OpenList}
use Rattle.mdblock.specs.declared.gathering.Gathering.{Gathering}
use Rattle.mdblock.specs.declared.open_blocks.Level.{Level}
use Rattle.mdblock.specs.declared.open_blocks.OpenBlock as open_block
use Rattle.mdblock.proofs.ClosingLaws.{closed_nothing, closed_quote, handed_quote, tasked_quote, quote_texts, quote_definitions, quote_placed, closed_item, closed_list, handed_item, tasked_list, list_texts, list_definitions, list_placed, ended_placed, behind}
use Rattle.mdblock.proofs.HeldNodesLaws.{over_ended}

abbrev Yes : Bool → Type 0
Yes true = Unit {0}
Yes false = ⊥

-- ---- nothing is open

pub shut_closes : (level : Level) → level.last ≡ open_block.Shut → (g : Gathering) → ClosesAll level g level.over.items g
unfolding closed last_groups handed_groups handed_last
shut_closes level is g in_item (summary before last blank lines) texts definitions h st =
    go last h st.0.0 (behind_over e (length texts) in_item before last) (subst (λ z. StandsForLast e (behind_over e (length texts) in_item before last) z before last) is st.1)
  where
    e : EntityTable
    e = g.entities.now

    go : (last : Last) → HasGathered g texts definitions (handed_nodes e in_item (summary before last blank lines)) →
        blocks_view level.over.items ≡ placed (length texts) (tasked in_item (over_nodes e before last)) →
        (at : ℕ) → StandsForLast e at open_block.Shut before last →
        HasGathered g texts definitions (closed_nodes e in_item (summary before last blank lines))
        × (blocks_view level.over.items ≡ placed (length texts) (closed_nodes e in_item (summary before last blank lines)))
    go nothing_yet h over at st = (h, over ∙ ap (placed (length texts)) (sym (closed_nothing e in_item before blank lines)))
    go (ended_block b) h over at st = (h, over ∙ ap (λ z. placed (length texts) (tasked in_item z)) (sym (over_ended before b.begin b.gap b.part st)))
    go (open_leaf begin gap leaf) h over at st = absurd st
    go (open_container begin gap bare container inner) h over at st = absurd st

-- ---- a block quote is open

-- what has been handed in, as lists
abbrev Has : (have : List (List ℕ)) → (known : List LinkDefinition) → (texts : List (List ℕ)) → (definitions : List LinkDefinition) → Nodes → Type 0
Has have known texts definitions nodes = (have ≡ texts ++ texts_in nodes) × (known ≡ definitions ++ definitions_in nodes)

into_quote : (have : List (List ℕ)) (known : List LinkDefinition) (texts : List (List ℕ)) (definitions : List LinkDefinition) (a inner : Nodes) →
    Has have known texts definitions (nodes_before a (quote_node inner no_nodes)) → Has have known (texts ++ texts_in a) (definitions ++ definitions_in a) inner
into_quote have known texts definitions a inner h = (h.0 ∙ quote_texts texts a inner, h.1 ∙ quote_definitions definitions a inner)

from_quote : (have : List (List ℕ)) (known : List LinkDefinition) (texts : List (List ℕ)) (definitions : List LinkDefinition) (a inner : Nodes) →
    Has have known (texts ++ texts_in a) (definitions ++ definitions_in a) inner → Has have known texts definitions (nodes_before a (quote_node inner no_nodes))
from_quote have known texts definitions a inner h = (h.0 ∙ sym (quote_texts texts a inner), h.1 ∙ sym (quote_definitions definitions a inner))

pub quote_closes : (level : Level) (inner : Box Level Global) → level.last ≡ open_block.Quote inner → (old new : Gathering) (blocks all : List Block) →
    ClosesAll inner.value old blocks new →
    blocks_view all ≡ blocks_before (blocks_view level.over.items) (tree.block (block_quote (blocks_view blocks)) no_blocks) →
    ClosesAll level old all new
quote_closes level inner is old new blocks all closes pushed in_item (summary before last blank lines) texts definitions h st =
    go last h st.0.0 (behind_over e (length texts) in_item before last) refl (subst (λ z. StandsForLast e (behind_over e (length texts) in_item before last) z before last) is st.1)
  where
    e : EntityTable
    e = old.entities.now

    go : (last : Last) → HasGathered old texts definitions (handed_nodes e in_item (summary before last blank lines)) →
        blocks_view level.over.items ≡ placed (length texts) (tasked in_item (over_nodes e before last)) →
        (at : ℕ) → at ≡ behind_over e (length texts) in_item before last → StandsForLast e at (open_block.Quote inner) before last →
        HasGathered new texts definitions (closed_nodes e in_item (summary before last blank lines))
        × (blocks_view all ≡ placed (length texts) (closed_nodes e in_item (summary before last blank lines)))
    go nothing_yet h over at is-at st = absurd st
    go (ended_block b) h over at is-at st = absurd st
    go (open_leaf begin gap leaf) h over at is-at st = absurd st
    go (open_container begin gap bare (Item marker needed) inner_s) h over at is-at st = absurd st
    go (open_container begin gap bare Quote (summary b l k n)) h over at is-at st =
        let s = summary b l k n in
        let a = tasked in_item (nodes_of before) in
        let handed = handed_quote e in_item before begin gap bare s blank lines ∙ tasked_quote in_item (nodes_of before) (handed_nodes e false s) in
        let given = closed_quote e in_item before begin gap bare s blank lines ∙ tasked_quote in_item (nodes_of before) (closed_nodes e false s) in
        let there = is-at ∙ behind texts a in
        let done = closes false s (texts ++ texts_in a) (definitions ++ definitions_in a)
        (into_quote _ _ texts definitions a (handed_nodes e false s) (subst (λ z. HasGathered old texts definitions z) handed h))
        (subst (λ z. StandsFor e z false inner.value s) there st) in (
          subst (λ z. HasGathered new texts definitions z) (sym given) (from_quote _ _ texts definitions a (closed_nodes e false s) done.0),
          pushed
              ∙ ap (λ z. blocks_before z (tree.block (block_quote (blocks_view blocks)) no_blocks)) over
              ∙ ap (λ z. blocks_before (placed (length texts) a) (tree.block (block_quote z) no_blocks)) (done.1 ∙ ap (λ n. placed n (closed_nodes e false s)) (sym (behind texts a)))
              ∙ sym (quote_placed (length texts) a (closed_nodes e false s))
              ∙ ap (placed (length texts)) (sym given),
        )

-- ---- a list is open

not_not : (b : Bool) → not (not b) ≡ b
not_not true = refl
not_not false = refl

not_either : (a b : Bool) → not (not a || not b) ≡ a && b
not_either true true = refl
not_either true false = refl
not_either false b = refl

pub not_both : (b : Bool) → b ≡ true → b ≡ false → ⊥
not_both b t f = subst Yes (sym t ∙ f) tt

-- its last item is over
pub ended_closes : (level : Level) (inner : Box Level Global) (list : OpenList) → level.last ≡ open_block.List inner list → list.item_open ≡ false → (g : Gathering) (all : List Block) →
    blocks_view all ≡ blocks_before (blocks_view level.over.items) (tree.block (list_view list) no_blocks) →
    ClosesAll level g all g
unfolding closed last_groups handed_groups handed_last
ended_closes level inner list is shut g all pushed in_item (summary before last blank lines) texts definitions h st =
    go last h st.0.0 (subst (λ z. StandsForLast e (behind_over e (length texts) in_item before last) z before last) is st.1)
  where
    e : EntityTable
    e = g.entities.now

    part : (begin : ℕ) (gap : Bool) (p : Part) → HasGathered g texts definitions (handed_nodes e in_item (summary before (ended_block (record { begin = begin; gap = gap; part = p })) blank lines)) →
        blocks_view level.over.items ≡ placed (length texts) (tasked in_item (over_behind before gap p)) →
        StandsForList (length texts + length (texts_in (tasked in_item (over_behind before gap p)))) list before gap p →
        HasGathered g texts definitions (closed_nodes e in_item (summary before (ended_block (record { begin = begin; gap = gap; part = p })) blank lines))
        × (blocks_view all ≡ placed (length texts) (closed_nodes e in_item (summary before (ended_block (record { begin = begin; gap = gap; part = p })) blank lines)))
    part begin gap (Leaves leaves) h over st = absurd st
    part begin gap (Quoted nodes) h over st = absurd st
    part begin gap (Listed kind tight items) h over st =
        let l = list_of before kind gap in
        let a = tasked in_item (nodes_of l.front) in
        let given = closed_list e in_item before begin gap kind tight items blank lines ∙ tasked_list in_item (nodes_of l.front) l.kind (l.tight && tight) (items_before l.items items) in (
          h,
          pushed
              ∙ ap (λ z. blocks_before z (tree.block (list_view list) no_blocks)) over
              ∙ ap (λ z. blocks_before (placed (length texts) a) (tree.block (tree.list z (not list.loose) (items_view list.items.items)) no_blocks)) st.1.0
              ∙ ap (λ z. blocks_before (placed (length texts) a) (tree.block (tree.list l.kind z (items_view list.items.items)) no_blocks)) (ap not st.1.1 ∙ not_not (l.tight && tight))
              ∙ ap (λ z. blocks_before (placed (length texts) a) (tree.block (tree.list l.kind (l.tight && tight) z) no_blocks)) st.1.2
              ∙ sym (ended_placed (length texts) a l.kind (l.tight && tight) (items_before l.items items))
              ∙ ap (placed (length texts)) (sym given),
        )

    go : (last : Last) → HasGathered g texts definitions (handed_nodes e in_item (summary before last blank lines)) →
        blocks_view level.over.items ≡ placed (length texts) (tasked in_item (over_nodes e before last)) →
        StandsForLast e (behind_over e (length texts) in_item before last) (open_block.List inner list) before last →
        HasGathered g texts definitions (closed_nodes e in_item (summary before last blank lines))
        × (blocks_view all ≡ placed (length texts) (closed_nodes e in_item (summary before last blank lines)))
    go nothing_yet h over st = absurd st
    go (ended_block b) h over st = part b.begin b.gap b.part h over st.0
    go (open_leaf begin gap leaf) h over st = absurd st
    go (open_container begin gap bare Quote inner_s) h over st = absurd st
    go (open_container begin gap bare (Item marker needed) (summary b l k n)) h over st = absurd (not_both list.item_open st.0 shut)

-- its last item is open
pub item_closes : (level : Level) (inner : Box Level Global) (list : OpenList) → level.last ≡ open_block.List inner list → list.item_open ≡ true → (old new : Gathering) (blocks all : List Block) →
    ClosesAll inner.value old blocks new →
    blocks_view all ≡ blocks_before (blocks_view level.over.items) (tree.block (list_view_with list blocks inner.value.spaced) no_blocks) →
    ClosesAll level old all new
item_closes level inner list is open' old new blocks all closes pushed in_item (summary before last blank lines) texts definitions h st =
    go last h st.0.0 (subst (λ z. StandsForLast e (behind_over e (length texts) in_item before last) z before last) is st.1)
  where
    e : EntityTable
    e = old.entities.now

    ended : (begin : ℕ) (gap : Bool) (p : Part) (at : ℕ) → StandsForList at list before gap p → ⊥
    ended begin gap (Leaves leaves) at st = st
    ended begin gap (Quoted nodes) at st = st
    ended begin gap (Listed kind tight items) at st = not_both list.item_open open' st.0

    go : (last : Last) → HasGathered old texts definitions (handed_nodes e in_item (summary before last blank lines)) →
        blocks_view level.over.items ≡ placed (length texts) (tasked in_item (over_nodes e before last)) →
        StandsForLast e (behind_over e (length texts) in_item before last) (open_block.List inner list) before last →
        HasGathered new texts definitions (closed_nodes e in_item (summary before last blank lines))
        × (blocks_view all ≡ placed (length texts) (closed_nodes e in_item (summary before last blank lines)))
    go nothing_yet h over st = absurd st
    go (ended_block b) h over st = absurd (ended b.begin b.gap b.part _ st.0)
    go (open_leaf begin gap leaf) h over st = absurd st
    go (open_container begin gap bare Quote inner_s) h over st = absurd st
    go (open_container begin gap bare (Item marker needed) (summary b l k n)) h over st =
        let s = summary b l k n in
        let items = list_of before (kind_of marker) gap in
        let a = tasked in_item (nodes_of items.front) in
        let m = handed_nodes e true s in
        let c = closed_nodes e true s in
        let early = items.tight && is_tight_inside (handed_groups e s) in
        let tight = items.tight && is_tight_inside (closed e s) in
        let handed = handed_item e in_item before begin gap bare marker needed s blank lines ∙ tasked_list in_item (nodes_of items.front) items.kind early (items_before items.items (item_node m no_item_nodes)) in
        let given = closed_item e in_item before begin gap bare marker needed s blank lines ∙ tasked_list in_item (nodes_of items.front) items.kind tight (items_before items.items (item_node c no_item_nodes)) in
        let there = ap (λ z. z + length (texts_in_items items.items)) (behind texts a) ∙ sym (length-append (texts ++ texts_in a) (texts_in_items items.items)) in
        let before_item = (texts ++ texts_in a) ++ texts_in_items items.items in
        let had = subst (λ z. HasGathered old texts definitions z) handed h in
        let done = closes true s before_item ((definitions ++ definitions_in a) ++ definitions_in_items items.items)
        (had.0 ∙ list_texts texts a items.kind early items.items m, had.1 ∙ list_definitions definitions a items.kind early items.items m)
        (subst (λ z. StandsFor e z true inner.value s) there (st.4, st.5)) in
        let front = placed (length texts) a in (
          subst (λ z. HasGathered new texts definitions z) (sym given)
              (done.0.0 ∙ sym (list_texts texts a items.kind tight items.items c), done.0.1 ∙ sym (list_definitions definitions a items.kind tight items.items c)),
          pushed
              ∙ ap (λ z. blocks_before z (tree.block (list_view_with list blocks inner.value.spaced) no_blocks)) over
              ∙ ap (λ z. blocks_before front (tree.block (tree.list z (not (list.loose || inner.value.spaced)) (placed_before (items_view list.items.items) (tree.item (blocks_view blocks) no_items))) no_blocks)) st.3.0
              ∙ ap (λ z. blocks_before front (tree.block (tree.list items.kind (not (z || inner.value.spaced)) (placed_before (items_view list.items.items) (tree.item (blocks_view blocks) no_items))) no_blocks)) st.3.1
              ∙ ap (λ z. blocks_before front (tree.block (tree.list items.kind (not (not items.tight || z)) (placed_before (items_view list.items.items) (tree.item (blocks_view blocks) no_items))) no_blocks)) st.4.4
              ∙ ap (λ z. blocks_before front (tree.block (tree.list items.kind z (placed_before (items_view list.items.items) (tree.item (blocks_view blocks) no_items))) no_blocks)) (not_either items.tight (is_tight_inside (closed e s)))
              ∙ ap (λ z. blocks_before front (tree.block (tree.list items.kind tight (placed_before z (tree.item (blocks_view blocks) no_items))) no_blocks)) st.3.2
              ∙ ap (λ z. blocks_before front (tree.block (tree.list items.kind tight (placed_before (placed_items (length texts + length (texts_in a)) items.items) (tree.item z no_items))) no_blocks)) (done.1 ∙ ap (λ n. placed n c) (sym there))
              ∙ sym (list_placed (length texts) a items.kind tight items.items c)
              ∙ ap (placed (length texts)) (sym given),
        )

pub if_ok : {X E : Type 0} (r : Result X E) (P Q : X → Type 0) → ((x : X) → P x → Q x) → IfOk r P → IfOk r Q
if_ok (Ok x) P Q f h = f x h
if_ok (Err e) P Q f h = h

-- the same of what was taken out of the box
pub taken_item_closes : (level : Level) (inner : Box Level Global) (got : Level) → got ≡ inner.value → (list : OpenList) → level.last ≡ open_block.List inner list → list.item_open ≡ true → (old new : Gathering) (blocks all : List Block) →
    ClosesAll got old blocks new →
    blocks_view all ≡ blocks_before (blocks_view level.over.items) (tree.block (list_view_with list blocks got.spaced) no_blocks) →
    ClosesAll level old all new
taken_item_closes level inner got is-got list is open' old new blocks all =
    subst (λ z. ClosesAll z old blocks new → blocks_view all ≡ blocks_before (blocks_view level.over.items) (tree.block (list_view_with list blocks z.spaced) no_blocks) → ClosesAll level old all new)
    (sym is-got) (item_closes level inner list is open' old new blocks all)

-- the same of a list that is put among the blocks that are over, with the item that ended last
pub open_list_closes : (level : Level) (inner : Box Level Global) (got : Level) → got ≡ inner.value → (list : OpenList) → level.last ≡ open_block.List inner list → list.item_open ≡ true → (old new : Gathering) (blocks all : List Block) (spaced : Bool) →
    spaced ≡ got.spaced →
    ClosesAll got old blocks new →
    blocks_view all ≡ blocks_before (blocks_view level.over.items) (tree.block (if list.item_open then list_view_with list blocks spaced else list_view list) no_blocks) →
    ClosesAll level old all new
open_list_closes level inner got is-got list is open' old new blocks all spaced same closes closed =
    let over = blocks_view level.over.items in
    taken_item_closes level inner got is-got list is open' old new blocks all closes
    (closed
    ∙ ap (λ z. blocks_before over (tree.block (if z then list_view_with list blocks spaced else list_view list) no_blocks)) open'
    ∙ ap (λ z. blocks_before over (tree.block (list_view_with list blocks z) no_blocks)) same)

pub ended_list_closes : (level : Level) (inner : Box Level Global) (list : OpenList) → level.last ≡ open_block.List inner list → list.item_open ≡ false → (g : Gathering) (blocks all : List Block) (spaced : Bool) →
    blocks_view all ≡ blocks_before (blocks_view level.over.items) (tree.block (if list.item_open then list_view_with list blocks spaced else list_view list) no_blocks) →
    ClosesAll level g all g
ended_list_closes level inner list is shut g blocks all spaced closed =
    ended_closes level inner list is shut g all
    (closed ∙ ap (λ z. blocks_before (blocks_view level.over.items) (tree.block (if z then list_view_with list blocks spaced else list_view list) no_blocks)) shut)
