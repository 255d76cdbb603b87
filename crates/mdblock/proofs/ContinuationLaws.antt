-- How a line continues what is open (CommonMark 4, 5.1, 5.2, 5.3), as the summary of the lines before it tells.
use Rattle.std.proofs.Common.{Box, Global, ◌≡◌, ℕ, Bool, true, false, not, ◌&&◌, ◌||◌, nat_le, List, [], ◌∷◌, ◌++◌, Option, Some, None, refl, sym, ◌∙◌, ap, subst}
use Rattle.std.specs.Prelude.{is_none, is_some}
use Rattle.mdtext.specs.EntityTable.{EntityTable}
use Rattle.mdscan.specs.declared.list_markers.Marker.{Marker}
use Rattle.blockspec.specs.BlockLine.{BlockLine, indentation, as_lazy}
use Rattle.blockspec.specs.BlankLines.{is_blank_line}
use Rattle.blockspec.specs.BlockKinds.{Lazy, Container, Holds, Quote, Item, Kind, Paragraph, Table, FencedCode, IndentedCode, HtmlBlock}
use Rattle.blockspec.specs.BlockStart.{start, begun}
use Rattle.blockspec.specs.ListItems.{item_of}
use Rattle.blockspec.specs.BlockTree.{ListKind}
use Rattle.blockspec.specs.ContainerLines.{inside, inside_where, matches, taken_off}
use Rattle.blockspec.specs.Laziness.{Tip, Text, Closed, is_text, continues_lazily}
use Rattle.blockspec.specs.LineSummary.{Summary, summary, Last, nothing_yet, ended_block, open_leaf, open_container, summary_tip, last_tip, is_apart_after, mark_of, part_mark}
use Rattle.blockspec.specs.Lists.{Part, Leaves, Quoted, Listed, Group, kind_of, is_same_list}
use Rattle.blockspec.specs.NodeTree.{ItemNodes}
use Rattle.blockspec.specs.OpenLeaf.{OpenLeaf, open_text, open_table, open_fence, open_code, open_html, done_heading, done_leaf, open_tip, leaf_from, next_text, next_leaf, is_parted}
use Rattle.blockspec.specs.Stretches.{step}
use Rattle.blockspec.specs.UnitBegin.{is_stop, list_mark, same_mark}
use Rattle.blockspec.proofs.ItemLaws.{same_list}
use Rattle.blockspec.proofs.LeafSteps.{IsLeaf, IsMade}
use Rattle.blockspec.proofs.OpenLeafLaws.{leaf_next, next_parts}
use Rattle.mdblock.specs.BlockView.{kind_view}
use Rattle.mdblock.specs.held.ContainerContinuations.{ContinuesInQuote, ContinuesInItem, ContinuesBetween, IsOneList, IsOutsideItem}
use Rattle.mdblock.specs.held.Continuations.{goes_on, IsOfLeaf}
use Rattle.mdblock.specs.held.HeldLevel.{StandsForLast, StandsForList, IsOpenKind, EndsIn, behind_over, is_list}
use Rattle.mdblock.specs.held.HeldNodes.{list_of, list_where, list_at}
use Rattle.mdblock.specs.held.LinesAdded.{ContinuesLast, ContinuesLevel, IsUnfollowed}
use Rattle.mdblock.specs.held.OpenLeaves.{IsLeafOf}
use Rattle.mdblock.specs.declared.block_starts.BlockStart.{BlockStart}
use Rattle.mdblock.specs.declared.container.lists.OpenList.{OpenList}
use Rattle.mdblock.specs.declared.leaf.Leaf as held
use Rattle.mdblock.specs.declared.leaf.Leaf.TheVariants as leaf
use Rattle.mdblock.specs.declared.open_blocks.Continuation.{Continuation}
use Rattle.mdblock.specs.declared.open_blocks.Continuation.TheVariants as continuation
use Rattle.mdblock.specs.declared.open_blocks.Level.{Level}
use Rattle.mdblock.specs.declared.open_blocks.OpenBlock.{OpenBlock}
use Rattle.mdblock.specs.declared.open_blocks.OpenBlock as open_block
use Rattle.mdblock.proofs.CloseLaws.{not_both}

-- ---- a container that the line does not match

abbrev LazyText : Bool → BlockLine → Bool
LazyText text l = text && not (is_blank_line l) && is_none (start Lazy [] l)

unmatched : (k : Container) (l : BlockLine) → matches k l ≡ false → inside k l ≡ as_lazy l
unfolding inside
unmatched k l m = ap (λ z. inside_where z k l) m

matched : (k : Container) (l : BlockLine) → matches k l ≡ true → inside k l ≡ taken_off k l
unfolding inside
matched k l m = ap (λ z. inside_where z k l) m

lazy_stays : (k : Container) (begin : ℕ) (gap bare : Bool) (s : Summary) (l : BlockLine) → matches k l ≡ false → l.lazy ≡ true →
    is_apart_after (open_container begin gap bare k s) l ≡ false
unfolding is_apart_after continues_lazily
lazy_stays k begin gap bare s l m z =
    ap (λ x. not ((x && not (bare && is_blank_line l)) || (l.lazy || LazyText (is_text (summary_tip s)) l))) m
    ∙ ap (λ x. not (x || LazyText (is_text (summary_tip s)) l)) z

text_tells : (k : Container) (begin : ℕ) (gap bare : Bool) (s : Summary) (l : BlockLine) → matches k l ≡ false → l.lazy ≡ false →
    is_apart_after (open_container begin gap bare k s) l ≡ not (LazyText (is_text (summary_tip s)) l)
unfolding is_apart_after continues_lazily
text_tells k begin gap bare s l m z =
    ap (λ x. not ((x && not (bare && is_blank_line l)) || (l.lazy || LazyText (is_text (summary_tip s)) l))) m
    ∙ ap (λ x. not (x || LazyText (is_text (summary_tip s)) l)) z

and_both : (a b c : Bool) → (a && b && c) ≡ (a && (b && c))
and_both true b c = refl
and_both false b c = refl

-- whether it goes on with a paragraph, as it was asked
text_asked : (k : Container) (begin : ℕ) (gap bare : Bool) (s : Summary) (l : BlockLine) (r c b : Bool) → matches k l ≡ false → l.lazy ≡ false →
    r ≡ is_text (summary_tip s) → c ≡ (not (is_blank_line l) && is_none (start Lazy [] l)) → (r && c) ≡ b →
    is_apart_after (open_container begin gap bare k s) l ≡ not b
text_asked k begin gap bare s l r c b m z ends asked is =
    text_tells k begin gap bare s l m z
    ∙ ap not (and_both (is_text (summary_tip s)) (not (is_blank_line l)) (is_none (start Lazy [] l)))
    ∙ ap (λ x. not (x && (not (is_blank_line l) && is_none (start Lazy [] l)))) (sym ends)
    ∙ ap (λ x. not (r && x)) (sym asked)
    ∙ ap not is

pub second_false : (a b : Bool) → b ≡ false → (a && b) ≡ false
second_false true b e = e
second_false false b e = refl

pub first_false : (a b : Bool) → a ≡ false → (a && b) ≡ false
first_false a b e = ap (λ z. z && b) e

pub both_true : (a b : Bool) → a ≡ true → b ≡ true → (a && b) ≡ true
both_true a b e f = ap (λ z. z && b) e ∙ f

-- ---- block quotes

pub quote_lazy : (inner : Level) (l : BlockLine) → l.lazy ≡ true → ContinuesInQuote inner l continuation.Lazy
quote_lazy inner l z entities at in_item s begin gap bare st right m = (lazy_stays Quote begin gap bare s l m z, unmatched Quote l m)

pub quote_text : (inner : Level) (l : BlockLine) (r c : Bool) → l.lazy ≡ false → EndsIn inner r → c ≡ (not (is_blank_line l) && is_none (start Lazy [] l)) → (r && c) ≡ true →
    ContinuesInQuote inner l continuation.Lazy
quote_text inner l r c z ends asked is entities at in_item s begin gap bare st right m =
    (text_asked Quote begin gap bare s l r c true m z (ends entities at in_item s st) asked is, unmatched Quote l m)

pub quote_outside : (inner : Level) (l : BlockLine) (r c : Bool) (opening : Option BlockStart) → l.lazy ≡ false → EndsIn inner r →
    c ≡ (not (is_blank_line l) && is_none (start Lazy [] l)) → (r && c) ≡ false → ContinuesInQuote inner l (continuation.Outside opening)
unfolding mark_of
quote_outside inner l r c opening z ends asked is entities at in_item s begin gap bare st right m =
    (text_asked Quote begin gap bare s l r c false m z (ends entities at in_item s st) asked is, refl, λ _. refl)

-- ---- lists

lazy_unmatched : (marker : Marker) (needed : ℕ) (l : BlockLine) → l.lazy ≡ true → matches (Item marker needed) l ≡ false
unfolding matches
lazy_unmatched marker needed l z = ap (λ x. not x && (is_blank_line l || nat_le needed (indentation l))) z

blank_matched : (marker : Marker) (needed : ℕ) (l : BlockLine) → l.lazy ≡ false → is_blank_line l ≡ true → matches (Item marker needed) l ≡ true
unfolding matches
blank_matched marker needed l z b =
    ap (λ x. not x && (is_blank_line l || nat_le needed (indentation l))) z ∙ ap (λ x. x || nat_le needed (indentation l)) b

short_unmatched : (list : OpenList) (marker : Marker) (l : BlockLine) → list.item_open ≡ true → l.lazy ≡ false → is_blank_line l ≡ false → IsOutsideItem list l →
    matches (Item marker list.needed) l ≡ false
unfolding matches
short_unmatched list marker l o z b out =
    ap (λ x. not x && (is_blank_line l || nat_le list.needed (indentation l))) z
    ∙ ap (λ x. x || nat_le list.needed (indentation l)) b
    ∙ sym (
    ap (λ x. x && not l.lazy && not (is_blank_line l) && nat_le list.needed (indentation l)) o
    ∙ ap (λ x. not x && not (is_blank_line l) && nat_le list.needed (indentation l)) z
    ∙ ap (λ x. not x && nat_le list.needed (indentation l)) b)
    ∙ out

-- an item that matches a blank line goes on with it unless it is bare
blank_tells : (marker : Marker) (needed : ℕ) (begin : ℕ) (gap bare : Bool) (s : Summary) (l : BlockLine) → l.lazy ≡ false → is_blank_line l ≡ true →
    is_apart_after (open_container begin gap bare (Item marker needed) s) l ≡ bare
unfolding is_apart_after continues_lazily
blank_tells marker needed begin gap bare s l z b =
    let text = is_text (summary_tip s) in
    let none = is_none (start Lazy [] l) in
    ap (λ x. not ((x && not (bare && is_blank_line l)) || (l.lazy || LazyText text l))) (blank_matched marker needed l z b)
    ∙ ap (λ x. not (not (bare && is_blank_line l) || (x || LazyText text l))) z
    ∙ ap (λ x. not (not (bare && x) || (text && not x && none))) b
    ∙ go bare text none
  where
    go : (bare text none : Bool) → not (not (bare && true) || (text && false && none)) ≡ bare
    go true true none = refl
    go true false none = refl
    go false text none = refl

pub item_lazy : (inner : Level) (list : OpenList) (l : BlockLine) → l.lazy ≡ true → ContinuesInItem inner list l continuation.Lazy
item_lazy inner list l z entities at in_item s marker begin gap bare st right o isbare one out =
    let m = lazy_unmatched marker list.needed l z in (lazy_stays (Item marker list.needed) begin gap bare s l m z, unmatched (Item marker list.needed) l m)

pub item_matched : (inner : Level) (list : OpenList) (l : BlockLine) → l.lazy ≡ false → is_blank_line l ≡ true → inner.begun ≡ true → ContinuesInItem inner list l continuation.Matched
item_matched inner list l z b begun entities at in_item s marker begin gap bare st right o isbare one out = (
  blank_tells marker list.needed begin gap bare s l z b ∙ isbare ∙ ap not begun,
  matched (Item marker list.needed) l (blank_matched marker list.needed l z b),
)

pub item_shut : (inner : Level) (list : OpenList) (l : BlockLine) (c : Continuation) → list.item_open ≡ false → ContinuesInItem inner list l c
item_shut inner list l c is entities at in_item s marker begin gap bare st right o isbare one out = absurd (not_both list.item_open o is)

pub item_between : (inner : Level) (list : OpenList) (l : BlockLine) → l.lazy ≡ false → is_blank_line l ≡ true → inner.begun ≡ false → ContinuesInItem inner list l continuation.Between
unfolding mark_of
item_between inner list l z b begun entities at in_item s marker begin gap bare st right o isbare one out =
    (blank_tells marker list.needed begin gap bare s l z b ∙ isbare ∙ ap not begun, b, refl)

pub between_between : (list : OpenList) (l : BlockLine) → is_blank_line l ≡ true → ContinuesBetween list l continuation.Between
unfolding is_apart_after mark_of
between_between list l b begin gap tight kind items o w one = (refl, b, refl)

pub item_text : (inner : Level) (list : OpenList) (l : BlockLine) (r c : Bool) → l.lazy ≡ false → is_blank_line l ≡ false → EndsIn inner r →
    c ≡ (not (is_blank_line l) && is_none (start Lazy [] l)) → (r && c) ≡ true → ContinuesInItem inner list l continuation.Lazy
item_text inner list l r c z b ends asked is entities at in_item s marker begin gap bare st right o isbare one out =
    let m = short_unmatched list marker l o z b out in
    (text_asked (Item marker list.needed) begin gap bare s l r c true m z (ends entities at in_item s st) asked is, unmatched (Item marker list.needed) l m)

mark_here : (list : OpenList) (marker : Marker) (begin : ℕ) (gap bare : Bool) (s : Summary) (l : BlockLine) → IsOneList (kind_view list.kind) (kind_of marker) →
    same_mark (mark_of (open_container begin gap bare (Item marker list.needed) s)) (list_mark (begun l)) ≡ same_mark (Some (kind_view list.kind)) (list_mark (begun l))
unfolding mark_of
mark_here list marker begin gap bare s l one = sym (one (list_mark (begun l)))

pub item_next : (inner : Level) (list : OpenList) (l : BlockLine) (r c : Bool) (next : Marker) → l.lazy ≡ false → is_blank_line l ≡ false → EndsIn inner r →
    c ≡ (not (is_blank_line l) && is_none (start Lazy [] l)) → (r && c) ≡ false →
    begun l ≡ Holds (item_of l next) → same_mark (Some (kind_view list.kind)) (list_mark (begun l)) ≡ true → ContinuesInItem inner list l (continuation.Next next)
item_next inner list l r c next z b ends asked is begins same entities at in_item s marker begin gap bare st right o isbare one out =
    let m = short_unmatched list marker l o z b out in (
      text_asked (Item marker list.needed) begin gap bare s l r c false m z (ends entities at in_item s st) asked is,
      b,
      begins,
      mark_here list marker begin gap bare s l one ∙ same,
    )

pub item_outside : (inner : Level) (list : OpenList) (l : BlockLine) (r c : Bool) (opening : Option BlockStart) → l.lazy ≡ false → is_blank_line l ≡ false → EndsIn inner r →
    c ≡ (not (is_blank_line l) && is_none (start Lazy [] l)) → (r && c) ≡ false →
    same_mark (Some (kind_view list.kind)) (list_mark (begun l)) ≡ false → ContinuesInItem inner list l (continuation.Outside opening)
item_outside inner list l r c opening z b ends asked is same entities at in_item s marker begin gap bare st right o isbare one out =
    let m = short_unmatched list marker l o z b out in (
      text_asked (Item marker list.needed) begin gap bare s l r c false m z (ends entities at in_item s st) asked is,
      mark_here list marker begin gap bare s l one ∙ same,
      λ w. absurd (not_both (is_blank_line l) w b),
    )

pub between_next : (list : OpenList) (l : BlockLine) (next : Marker) → is_blank_line l ≡ false → begun l ≡ Holds (item_of l next) →
    same_mark (Some (kind_view list.kind)) (list_mark (begun l)) ≡ true → ContinuesBetween list l (continuation.Next next)
unfolding is_apart_after mark_of
between_next list l next b begins same begin gap tight kind items o w one = (refl, b, begins, sym (one (list_mark (begun l))) ∙ same)

pub between_outside : (list : OpenList) (l : BlockLine) (opening : Option BlockStart) → is_blank_line l ≡ false →
    same_mark (Some (kind_view list.kind)) (list_mark (begun l)) ≡ false → ContinuesBetween list l (continuation.Outside opening)
unfolding is_apart_after mark_of
between_outside list l opening b same begin gap tight kind items o w one =
    (refl, sym (one (list_mark (begun l))) ∙ same, λ z. absurd (not_both (is_blank_line l) z b))

-- ---- the kind of a list is that of its first item

same_as : (one other : ListKind) → is_same_list one other ≡ true → IsOneList one other
same_as one other e None = refl
same_as one other e (Some m) = sym (same_list one other m e)

kept_kind : (same : Bool) (g : Group) (first : ListKind) (tight : Bool) (items : ItemNodes) (kind : ListKind) (gap : Bool) → is_same_list first kind ≡ same →
    IsOneList (list_where same g first tight items kind gap).kind kind
kept_kind true g first tight items kind gap e m = same_as first kind e m
kept_kind false g first tight items kind gap e m = refl

group_kind : (g : Group) (p : Part) (kind : ListKind) (gap : Bool) → IsOneList (list_at g p kind gap).kind kind
group_kind g (Listed first tight items) kind gap m = kept_kind (is_same_list first kind) g first tight items kind gap refl m
group_kind g (Leaves leaves) kind gap m = refl
group_kind g (Quoted nodes) kind gap m = refl

pub one_list : (before : List Group) (kind : ListKind) (gap : Bool) → IsOneList (list_of before kind gap).kind kind
one_list [] kind gap m = refl
one_list (g ∷ []) kind gap m = group_kind g g.part kind gap m
one_list (g ∷ n ∷ gs) kind gap m = one_list (n ∷ gs) kind gap m

-- ---- what stands last

-- a lazy line may stand behind this last block
abbrev MayBeLazy : Last → BlockLine → Type 0
MayBeLazy last l = l.lazy ≡ true → (is_blank_line l ≡ false) × (last_tip last ≡ Text)

abbrev LastContinues : OpenBlock → BlockLine → Continuation → Type 0
LastContinues x l c = (e : EntityTable) (at : ℕ) (before : List Group) (last : Last) → StandsForLast e at x before last → MayBeLazy last l → ContinuesLast last l c

level_continues : (level : Level) (x : OpenBlock) (l : BlockLine) (c : Continuation) → level.last ≡ x → LastContinues x l c → ContinuesLevel level l c
unfolding summary_tip
level_continues level x l c is f e at in_item (summary before last blank lines) st right =
    f e (behind_over e at in_item before last) before last (subst (λ z. StandsForLast e (behind_over e at in_item before last) z before last) is st.1) right

closed_no_text : Closed ≡ Text → ⊥
closed_no_text e = not_both (is_text Text) refl (ap is_text (sym e))

-- where nothing is open, no line is lazy
never_lazy : (last : Last) (l : BlockLine) → last_tip last ≡ Closed → MayBeLazy last l → l.lazy ≡ false
never_lazy last l tip right = go l.lazy refl
  where
    go : (b : Bool) → l.lazy ≡ b → b ≡ false
    go false e = refl
    go true e = absurd (closed_no_text (sym tip ∙ (right e).1))

pub shut_lazy : (level : Level) (l : BlockLine) (c : Continuation) → level.last ≡ open_block.Shut → l.lazy ≡ true → ContinuesLevel level l c
unfolding last_tip
shut_lazy level l c is z = level_continues level open_block.Shut l c is go
  where
    go : LastContinues open_block.Shut l c
    go e at before nothing_yet st right = absurd (not_both l.lazy z (never_lazy nothing_yet l refl right))
    go e at before (ended_block g) st right = absurd (not_both l.lazy z (never_lazy (ended_block g) l refl right))
    go e at before (open_leaf begin gap kept) st right = absurd st
    go e at before (open_container begin gap bare container inner) st right = absurd st

no_mark : (p : Part) (m : Option ListKind) → is_list p ≡ false → same_mark (part_mark p) m ≡ false
no_mark (Leaves leaves) m e = refl
no_mark (Quoted nodes) m e = refl
no_mark (Listed kind tight items) m e = absurd (not_both true refl e)

no_kind : (p : Part) → is_list p ≡ false → is_some (part_mark p) ≡ false
no_kind (Leaves leaves) e = refl
no_kind (Quoted nodes) e = refl
no_kind (Listed kind tight items) e = absurd (not_both true refl e)

pub shut_outside : (level : Level) (l : BlockLine) (opening : Option BlockStart) → level.last ≡ open_block.Shut → ContinuesLevel level l (continuation.Outside opening)
unfolding is_apart_after mark_of
shut_outside level l opening is = level_continues level open_block.Shut l (continuation.Outside opening) is go
  where
    go : LastContinues open_block.Shut l (continuation.Outside opening)
    go e at before nothing_yet st right = (refl, refl, λ _. refl)
    go e at before (ended_block g) st right = (refl, no_mark g.part (list_mark (begun l)) st, λ _. no_kind g.part st)
    go e at before (open_leaf begin gap kept) st right = absurd st
    go e at before (open_container begin gap bare container inner) st right = absurd st

-- ---- leaves

kept_goes : (kept : OpenLeaf) (l : BlockLine) → open_tip kept ≡ Text → l.lazy ≡ true → is_parted (next_leaf kept l) ≡ false
unfolding next_leaf
kept_goes (open_text text last above) l e z = ap (λ x. is_parted (next_text text last above x (is_blank_line l) (nat_le (indentation l) 3) l)) z
kept_goes (open_table above aligns head rows) l e z = absurd (closed_no_text e)
kept_goes (open_fence i m n info body) l e z = absurd (not_both (is_text Text) refl (ap is_text (sym e)))
kept_goes (open_code body blanks) l e z = absurd (closed_no_text e)
kept_goes (open_html kind text) l e z = absurd (not_both (is_text Text) refl (ap is_text (sym e)))
kept_goes (done_heading level text) l e z = absurd (closed_no_text e)
kept_goes (done_leaf leaves) l e z = absurd (closed_no_text e)

pub leaf_lazy : (level : Level) (x : held.Leaf) (l : BlockLine) → level.last ≡ open_block.Leaf x → l.lazy ≡ true → ContinuesLevel level l continuation.Matched
unfolding is_apart_after last_tip
leaf_lazy level x l is z = level_continues level (open_block.Leaf x) l continuation.Matched is go
  where
    go : LastContinues (open_block.Leaf x) l continuation.Matched
    go e at before nothing_yet st right = absurd st
    go e at before (ended_block g) st right = absurd st
    go e at before (open_leaf begin gap kept) st right = (kept_goes kept l (right z).1 z, tt)
    go e at before (open_container begin gap bare container inner) st right = absurd st

abbrev Takes : held.Leaf → BlockLine → Continuation → Type 0
Takes x l c =
    (entities : EntityTable) (kind : Kind) (first : BlockLine) (later : List BlockLine) → IsLeafOf entities x kind first later
    → (tip : List BlockLine → Tip) → goes_on c ≡ not (is_stop (step tip kind first later l))

-- a leaf is over before a line exactly if it does not take it
parted : (e : EntityTable) (x : held.Leaf) (l : BlockLine) (c : Continuation) (kind : Kind) (first : BlockLine) (later : List BlockLine) →
    Takes x l c → IsOpenKind kind → IsLeafOf e x kind first later → is_parted (next_leaf (leaf_from kind first later) l) ≡ not (goes_on c)
parted e x l c kind first later takes opened holds = sym (go x kind opened holds) ∙ not_stop (is_stop (step none kind first later l)) ∙ ap not (sym (takes e kind first later holds none))
  where
    none : List BlockLine → Tip
    none ls = Closed

    not_stop : (b : Bool) → b ≡ not (not b)
    not_stop true = refl
    not_stop false = refl

    law : (kind : Kind) → IsLeaf kind → IsMade kind later → is_stop (step none kind first later l) ≡ is_parted (next_leaf (leaf_from kind first later) l)
    law kind leaf made = next_parts first (later ++ l ∷ []) (step none kind first later l) ∙ ap is_parted (leaf_next none kind first later l leaf made)

    go : (x : held.Leaf) (kind : Kind) → IsOpenKind kind → IsLeafOf e x kind first later → is_stop (step none kind first later l) ≡ is_parted (next_leaf (leaf_from kind first later) l)
    go (leaf.Paragraph p) Paragraph opened holds = law Paragraph tt tt
    go (leaf.Fence f) (FencedCode i m n info closed) opened holds = law (FencedCode i m n info closed) tt opened
    go (leaf.Html h) (HtmlBlock kind) opened holds = law (HtmlBlock kind) tt tt
    go (leaf.Code k) IndentedCode opened holds = law IndentedCode tt tt
    go (leaf.Table t) (Table above) opened holds = law (Table above) tt (holds.0, holds.1)
    go x kind opened holds = absurd holds

pub leaf_continues : (level : Level) (x : held.Leaf) (l : BlockLine) (c : Continuation) → level.last ≡ open_block.Leaf x → Takes x l c → IsOfLeaf c → ContinuesLevel level l c
unfolding is_apart_after mark_of
leaf_continues level x l c is takes of = level_continues level (open_block.Leaf x) l c is go
  where
    told : (c : Continuation) (begin : ℕ) (gap : Bool) (kept : OpenLeaf) → IsOfLeaf c → is_parted (next_leaf kept l) ≡ not (goes_on c) → ContinuesLast (open_leaf begin gap kept) l c
    told continuation.Matched begin gap kept of p = (p, tt)
    told (continuation.Underlines level) begin gap kept of p = (p, tt)
    told continuation.Delimits begin gap kept of p = (p, tt)
    told continuation.Lazy begin gap kept of p = (p, tt)
    told continuation.Between begin gap kept of p = absurd of
    told (continuation.Next marker) begin gap kept of p = absurd of
    told (continuation.Outside opening) begin gap kept of p = (p, refl, λ _. refl)

    go : LastContinues (open_block.Leaf x) l c
    go e at before nothing_yet st right = absurd st
    go e at before (ended_block g) st right = absurd st
    go e at before (open_leaf begin gap kept) st right =
        told c begin gap kept of (ap (λ z. is_parted (next_leaf z l)) st.kept_is ∙ parted e x l c st.kind st.first st.later takes st.is_open st.held_is)
    go e at before (open_container begin gap bare container inner) st right = absurd st

-- ---- containers

pub quote_continues : (level : Level) (inner : Box Level Global) (l : BlockLine) (c : Continuation) → level.last ≡ open_block.Quote inner →
    ContinuesInQuote inner.value l c → IsUnfollowed level.last l → ContinuesLevel level l c
unfolding last_tip
quote_continues level inner l c is f out = level_continues level (open_block.Quote inner) l c is go
  where
    unmarked : matches Quote l ≡ false
    unmarked = subst (λ z. IsUnfollowed z l) is out

    go : LastContinues (open_block.Quote inner) l c
    go e at before nothing_yet st right = absurd st
    go e at before (ended_block g) st right = absurd st
    go e at before (open_leaf begin gap kept) st right = absurd st
    go e at before (open_container begin gap bare (Item marker needed) s) st right = absurd st
    go e at before (open_container begin gap bare Quote (summary b k n ls)) st right = f e at false (summary b k n ls) begin gap bare st right unmarked

pub list_continues : (level : Level) (inner : Box Level Global) (list : OpenList) (l : BlockLine) (c : Continuation) → level.last ≡ open_block.List inner list →
    ContinuesInItem inner.value list l c → ContinuesBetween list l c → IsUnfollowed level.last l → ContinuesLevel level l c
unfolding last_tip
list_continues level inner list l c is item between out = level_continues level (open_block.List inner list) l c is go
  where
    outside : IsOutsideItem list l
    outside = subst (λ z. IsUnfollowed z l) is out

    ended : (at : ℕ) (before : List Group) (begin : ℕ) (gap : Bool) (p : Part) → StandsForList at list before gap p → l.lazy ≡ false →
        ContinuesLast (ended_block (record { begin = begin; gap = gap; part = p })) l c
    ended at before begin gap (Leaves leaves) st z = absurd st
    ended at before begin gap (Quoted nodes) st z = absurd st
    ended at before begin gap (Listed kind tight items) st z =
        between begin gap tight kind items st.0 z (subst (λ k. IsOneList k kind) (sym st.1.0) (one_list before kind gap))

    go : LastContinues (open_block.List inner list) l c
    go e at before nothing_yet st right = absurd st
    go e at before (ended_block g) st right = ended at before g.begin g.gap g.part st.0 (never_lazy (ended_block g) l refl right)
    go e at before (open_leaf begin gap kept) st right = absurd st
    go e at before (open_container begin gap bare Quote s) st right = absurd st
    go e at before (open_container begin gap bare (Item marker needed) (summary b k n ls)) st right =
        subst (λ z. ContinuesLast (open_container begin gap bare (Item marker z) (summary b k n ls)) l c) st.1
        (item e _ true (summary b k n ls) marker begin gap bare (st.4, st.5) right st.0 st.2
        (subst (λ z. IsOneList z (kind_of marker)) (sym st.3.0) (one_list before (kind_of marker) gap)) outside)
