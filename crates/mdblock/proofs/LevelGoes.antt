-- A line of the last block, where that is a container: what it holds reads the line.
use Rattle.std.proofs.Common.{Box, Global, ◌≡◌, ℕ, suc, ◌+◌, Bool, true, false, not, ◌&&◌, ◌||◌, List, [], ◌++◌, length, is_none, refl, sym, ◌∙◌, ap, subst}
use Rattle.std.specs.Prelude.{nat_le}
use Rattle.mdtext.specs.EntityTable.{EntityTable}
use Rattle.mdleaf.specs.DefinedLinks.{LinkDefinition}
use Rattle.blockspec.specs.BlockLine.{BlockLine, indentation, rest}
use Rattle.blockspec.specs.BlankLines.{is_blank_line}
use Rattle.blockspec.specs.BlockKinds.{Lazy, Container, Quote, Item}
use Rattle.blockspec.specs.BlockStart.{start}
use Rattle.blockspec.specs.BlockUnits.{container_part}
use Rattle.blockspec.specs.ContainerLines.{matches, taken_off, inside_where, inside}
use Rattle.blockspec.specs.Laziness.{Tip, Text, Verbatim, Closed, is_text, continues_lazily}
use Rattle.blockspec.specs.LineSummary.{Summary, summary, Last, nothing_yet, ended_block, open_leaf, open_container, last_in, summary_tip, last_tip, closed, last_groups, line_added, is_apart_after}
use Rattle.blockspec.specs.Lists.{Group, nodes_of}
use Rattle.blockspec.specs.NodeTree.{texts_in}
use Rattle.blockspec.specs.Stretches.{goes_on}
use Rattle.blockspec.specs.SummaryDepth.{sinks}
use Rattle.mdblock.specs.BlockView.{blocks_view}
use Rattle.mdblock.specs.held.HeldLevel.{behind_over, StandsFor, StandsForLast, HasGathered, IsLazyRight}
use Rattle.mdblock.specs.held.HeldNodes.{handed_nodes, tasked}
use Rattle.mdblock.specs.held.LevelSteps.{HasRestOf, IsQuoteOf, gap_behind}
use Rattle.mdblock.specs.held.LinesAdded.{InOpen, IsReadBehind, IsAdded, AddsLine, SinksLine}
use Rattle.mdblock.specs.declared.gathering.Gathering.{Gathering}
use Rattle.mdblock.specs.declared.open_blocks.Level.{Level}
use Rattle.mdblock.specs.declared.open_blocks.OpenBlock as open_block
use Rattle.mdblock.proofs.LevelContainers.{into_quote, from_quote, in_quote, quote_stands}
use Rattle.mdblock.proofs.LevelGroups.{same_gaps}
use Rattle.mdblock.proofs.LevelLines.{container_added, container_sinks}
use Rattle.mdblock.proofs.ClosingLaws.{behind}

-- ---- what is inside is read there

tip_text : (tip : Tip) → is_text tip ≡ true → tip ≡ Text
tip_text Text h = refl
tip_text Verbatim h = absurd (let x : ⊥ = cc in x)
tip_text Closed h = absurd (let x : ⊥ = cc in x)

-- a line that matches no container and goes on with it is right inside
lazy_inside : (tip : Tip) (l : BlockLine) → (l.lazy ≡ true → (is_blank_line l ≡ false) × (tip ≡ Text)) → continues_lazily tip l ≡ true → (is_blank_line l ≡ false) × (tip ≡ Text)
unfolding continues_lazily
lazy_inside tip l right h = go l.lazy (is_text tip) (is_blank_line l) refl refl refl h
  where
    go : (lazy text blank : Bool) → l.lazy ≡ lazy → is_text tip ≡ text → is_blank_line l ≡ blank → (lazy || (text && not blank && is_none (start Lazy [] l))) ≡ true → (is_blank_line l ≡ false) × (tip ≡ Text)
    go true text blank a b c h = right a
    go false true false a b c h = (c, tip_text tip b)
    go false true true a b c h = absurd (let x : ⊥ = cc in x)
    go false false blank a b c h = absurd (let x : ⊥ = cc in x)

not_lazy : (lazy rest : Bool) → (not lazy && rest) ≡ true → lazy ≡ false
not_lazy true rest h = absurd (let x : ⊥ = cc in x)
not_lazy false rest h = refl

off_lazy : (c : Container) (l : BlockLine) → matches c l ≡ true → (taken_off c l).lazy ≡ false
unfolding matches
off_lazy Quote l h = refl
off_lazy (Item marker needed) l h = not_lazy l.lazy (is_blank_line l || nat_le needed (indentation l)) h

not_off : (b : Bool) → not b ≡ false → b ≡ true
not_off true h = refl
not_off false h = absurd (let x : ⊥ = cc in x)

pub inner_right : (before : List Group) (b : ℕ) (gap bare : Bool) (c : Container) (inner : Summary) (blank : Bool) (lines : ℕ) (l : BlockLine) →
    IsLazyRight (summary before (open_container b gap bare c inner) blank lines) l → is_apart_after (open_container b gap bare c inner) l ≡ false → IsLazyRight inner (inside c l)
unfolding inside summary_tip last_tip is_apart_after
inner_right before b gap bare c inner blank lines l right apart = go (matches c l) refl
  where
    go : (m : Bool) → matches c l ≡ m → IsLazyRight inner (inside_where m c l)
    go true e lazy = absurd (let n = off_lazy c l e in let x : ⊥ = cc in x)
    go false e lazy =
        lazy_inside (summary_tip inner) l right (
        ap (λ z. (z && not (bare && is_blank_line l)) || continues_lazily (summary_tip inner) l) (sym e) ∙ not_off (goes_on c bare (summary_tip inner) l) apart)

-- ---- a container goes on

-- how a line is read inside, for a container that it goes on with
abbrev pub GoesInside : Summary → BlockLine → (inner : BlockLine) → Type 0
GoesInside s l il = (is_apart_after (last_in s) l ≡ false) × InOpen (last_in s) (λ c. inside c l ≡ il)

pub quote_added : (less : ℕ) (level new : Level) (inner : Box Level Global) (inner_new : Level) (before after : Gathering) (l il : BlockLine) → level.last ≡ open_block.Quote inner →
    AddsLine less inner.value before il inner_new after → new.over ≡ level.over → HasRestOf level new → IsQuoteOf inner_new new.last →
    (in_item : Bool) (s : Summary) (texts : List (List ℕ)) (definitions : List LinkDefinition) → IsReadBehind (suc less) level before in_item s texts definitions l → GoesInside s l il → (blank : Bool) →
    blank ≡ gap_behind (line_added before.entities.now (suc (suc less)) s l) → IsAdded before.entities.now (suc less) in_item s texts definitions l (record new { blank = blank }) after
unfolding closed last_groups container_part
quote_added less level new inner inner_new before after l il is adds over marks held in_item (summary groups last was lines) texts definitions behind_it goes blank blank_is =
    go last behind_it goes blank_is
  where
    e : EntityTable
    e = before.entities.now

    go : (last : Last) → IsReadBehind (suc less) level before in_item (summary groups last was lines) texts definitions l → GoesInside (summary groups last was lines) l il →
        blank ≡ gap_behind (line_added e (suc (suc less)) (summary groups last was lines) l) → IsAdded e (suc less) in_item (summary groups last was lines) texts definitions l (record new { blank = blank }) after
    go nothing_yet r g w = absurd (subst (λ z. StandsForLast e (behind_over e (length texts) in_item groups nothing_yet) z groups nothing_yet) is r.1.1)
    go (ended_block b) r g w = absurd (subst (λ z. StandsForLast e (behind_over e (length texts) in_item groups (ended_block b)) z groups (ended_block b)) is r.1.1)
    go (open_leaf b gap leaf) r g w = absurd (subst (λ z. StandsForLast e (behind_over e (length texts) in_item groups (open_leaf b gap leaf)) z groups (open_leaf b gap leaf)) is r.1.1)
    go (open_container b gap bare (Item m needed) i) r g w = absurd (subst (λ z. StandsForLast e (behind_over e (length texts) in_item groups (open_container b gap bare (Item m needed) i)) z groups (open_container b gap bare (Item m needed) i)) is r.1.1)
    go (open_container b gap bare Quote i) r g w =
        let a = tasked in_item (nodes_of groups) in
        let at = length texts + length (texts_in a) in
        let T = texts ++ texts_in a in
        let old = open_container b gap bare Quote i in
        let i_new = line_added e (suc less) i il in
        let added = container_added e (suc less) groups b gap bare Quote i was lines l g.0 ∙ ap (λ z. summary groups (open_container b gap false Quote (line_added e (suc less) i z)) (is_blank_line l) (suc lines)) g.1 in
        let st : StandsForLast e at (open_block.Quote inner) groups old = subst (λ z. StandsForLast e at z groups old) is r.1.1 in
        let right = subst (λ z. IsLazyRight i z) g.1 (inner_right groups b gap bare Quote i was lines l r.2 g.0) in
        let done = adds false i T _ (
          into_quote before e in_item groups b gap bare i was lines texts definitions r.0,
          subst (λ z. StandsFor e z false inner.value i) (behind texts a) (in_quote e at inner groups b gap bare i st),
          right,
          r.3,
        ) in
        let tight = same_gaps groups b gap (container_part Quote (closed e i)) (container_part Quote (closed e i_new)) refl in
        let new_stands = quote_stands e at new.last inner_new groups b gap false i_new held (subst (λ z. StandsFor e z false inner_new i_new) (sym (behind texts a)) done.2) in (
          container_sinks less groups b gap bare Quote i was lines l g.0 ∙ ap (sinks less i) g.1 ∙ done.0,
          subst (λ z. HasGathered after texts definitions (handed_nodes e in_item z)) (sym added) (from_quote after e in_item groups b gap false i_new (is_blank_line l) (suc lines) texts definitions done.1),
          subst (λ z. StandsFor e (length texts) in_item (record new { blank = blank }) z) (sym added) (
            (ap (λ z. blocks_view z.items) over ∙ r.1.0.0, marks.0 ∙ r.1.0.1, marks.1 ∙ r.1.0.2, w ∙ ap gap_behind added, marks.2 ∙ r.1.0.4 ∙ ap not tight),
            new_stands,
          ),
        )

pub quote_sunk : (less : ℕ) (level : Level) (inner : Box Level Global) (before : Gathering) (l il : BlockLine) → level.last ≡ open_block.Quote inner → SinksLine less inner.value before il →
    (in_item : Bool) (s : Summary) (texts : List (List ℕ)) (definitions : List LinkDefinition) → IsReadBehind (suc less) level before in_item s texts definitions l → GoesInside s l il → sinks (suc less) s l ≡ true
quote_sunk less level inner before l il is deep in_item (summary groups last was lines) texts definitions behind_it goes = go last behind_it goes
  where
    e : EntityTable
    e = before.entities.now

    go : (last : Last) → IsReadBehind (suc less) level before in_item (summary groups last was lines) texts definitions l → GoesInside (summary groups last was lines) l il → sinks (suc less) (summary groups last was lines) l ≡ true
    go nothing_yet r g = absurd (subst (λ z. StandsForLast e (behind_over e (length texts) in_item groups nothing_yet) z groups nothing_yet) is r.1.1)
    go (ended_block b) r g = absurd (subst (λ z. StandsForLast e (behind_over e (length texts) in_item groups (ended_block b)) z groups (ended_block b)) is r.1.1)
    go (open_leaf b gap leaf) r g = absurd (subst (λ z. StandsForLast e (behind_over e (length texts) in_item groups (open_leaf b gap leaf)) z groups (open_leaf b gap leaf)) is r.1.1)
    go (open_container b gap bare (Item m needed) i) r g = absurd (subst (λ z. StandsForLast e (behind_over e (length texts) in_item groups (open_container b gap bare (Item m needed) i)) z groups (open_container b gap bare (Item m needed) i)) is r.1.1)
    go (open_container b gap bare Quote i) r g =
        let a = tasked in_item (nodes_of groups) in
        let at = length texts + length (texts_in a) in
        let old = open_container b gap bare Quote i in
        let st : StandsForLast e at (open_block.Quote inner) groups old = subst (λ z. StandsForLast e at z groups old) is r.1.1 in
        let right = subst (λ z. IsLazyRight i z) g.1 (inner_right groups b gap bare Quote i was lines l r.2 g.0) in
        container_sinks less groups b gap bare Quote i was lines l g.0 ∙ ap (sinks less i) g.1
        ∙ deep false i (texts ++ texts_in a) _ (into_quote before e in_item groups b gap bare i was lines texts definitions r.0, subst (λ z. StandsFor e z false inner.value i) (behind texts a) (in_quote e at inner groups b gap bare i st), right, r.3)
