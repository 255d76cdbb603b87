-- All blocks of a level are over, and a line is read behind them.
use Rattle.std.proofs.Common.{Result, Ok, Err, IsErrAnd, IsErrOf, ◌≡◌, ℕ, suc, Bool, true, false, not, ◌&&◌, ◌||◌, List, [], ◌∷◌, length, Option, is_some, refl, sym, ◌∙◌, ap, subst}
use Rattle.mdtext.specs.EntityTable.{EntityTable}
use Rattle.blockspec.specs.BlockLine.{BlockLine}
use Rattle.blockspec.specs.BlankLines.{is_blank_line}
use Rattle.blockspec.specs.BlockKinds.{Container, Quote, Item, Holds}
use Rattle.blockspec.specs.BlockStart.{begun}
use Rattle.blockspec.specs.BlockTree.{ListKind, no_blocks}
use Rattle.blockspec.specs.BlockUnits.{container_part}
use Rattle.blockspec.specs.LineSummary.{summary, no_summary, Last, nothing_yet, ended_block, open_leaf, open_container, last_tip, closed, last_groups, ended_last, leaf_group, container_group, summary_gap, begin_after, line_added, mark_of, part_mark}
use Rattle.blockspec.specs.Lists.{Part, Leaves, Quoted, Listed, Group, is_tight_inside, merged, nodes_of}
use Rattle.blockspec.specs.NodeTree.{placed}
use Rattle.blockspec.specs.OpenLeaf.{open_leaves}
use Rattle.blockspec.specs.UnitBegin.{list_mark, same_mark}
use Rattle.mdblock.specs.BlockView.{blocks_view}
use Rattle.mdblock.specs.held.HeldLevel.{is_list, is_begun, IsShut, behind_over, StandsFor, StandsForLast, HasGathered, ClosesAll}
use Rattle.mdblock.specs.held.HeldNodes.{over_nodes, handed_groups, handed_last, handed_nodes, closed_nodes, tasked}
use Rattle.mdblock.specs.held.LevelSteps.{IsFirst, IsAllOver, EndsAll, BeginsBehind, last_mark, tight_with, BeginsBlock, IsEmpty}
use Rattle.mdblock.specs.declared.blocks.Block as b
use Rattle.mdblock.specs.declared.gathering.Gathering.{Gathering}
use Rattle.mdblock.specs.declared.open_blocks.Level.{Level}
use Rattle.mdblock.specs.declared.open_blocks.OpenBlock.{OpenBlock}
use Rattle.mdblock.specs.declared.open_blocks.OpenBlock as open_block
use Rattle.mdblock.proofs.HeldNodesLaws.{none_over, none_spaced, over_ended}
use Rattle.blockspec.proofs.ItemLaws.{merged_nil}
use Rattle.mdblock.proofs.LevelGroups.{IsAny, any_merged, mark_merged}

-- ---- all blocks end

pub first_last : (e : EntityTable) (at : ℕ) (x : OpenBlock) (before : List Group) (last : Last) → StandsForLast e at x before last → IsFirst before last
first_last e at open_block.Shut before nothing_yet st = st
first_last e at (open_block.Leaf held) before nothing_yet st = absurd st
first_last e at (open_block.Quote' p over last in_item begun blank spaced) before nothing_yet st = absurd st
first_last e at (open_block.List' p over last in_item begun blank spaced list) before nothing_yet st = absurd st
first_last e at x before (ended_block g) st = tt
first_last e at x before (open_leaf begin gap leaf) st = tt
first_last e at x before (open_container begin gap bare container inner) st = tt

-- what is left holds the blocks that were open among those that are over
pub record IsEnded (level : Level) (over : List b.Block) (new : Level) : Type 0 where
  pub over_is : new.over.items ≡ over
  pub last_is : new.last ≡ open_block.Shut
  pub in_item_is : new.in_item ≡ level.in_item
  pub begun_is : new.begun ≡ level.begun
  pub blank_is : new.blank ≡ level.blank
  pub spaced_is : new.spaced ≡ level.spaced

pub all_end : (level : Level) (before : Gathering) (over : List b.Block) (new : Level) (after : Gathering) → ClosesAll level before over after → IsEnded level over new → EndsAll level before new after
all_end level before over new after closes is in_item (summary groups last blank lines) texts definitions h st =
    let done = closes in_item (summary groups last blank lines) texts definitions h st in (
      done.0,
      (
        ap blocks_view is.over_is ∙ done.1,
        is.in_item_is ∙ st.0.1,
        is.begun_is ∙ st.0.2,
        is.blank_is ∙ st.0.3,
        is.spaced_is ∙ st.0.4,
        subst IsShut (sym is.last_is) tt,
        first_last before.entities.now _ level.last groups last st.1,
      ),
    )

-- ---- a blank line

no_list : (p : Part) → is_some (part_mark p) ≡ false → is_list p ≡ false
no_list (Leaves leaves) h = refl
no_list (Quoted nodes) h = refl
no_list (Listed kind tight items) h = absurd (let x : ⊥ = cc in x)

container_no_list : (container : Container) (groups : List Group) → is_some (list_mark (Holds container)) ≡ false → is_list (container_part container groups) ≡ false
unfolding container_part
container_no_list Quote groups h = refl
container_no_list (Item marker needed) groups h = absurd (let x : ⊥ = cc in x)

pub ended_groups : (e : EntityTable) (last : Last) → last_groups e (ended_last e last) ≡ last_groups e last
unfolding last_groups ended_last
ended_groups e nothing_yet = refl
ended_groups e (ended_block g) = refl
ended_groups e (open_leaf begin gap leaf) = refl
ended_groups e (open_container begin gap bare container inner) = refl

ended_handed : (e : EntityTable) (last : Last) → handed_last e (ended_last e last) ≡ last_groups e last
unfolding last_groups ended_last handed_last
ended_handed e nothing_yet = refl
ended_handed e (ended_block g) = refl
ended_handed e (open_leaf begin gap leaf) = refl
ended_handed e (open_container begin gap bare container inner) = refl

ended_begun : (e : EntityTable) (last : Last) → is_begun (ended_last e last) ≡ is_begun last
unfolding ended_last
ended_begun e nothing_yet = refl
ended_begun e (ended_block g) = refl
ended_begun e (open_leaf begin gap leaf) = refl
ended_begun e (open_container begin gap bare container inner) = refl

ended_gap : (e : EntityTable) (last : Last) → summary_gap (ended_last e last) true ≡ true
unfolding ended_last last_tip
ended_gap e nothing_yet = refl
ended_gap e (ended_block g) = refl
ended_gap e (open_leaf begin gap leaf) = refl
ended_gap e (open_container begin gap bare container inner) = refl

-- of blocks that are over but for a list
record OverStands (e : EntityTable) (before : List Group) (last : Last) : Type 0 where
  nodes : nodes_of (merged before (last_groups e last)) ≡ over_nodes e before (ended_last e last)
  stands : (at : ℕ) (x : OpenBlock) → IsShut x → StandsForLast e at x before (ended_last e last)

shut_is : (P : OpenBlock → Type 0) → P open_block.Shut → (x : OpenBlock) → IsShut x → P x
shut_is P h open_block.Shut w = h
shut_is P h (open_block.Leaf held) w = absurd w
shut_is P h (open_block.Quote' p over last in_item begun blank spaced) w = absurd w
shut_is P h (open_block.List' p over last in_item begun blank spaced list) w = absurd w

over_stands : (e : EntityTable) (before : List Group) (last : Last) → IsFirst before last → is_some (mark_of last) ≡ false → OverStands e before last
unfolding last_groups ended_last mark_of container_part
over_stands e before nothing_yet first h = record { nodes = ap nodes_of (merged_nil before); stands = λ at x w. shut_is (λ z. StandsForLast e at z before nothing_yet) first x w }
over_stands e before (ended_block g) first h =
    record {
      nodes = over_ended before g.begin g.gap g.part (no_list g.part h);
      stands = λ at x w. shut_is (λ z. StandsForLast e at z before (ended_block g)) (no_list g.part h) x w;
    }
over_stands e before (open_leaf begin gap leaf) first h =
    record {
      nodes = over_ended before begin gap (Leaves (open_leaves e leaf)) refl;
      stands = λ at x w. shut_is (λ z. StandsForLast e at z before (ended_block (leaf_group e begin gap leaf))) refl x w;
    }
over_stands e before (open_container begin gap bare container inner) first h =
    let none = container_no_list container (closed e inner) h in
    record {
      nodes = over_ended before begin gap (container_part container (closed e inner)) none;
      stands = λ at x w. shut_is (λ z. StandsForLast e at z before (ended_block (container_group begin gap container (closed e inner)))) none x w;
    }

pub blank_begins : (room : ℕ) (level : Level) (before : Gathering) (l : BlockLine) (new : Level) → is_blank_line l ≡ true → new ≡ record level { blank = true } → BeginsBehind room level before l new before
unfolding closed begin_after handed_groups
blank_begins room level before l new blank is in_item (summary groups last was lines) texts definitions had over apart =
    let e = before.entities.now in
    let s = summary groups last was lines in
    let S = summary groups (ended_last e last) true (suc lines) in
    let stands = over_stands e groups last over.6 (apart.1 blank) in
    let handed : closed_nodes e in_item s ≡ handed_nodes e in_item S = ap (λ z. tasked in_item (nodes_of (merged groups z))) (sym (ended_handed e last)) in
    let shut : new.last ≡ level.last = ap (λ (z : Level). z.last) is in
    subst (λ z. HasGathered before texts definitions (handed_nodes e in_item (begin_after e (line_added e room) z s l)) × StandsFor e (length texts) in_item new (begin_after e (line_added e room) z s l)) (sym blank) (
      subst (λ z. HasGathered before texts definitions z) handed had,
      (
        (
          ap (λ (z : Level). blocks_view z.over.items) is ∙ over.0 ∙ ap (λ z. placed (length texts) (tasked in_item z)) stands.nodes,
          ap (λ (z : Level). z.in_item) is ∙ over.1,
          ap (λ (z : Level). z.begun) is ∙ over.2 ∙ sym (ended_begun e last),
          ap (λ (z : Level). z.blank) is ∙ sym (ended_gap e last),
          ap (λ (z : Level). z.spaced) is ∙ over.4 ∙ ap (λ z. not (is_tight_inside (merged groups z))) (sym (ended_groups e last)),
        ),
        stands.stands (behind_over e (length texts) in_item groups (ended_last e last)) new.last (subst IsShut (sym shut) over.5),
      ),
    )

-- ---- a block begins

tight_any : (gs : List Group) (gap : Bool) → IsAny gs → tight_with gs gap ≡ is_tight_inside gs && not gap
tight_any [] gap any = absurd any
tight_any (g ∷ gs) gap any = refl

pub not_and : (t gap : Bool) → (not t || gap) ≡ not (t && not gap)
not_and true true = refl
not_and true false = refl
not_and false gap = refl

container_mark : (container : Container) (groups : List Group) → part_mark (container_part container groups) ≡ list_mark (Holds container)
unfolding container_part
container_mark Quote groups = refl
container_mark (Item marker needed) groups = refl

-- what goes on with the list of the last group goes on with the last block
pub last_marks : (e : EntityTable) (before : List Group) (last : Last) (m : Option ListKind) → IsFirst before last → same_mark (last_mark (merged before (last_groups e last))) m ≡ same_mark (mark_of last) m
unfolding last_groups mark_of
last_marks e before nothing_yet m first = ap (λ z. same_mark (last_mark z) m) (merged_nil before ∙ first)
last_marks e before (ended_block g) m first = mark_merged before g.begin g.gap g.part m
last_marks e before (open_leaf begin gap leaf) m first = mark_merged before begin gap (Leaves (open_leaves e leaf)) m
last_marks e before (open_container begin gap bare container inner) m first =
    mark_merged before begin gap (container_part container (closed e inner)) m ∙ ap (λ z. same_mark z m) (container_mark container (closed e inner))

-- a gap counts behind a block alone
gap_counts : (e : EntityTable) (before : List Group) (last : Last) (gap : Bool) → IsFirst before last →
    (not (is_tight_inside (merged before (last_groups e last))) || (is_begun last && gap)) ≡ not (tight_with (merged before (last_groups e last)) gap)
unfolding last_groups
gap_counts e before nothing_yet gap first = ap (λ z. not (is_tight_inside z) || false) (merged_nil before ∙ first) ∙ ap (λ z. not (tight_with z gap)) (sym (merged_nil before ∙ first))
gap_counts e before (ended_block g) gap first =
    let gs = merged before (g ∷ []) in not_and (is_tight_inside gs) gap ∙ ap not (sym (tight_any gs gap (any_merged before g.begin g.gap g.part)))
gap_counts e before (open_leaf begin gp leaf) gap first =
    let gs = merged before (leaf_group e begin gp leaf ∷ []) in not_and (is_tight_inside gs) gap ∙ ap not (sym (tight_any gs gap (any_merged before begin gp (Leaves (open_leaves e leaf)))))
gap_counts e before (open_container begin gp bare container inner) gap first =
    let gs = merged before (container_group begin gp container (closed e inner) ∷ []) in
    not_and (is_tight_inside gs) gap ∙ ap not (sym (tight_any gs gap (any_merged before begin gp (container_part container (closed e inner)))))

pub block_begins : (room : ℕ) (level : Level) (before : Gathering) (l : BlockLine) (marked new : Level) (after : Gathering) → is_blank_line l ≡ false →
    marked ≡ record level { begun = true; blank = false; spaced = level.spaced || (level.begun && level.blank) } → BeginsBlock room marked before l new after → BeginsBehind room level before l new after
unfolding closed begin_after
block_begins room level before l marked new after full is begins in_item (summary groups last was lines) texts definitions had over apart =
    let e = before.entities.now in
    let s = summary groups last was lines in
    let gs = merged groups (last_groups e last) in
    let gap = summary_gap last was in
    let done = begins in_item gs gap lines texts definitions had (
      ap (λ (z : Level). blocks_view z.over.items) is ∙ over.0,
      ap (λ (z : Level). z.in_item) is ∙ over.1,
      ap (λ (z : Level). z.begun) is,
      ap (λ (z : Level). z.blank) is,
      ap (λ (z : Level). z.spaced) is
          ∙ ap (λ z. level.spaced || (z && level.blank)) over.2
          ∙ ap (λ z. level.spaced || (is_begun last && z)) over.3
          ∙ ap (λ z. z || (is_begun last && gap)) over.4
          ∙ gap_counts e groups last gap over.6,
      subst IsShut (sym (ap (λ (z : Level). z.last) is)) over.5,
    ) (last_marks e groups last (list_mark (begun l)) over.6 ∙ apart.0) in
    subst (λ z. HasGathered after texts definitions (handed_nodes e in_item (begin_after e (line_added e room) z s l)) × StandsFor e (length texts) in_item new (begin_after e (line_added e room) z s l)) (sym full) done

-- ---- no lines

pub none_closed : (e : EntityTable) (at : ℕ) (in_item : Bool) → placed at (closed_nodes e in_item no_summary) ≡ no_blocks
unfolding closed last_groups
none_closed e at in_item = none_over at in_item

pub err_is : {T E : Type 0} (r : Result T E) (P : E → Type 0) (fault : E) → IsErrAnd r P → IsErrOf r fault → P fault
err_is (Ok x) P fault h is = absurd h
err_is (Err e) P fault h is = let same : e ≡ fault = cc in subst P same h

-- a level that holds nothing
pub empty_over : (e : EntityTable) (at : ℕ) (in_item : Bool) (level : Level) → IsEmpty in_item level → IsAllOver e at in_item level no_summary
empty_over e at in_item level h = (ap blocks_view h.0 ∙ sym (none_closed e at in_item), h.2, h.3, h.4, h.5 ∙ ap not (sym (none_spaced e)), h.1, refl)
