-- Leaves that are put behind what is over, and an open leaf behind it.
use Rattle.std.proofs.Common.{◌≡◌, ℕ, suc, ◌+◌, ◌<◌, Bool, true, false, not, List, [], ◌∷◌, ◌++◌, length, length-append, append_assoc, append-nil, map, Option, Some, None, refl, sym, ◌∙◌, ap, subst, arith}
use Rattle.std.proofs.lemmas.List.{length-map}
use Rattle.std.specs.Prelude.{string_bytes, ◌==◌, unwrap_or}
use Rattle.std.specs.Option.{MatchOption, option_map}
use Rattle.mdtext.specs.EntityTable.{EntityTable}
use Rattle.mdleaf.specs.DefinedLinks.{LinkDefinition}
use Rattle.mdleaf.specs.ParagraphText.{joined_lines}
use Rattle.mdscan.specs.Spans.{part}
use Rattle.blockspec.specs.BlockLine.{BlockLine, indentation, rest}
use Rattle.blockspec.specs.BlankLines.{is_blank_line}
use Rattle.blockspec.specs.BlockKinds.{Free, Kind, Paragraph, AtxHeading, ThematicBreak, FencedCode, IndentedCode, HtmlBlock}
use Rattle.blockspec.specs.BlockStart.{start, begun}
use Rattle.blockspec.specs.BlockTree.{ListKind, Blocks, no_blocks, block}
use Rattle.blockspec.specs.BlockTree as tree
use Rattle.blockspec.specs.LineSummary.{Summary, no_summary, summary, ended_block, open_leaf, closed, last_groups, leaf_group, new_last, summary_gap, line_added}
use Rattle.blockspec.specs.SummaryDepth.{sinks}
use Rattle.mdscan.specs.declared.atx_headings.AtxLine.{AtxLine}
use Rattle.mdscan.specs.declared.list_markers.Marker.{Marker}
use Rattle.blockspec.specs.Lists.{Leaves, Group, is_tight_inside, leaves_before, merged, nodes_of}
use Rattle.blockspec.specs.NodeTree.{Leaf, heading_leaf, break_leaf, html_leaf, Nodes, no_nodes, leaf_node, texts_in, definitions_in, leaf_texts, leaf_definitions, leaf_block, placed}
use Rattle.blockspec.specs.OpenLeaf.{OpenLeaf, leaf_from, open_leaves}
use Rattle.blockspec.specs.Stretches.{ends_html, is_single, first_of}
use Rattle.blockspec.specs.TaskListItems.{with_task}
use Rattle.blockspec.specs.UnitBegin.{same_mark}
use Rattle.blockspec.proofs.LeafSteps.{IsLeaf}
use Rattle.blockspec.proofs.SummaryLaws.{leaf_begun, new_leaf}
use Rattle.mdblock.specs.BlockView.{block_view, blocks_view}
use Rattle.mdblock.specs.held.ClosedViews.{found_view}
use Rattle.mdblock.specs.held.HandedIn.{gathered_texts, gathered_definitions}
use Rattle.mdblock.specs.held.HeldLevel.{is_front, is_begun, IsShut, behind_over, StandsForLeaf, StandsForLast, StandsFor, HasGathered}
use Rattle.mdblock.specs.held.HeldNodes.{over_leaves, handed_leaves, handed_groups, handed_last, handed_nodes, tasked}
use Rattle.mdblock.specs.held.LevelSteps.{IsLeafStart, OpensLeaf, open_leaf_of, last_mark, tight_with, begun_behind, BeginsBlock, HasMarksOf}
use Rattle.mdblock.specs.held.OpenLeaves.{IsBegun, begun_texts, IsOver, IsParagraphLeaf, IsFenceLeaf, IsCodeLeaf, IsHtmlLeaf, IsHtmlStep}
use Rattle.mdblock.specs.held.StartKind.{kind_of_start, opened_kind}
use Rattle.mdblock.specs.held.TreesBehind.{nodes_before, blocks_before}
use Rattle.mdblock.specs.declared.block_starts.BlockStart.{BlockStart}
use Rattle.mdblock.specs.declared.block_starts.BlockStart.TheVariants as o
use Rattle.mdblock.specs.declared.blocks.Block as b
use Rattle.mdblock.specs.declared.gathering.Gathering.{Gathering}
use Rattle.mdblock.specs.declared.leaf.Leaf as held
use Rattle.mdblock.specs.declared.leaf.Leaf.TheVariants as leaf
use Rattle.mdblock.specs.declared.leaf.LeafAfter.{LeafAfter}
use Rattle.mdblock.specs.declared.open_blocks.Level.{Level}
use Rattle.mdblock.specs.declared.open_blocks.OpenBlock.{OpenBlock}
use Rattle.mdblock.specs.declared.open_blocks.OpenBlock as open_block
use Rattle.mdblock.proofs.CloseLeafLaws.{front_rest, IsGiven, html_task}
use Rattle.mdblock.proofs.HeldNodesLaws.{merged_leaves}
use Rattle.mdblock.proofs.LevelGroups.{tight_pushed}
use Rattle.mdblock.proofs.LevelLines.{HoldsNone, leaf_sinks}
use Rattle.mdblock.proofs.Skips.{blank_text}
use Rattle.mdblock.proofs.PlacedNodes.{blocks_nil, texts_before, earlier_definitions, earlier_placed, nodes_nil}

-- ---- leaves behind what is over

abbrev pub pushed_nodes : (in_item : Bool) → Nodes → List Leaf → Nodes
pushed_nodes in_item a ls = tasked in_item (nodes_before a (leaves_before ls no_nodes))

-- what is over, and what has been handed in
abbrev pub Stand : (all : Blocks) → (have : List (List ℕ)) → (known : List LinkDefinition) → (texts : List (List ℕ)) → (definitions : List LinkDefinition) → Nodes → Type 0
Stand all have known texts definitions nodes =
    (all ≡ placed (length texts) nodes) × (have ≡ texts ++ texts_in nodes) × (known ≡ definitions ++ definitions_in nodes)

pub pushed_leaves : (in_item : Bool) (over : List b.Block) (all_over : Blocks) (a : Nodes) (ls leaves : List Leaf) (texts : List (List ℕ)) (definitions : List LinkDefinition)
    (old new : List (List ℕ)) (known all : List LinkDefinition) (found : Option b.Block) →
    Stand (blocks_view over) old known texts definitions (tasked in_item a) → IsGiven old new known all found leaves →
    tasked (is_front in_item over) (leaves_before ls no_nodes) ≡ leaves_before leaves no_nodes → all_over ≡ blocks_before (blocks_view over) (found_view found) →
    Stand all_over new all texts definitions (pushed_nodes in_item a ls)
pushed_leaves in_item over all_over a ls leaves texts definitions old new known all found st g t pushed =
    let A = tasked in_item a in
    let more = leaves_before leaves no_nodes in
    let given = front_rest in_item over (length texts) a (leaves_before ls no_nodes) st.0 ∙ ap (nodes_before A) t in
    let there = ap length st.1 ∙ length-append texts (texts_in A) in (
      pushed
          ∙ ap (λ z. blocks_before z (found_view found)) st.0
          ∙ ap (blocks_before (placed (length texts) A)) (g.block_is ∙ ap (λ n. placed n more) there)
          ∙ sym (earlier_placed (length texts) A more)
          ∙ ap (placed (length texts)) (sym given),
      g.texts ∙ ap (λ z. z ++ texts_in more) st.1 ∙ append_assoc texts (texts_in A) (texts_in more) ∙ ap (λ z. texts ++ z) (sym (texts_before A more) ∙ ap texts_in (sym given)),
      g.definitions ∙ ap (λ z. z ++ definitions_in more) st.2 ∙ append_assoc definitions (definitions_in A) (definitions_in more) ∙ ap (λ z. definitions ++ z) (sym (earlier_definitions A more) ∙ ap definitions_in (sym given)),
    )

-- ---- a level whose last block is a leaf

abbrev pub HasMarks : EntityTable → (in_item : Bool) → Level → Summary → Type 0
HasMarks e is_item level (summary before last blank lines) =
    (level.in_item ≡ is_item) × (level.begun ≡ is_begun last) × (level.blank ≡ summary_gap last blank) × (level.spaced ≡ not (is_tight_inside (closed e (summary before last blank lines))))

-- It is over.
pub stands_ended : (e : EntityTable) (in_item : Bool) (before : List Group) (begin : ℕ) (gap : Bool) (kept : OpenLeaf) (blank : Bool) (lines : ℕ) (new : Level) (g : Gathering)
    (texts : List (List ℕ)) (definitions : List LinkDefinition) →
    Stand (blocks_view new.over.items) (gathered_texts g) (gathered_definitions g) texts definitions (pushed_nodes in_item (nodes_of before) (open_leaves e kept)) →
    HasMarks e in_item new (summary before (ended_block (leaf_group e begin gap kept)) blank lines) → new.last ≡ open_block.Shut →
    HasGathered g texts definitions (handed_nodes e in_item (summary before (ended_block (leaf_group e begin gap kept)) blank lines))
    × StandsFor e (length texts) in_item new (summary before (ended_block (leaf_group e begin gap kept)) blank lines)
unfolding handed_groups handed_last
stands_ended e in_item before begin gap kept blank lines new g texts definitions st marks is =
    let s = summary before (ended_block (leaf_group e begin gap kept)) blank lines in
    let handed : handed_nodes e in_item s ≡ pushed_nodes in_item (nodes_of before) (open_leaves e kept) = ap (tasked in_item) (merged_leaves before begin gap (open_leaves e kept)) in (
      subst (λ z. HasGathered g texts definitions z) (sym handed) (st.1, st.2),
      (
        (st.0, marks.0, marks.1, marks.2, marks.3),
        subst (λ z. StandsForLast e (behind_over e (length texts) in_item before (ended_block (leaf_group e begin gap kept))) z before (ended_block (leaf_group e begin gap kept))) (sym is) refl,
      ),
    )

-- It is open.
pub stands_open : (e : EntityTable) (in_item : Bool) (before : List Group) (begin : ℕ) (gap : Bool) (kept : OpenLeaf) (blank : Bool) (lines : ℕ) (new : Level) (g : Gathering)
    (texts : List (List ℕ)) (definitions : List LinkDefinition) (x : held.Leaf) →
    blocks_view new.over.items ≡ placed (length texts) (pushed_nodes in_item (nodes_of before) (over_leaves e kept)) →
    gathered_texts g ≡ texts ++ texts_in (pushed_nodes in_item (nodes_of before) (handed_leaves e kept)) →
    gathered_definitions g ≡ definitions ++ definitions_in (pushed_nodes in_item (nodes_of before) (handed_leaves e kept)) →
    HasMarks e in_item new (summary before (open_leaf begin gap kept) blank lines) → new.last ≡ open_block.Leaf x →
    StandsForLeaf e (length texts + length (texts_in (pushed_nodes in_item (nodes_of before) (over_leaves e kept)))) x kept →
    HasGathered g texts definitions (handed_nodes e in_item (summary before (open_leaf begin gap kept) blank lines))
    × StandsFor e (length texts) in_item new (summary before (open_leaf begin gap kept) blank lines)
unfolding handed_groups handed_last
stands_open e in_item before begin gap kept blank lines new g texts definitions x over have known marks is st =
    let s = summary before (open_leaf begin gap kept) blank lines in
    let handed : handed_nodes e in_item s ≡ pushed_nodes in_item (nodes_of before) (handed_leaves e kept) = ap (tasked in_item) (merged_leaves before begin gap (handed_leaves e kept)) in (
      subst (λ z. HasGathered g texts definitions z) (sym handed) (have, known),
      (
        (over, marks.0, marks.1, marks.2, marks.3),
        subst (λ z. StandsForLast e (behind_over e (length texts) in_item before (open_leaf begin gap kept)) z before (open_leaf begin gap kept)) (sym is) st,
      ),
    )

-- ---- a leaf that a line begins

pub some_text : (l : BlockLine) → is_blank_line l ≡ false → 0 < length (rest l)
some_text l h = go (rest l) (sym (blank_text l.line.text) ∙ h)
  where
    go : (text : List ℕ) → (length text == 0) ≡ false → 0 < length text
    go [] e = absurd (let x : ⊥ = cc in x)
    go (b ∷ text) e = omega arith

same_none : (m : Option ListKind) → same_mark m None ≡ false
same_none None = refl
same_none (Some kind) = refl

begun_last : (e : EntityTable) (room lines : ℕ) (gap : Bool) (l : BlockLine) (k : Kind) (single : Bool) → begun l ≡ k → IsLeaf k → is_single k l ≡ single →
    new_last e (line_added e room) (is_single (begun l) l) (begun l) (first_of lines gap l) ≡ leaf_begun e single lines gap (leaf_from k l [])
begun_last e room lines gap l k single is w one =
    ap (λ z. new_last e (line_added e room) (is_single z l) z (first_of lines gap l)) is
    ∙ ap (λ z. new_last e (line_added e room) z k (first_of lines gap l)) one
    ∙ new_leaf e (line_added e room) single k (first_of lines gap l) w

begun_summary : (e : EntityTable) (room : ℕ) (groups : List Group) (gap : Bool) (lines : ℕ) (l : BlockLine) (k : Kind) (single : Bool) → begun l ≡ k → IsLeaf k → is_single k l ≡ single →
    begun_behind e room groups gap lines l ≡ summary groups (leaf_begun e single lines gap (leaf_from k l [])) false (suc lines)
begun_summary e room groups gap lines l k single is w one = ap (λ z. summary groups z false (suc lines)) (begun_last e room lines gap l k single is w one)

-- what a line puts behind what is over, and as the block that may go on
abbrev pub Puts : Level → (before : Gathering) → LeafAfter → (more : List (List ℕ)) → (new : Level) → (after : Gathering) → Type 0
Puts level before step more new after =
    (gathered_texts after ≡ gathered_texts before ++ more) × (gathered_definitions after ≡ gathered_definitions before)
    × (blocks_view new.over.items ≡ blocks_before (blocks_view level.over.items) (found_view step.over)) × (IsShut level.last → new.last ≡ open_leaf_of step.going) × HasMarksOf level new

open_begins : (room : ℕ) (level : Level) (before : Gathering) (l : BlockLine) (k : Kind) (step : LeafAfter) (x : held.Leaf) (new : Level) (after : Gathering) →
    begun l ≡ k → IsLeaf k → is_single k l ≡ false → step.over ≡ None → step.going ≡ Some x → Puts level before step [] new after →
    over_leaves before.entities.now (leaf_from k l []) ≡ [] → handed_leaves before.entities.now (leaf_from k l []) ≡ [] →
    ((at : ℕ) → StandsForLeaf before.entities.now at x (leaf_from k l [])) → BeginsBlock room level before l new after
unfolding closed last_groups
open_begins room level before l k step x new after is w one none going puts over_none handed_none stands in_item groups gap lines texts definitions had ready apart =
    let e = before.entities.now in
    let kept = leaf_from k l [] in
    let a = nodes_of groups in
    let n = length texts in
    let last = open_leaf lines gap kept in
    let nothing : (ls : List Leaf) → ls ≡ [] → tasked in_item a ≡ pushed_nodes in_item a ls = λ ls h. ap (tasked in_item) (sym (nodes_nil a)) ∙ ap (pushed_nodes in_item a) (sym h) in
    let over = nothing (over_leaves e kept) over_none in
    let handed = nothing (handed_leaves e kept) handed_none in
    let tight : is_tight_inside (merged groups (leaf_group e lines gap kept ∷ [])) ≡ tight_with groups gap = tight_pushed groups lines gap (Leaves (open_leaves e kept)) (same_none (last_mark groups)) in
    let m = puts.4 in
    let st = stands_open e in_item groups lines gap kept false (suc lines) new after texts definitions x
    (puts.2 ∙ ap (λ z. blocks_before (blocks_view level.over.items) (found_view z)) none ∙ blocks_nil (blocks_view level.over.items) ∙ ready.0 ∙ ap (placed n) over)
    (puts.0 ∙ append-nil (gathered_texts before) ∙ had.0 ∙ ap (λ z. texts ++ texts_in z) handed)
    (puts.1 ∙ had.1 ∙ ap (λ z. definitions ++ definitions_in z) handed)
    (m.0 ∙ ready.1, m.1 ∙ ready.2, m.2 ∙ ready.3, m.3 ∙ ready.4 ∙ ap not (sym tight))
    (puts.3 ready.5 ∙ ap open_leaf_of going)
    (stands (n + length (texts_in (pushed_nodes in_item a (over_leaves e kept))))) in
    subst (λ z. HasGathered after texts definitions (handed_nodes e in_item z) × StandsFor e n in_item new z) (sym (begun_summary e room groups gap lines l k false is w one)) st

over_begins : (room : ℕ) (level : Level) (before : Gathering) (l : BlockLine) (k : Kind) (step : LeafAfter) (one_leaf : Leaf) (found : tree.Block) (new : Level) (after : Gathering) →
    begun l ≡ k → IsLeaf k → is_single k l ≡ true → IsOver found step → block found no_blocks ≡ leaf_block (length (gathered_texts before)) one_leaf no_blocks → Puts level before step (leaf_texts one_leaf) new after →
    open_leaves before.entities.now (leaf_from k l []) ≡ one_leaf ∷ [] → leaf_definitions one_leaf ≡ [] → ((first : Bool) → tasked first (leaf_node one_leaf no_nodes) ≡ leaf_node one_leaf no_nodes) →
    BeginsBlock room level before l new after
unfolding closed last_groups placed texts_in definitions_in
over_begins room level before l k step one_leaf found new after is w single ends view puts leaves none task in_item groups gap lines texts definitions had ready apart =
    let e = before.entities.now in
    let kept = leaf_from k l [] in
    let a = nodes_of groups in
    let n = length texts in
    let tight : is_tight_inside (merged groups (leaf_group e lines gap kept ∷ [])) ≡ tight_with groups gap = tight_pushed groups lines gap (Leaves (open_leaves e kept)) (same_none (last_mark groups)) in
    let m = puts.4 in
    let given : IsGiven (gathered_texts before) (gathered_texts after) (gathered_definitions before) (gathered_definitions after) step.over (one_leaf ∷ []) =
    record {
      block_is = over_found step.over found ends.over ∙ view;
      texts = puts.0 ∙ ap (λ z. gathered_texts before ++ z) (sym (append-nil (leaf_texts one_leaf)));
      definitions = puts.1 ∙ sym (append-nil (gathered_definitions before)) ∙ ap (λ z. gathered_definitions before ++ z) (sym (append-nil (leaf_definitions one_leaf) ∙ none));
    } in
    let pushed = pushed_leaves in_item level.over.items (blocks_view new.over.items) a (open_leaves e kept) (one_leaf ∷ []) texts definitions (gathered_texts before) (gathered_texts after)
    (gathered_definitions before) (gathered_definitions after) step.over (ready.0, had.0, had.1) given
    (ap (λ z. tasked (is_front in_item level.over.items) (leaves_before z no_nodes)) leaves ∙ task (is_front in_item level.over.items)) puts.2 in
    let st = stands_ended e in_item groups lines gap kept false (suc lines) new after texts definitions pushed
    (m.0 ∙ ready.1, m.1 ∙ ready.2, m.2 ∙ ready.3, m.3 ∙ ready.4 ∙ ap not (sym tight)) (puts.3 ready.5 ∙ ap open_leaf_of ends.nothing_going) in
    subst (λ z. HasGathered after texts definitions (handed_nodes e in_item z) × StandsFor e n in_item new z) (sym (begun_summary e room groups gap lines l k true is w single)) st
  where
    over_found : (o : Option b.Block) (found : tree.Block) → MatchOption o ⊥ (λ b. block_view b ≡ found) → found_view o ≡ block found no_blocks
    over_found None found h = absurd h
    over_found (Some b) found h = ap (λ z. block z no_blocks) h

one_line : (l : BlockLine) → joined_lines (map rest (l ∷ [])) ≡ rest l
unfolding joined_lines
one_line l = refl

-- ---- by the kind of the start

heading_task : (level : ℕ) (text : List ℕ) (first : Bool) → tasked first (leaf_node (heading_leaf level text) no_nodes) ≡ leaf_node (heading_leaf level text) no_nodes
unfolding with_task
heading_task level text true = refl
heading_task level text false = refl

break_task : (first : Bool) → tasked first (leaf_node break_leaf no_nodes) ≡ leaf_node break_leaf no_nodes
unfolding with_task
break_task true = refl
break_task false = refl

paragraph_begins : (room : ℕ) (level : Level) (before : Gathering) (l : BlockLine) (step : LeafAfter) (new : Level) (after : Gathering) (x : Option held.Leaf) →
    begun l ≡ Paragraph → is_blank_line l ≡ false → step.going ≡ x → step.over ≡ None → MatchOption x ⊥ (IsParagraphLeaf (l ∷ [])) → Puts level before step [] new after → BeginsBlock room level before l new after
unfolding is_single leaf_from
paragraph_begins room level before l step new after (Some (leaf.Paragraph p)) is full going none h puts =
    open_begins room level before l Paragraph step (leaf.Paragraph p) new after is tt refl none going puts refl refl
    (λ at. record {
      kind = Paragraph;
      first = l;
      later = [];
      is_open = tt;
      kept_is = refl;
      held_is = h;
      cells = tt;
      has_text = subst (λ z. 0 < length z) (sym (h.whole ∙ one_line l)) (some_text l full);
    })
paragraph_begins room level before l step new after None is full going none h puts = absurd h
paragraph_begins room level before l step new after (Some (leaf.Fence p)) is full going none h puts = absurd h
paragraph_begins room level before l step new after (Some (leaf.Html p)) is full going none h puts = absurd h
paragraph_begins room level before l step new after (Some (leaf.Code p)) is full going none h puts = absurd h
paragraph_begins room level before l step new after (Some (leaf.Table p)) is full going none h puts = absurd h

code_begins : (room : ℕ) (level : Level) (before : Gathering) (l : BlockLine) (step : LeafAfter) (new : Level) (after : Gathering) (x : Option held.Leaf) →
    begun l ≡ IndentedCode → step.going ≡ x → step.over ≡ None → MatchOption x ⊥ (IsCodeLeaf (l ∷ [])) → Puts level before step [] new after → BeginsBlock room level before l new after
unfolding is_single leaf_from
code_begins room level before l step new after (Some (leaf.Code p)) is going none h puts =
    open_begins room level before l IndentedCode step (leaf.Code p) new after is tt refl none going puts refl refl
    (λ at. record { kind = IndentedCode; first = l; later = []; is_open = tt; kept_is = refl; held_is = h; cells = tt; has_text = tt })
code_begins room level before l step new after None is going none h puts = absurd h
code_begins room level before l step new after (Some (leaf.Paragraph p)) is going none h puts = absurd h
code_begins room level before l step new after (Some (leaf.Fence p)) is going none h puts = absurd h
code_begins room level before l step new after (Some (leaf.Html p)) is going none h puts = absurd h
code_begins room level before l step new after (Some (leaf.Table p)) is going none h puts = absurd h

fence_begins : (room : ℕ) (level : Level) (before : Gathering) (l : BlockLine) (step : LeafAfter) (new : Level) (after : Gathering) (x : Option held.Leaf) (i m n : ℕ) (info : List ℕ) →
    begun l ≡ FencedCode i m n info false → step.going ≡ x → step.over ≡ None → MatchOption x ⊥ (IsFenceLeaf before.entities.now i m n info []) → Puts level before step [] new after → BeginsBlock room level before l new after
unfolding is_single leaf_from
fence_begins room level before l step new after (Some (leaf.Fence p)) i m n info is going none h puts =
    open_begins room level before l (FencedCode i m n info false) step (leaf.Fence p) new after is tt refl none going puts refl refl
    (λ at. record { kind = FencedCode i m n info false; first = l; later = []; is_open = refl; kept_is = refl; held_is = h; cells = tt; has_text = tt })
fence_begins room level before l step new after None i m n info is going none h puts = absurd h
fence_begins room level before l step new after (Some (leaf.Paragraph p)) i m n info is going none h puts = absurd h
fence_begins room level before l step new after (Some (leaf.Code p)) i m n info is going none h puts = absurd h
fence_begins room level before l step new after (Some (leaf.Html p)) i m n info is going none h puts = absurd h
fence_begins room level before l step new after (Some (leaf.Table p)) i m n info is going none h puts = absurd h

html_open : (room : ℕ) (level : Level) (before : Gathering) (l : BlockLine) (step : LeafAfter) (new : Level) (after : Gathering) (x : Option held.Leaf) (kind : ℕ) →
    begun l ≡ HtmlBlock kind → ends_html kind l ≡ false → step.going ≡ x → step.over ≡ None → MatchOption x ⊥ (IsHtmlLeaf kind (l ∷ [])) → Puts level before step [] new after → BeginsBlock room level before l new after
unfolding is_single leaf_from
html_open room level before l step new after (Some (leaf.Html p)) kind is ends going none h puts =
    open_begins room level before l (HtmlBlock kind) step (leaf.Html p) new after is tt ends none going puts refl refl
    (λ at. record { kind = HtmlBlock kind; first = l; later = []; is_open = tt; kept_is = refl; held_is = h; cells = tt; has_text = tt })
html_open room level before l step new after None kind is ends going none h puts = absurd h
html_open room level before l step new after (Some (leaf.Paragraph p)) kind is ends going none h puts = absurd h
html_open room level before l step new after (Some (leaf.Code p)) kind is ends going none h puts = absurd h
html_open room level before l step new after (Some (leaf.Fence p)) kind is ends going none h puts = absurd h
html_open room level before l step new after (Some (leaf.Table p)) kind is ends going none h puts = absurd h

html_begins : (room : ℕ) (level : Level) (before : Gathering) (l : BlockLine) (step : LeafAfter) (new : Level) (after : Gathering) (ends : Bool) (kind : ℕ) →
    begun l ≡ HtmlBlock kind → ends_html kind l ≡ ends → IsHtmlStep ends kind (l ∷ []) step → Puts level before step [] new after → BeginsBlock room level before l new after
unfolding is_single leaf_from open_leaves
html_begins room level before l step new after false kind is ends h puts = html_open room level before l step new after step.going kind is ends refl h.nothing_over h.going puts
html_begins room level before l step new after true kind is ends h puts =
    over_begins room level before l (HtmlBlock kind) step (html_leaf (joined_lines (map (λ (x : BlockLine). x.line.text) (l ∷ [])))) _ new after is tt ends h refl puts refl refl (λ first. html_task first _)

heading_begins : (room : ℕ) (level : Level) (before : Gathering) (l : BlockLine) (step : LeafAfter) (new : Level) (after : Gathering) (depth : ℕ) (content : List ℕ) →
    begun l ≡ AtxHeading depth content → IsOver (tree.heading depth (length (gathered_texts before))) step → Puts level before step (content ∷ []) new after → BeginsBlock room level before l new after
unfolding is_single leaf_from open_leaves
heading_begins room level before l step new after depth content is h puts =
    over_begins room level before l (AtxHeading depth content) step (heading_leaf depth content) _ new after is tt refl h refl puts refl refl (heading_task depth content)

break_begins : (room : ℕ) (level : Level) (before : Gathering) (l : BlockLine) (step : LeafAfter) (new : Level) (after : Gathering) →
    begun l ≡ ThematicBreak → IsOver tree.thematic_break step → Puts level before step [] new after → BeginsBlock room level before l new after
unfolding is_single leaf_from open_leaves
break_begins room level before l step new after is h puts = over_begins room level before l ThematicBreak step break_leaf _ new after is tt refl h refl puts refl refl break_task

pub begun_is : (l : BlockLine) (opening : Option BlockStart) → option_map (kind_of_start l) opening ≡ start Free [] l → begun l ≡ opened_kind l opening
begun_is l opening e = ap (λ z. unwrap_or z Paragraph) (sym e)

pub leaf_begins : (room : ℕ) (level : Level) (before : Gathering) (l : BlockLine) (opening : Option BlockStart) (step : LeafAfter) (new : Level) (after : Gathering) →
    option_map (kind_of_start l) opening ≡ start Free [] l → IsLeafStart opening → is_blank_line l ≡ false →
    IsBegun before.entities.now (length before.texts.items) (opened_kind l opening) l step → Puts level before step (begun_texts (opened_kind l opening)) new after → BeginsBlock room level before l new after
leaf_begins room level before l None step new after e w full h puts = paragraph_begins room level before l step new after step.going (begun_is l None e) full refl h.nothing_over h.going puts
leaf_begins room level before l (Some (o.Heading heading)) step new after e w full h puts =
    heading_begins room level before l step new after heading.level (part (rest l) heading.content) (begun_is l (Some (o.Heading heading)) e)
    (subst (λ z. IsOver (tree.heading heading.level z) step) (sym (length-map before.texts.items string_bytes)) h) puts
leaf_begins room level before l (Some (o.Fence fence)) step new after e w full h puts =
    fence_begins room level before l step new after step.going (indentation l) fence.mark fence.length (part (rest l) fence.info) (begun_is l (Some (o.Fence fence)) e) refl h.nothing_over h.going puts
leaf_begins room level before l (Some (o.Html kind)) step new after e w full h puts = html_begins room level before l step new after (ends_html kind l) kind (begun_is l (Some (o.Html kind)) e) refl h puts
leaf_begins room level before l (Some o.Break) step new after e w full h puts = break_begins room level before l step new after (begun_is l (Some o.Break) e) h puts
leaf_begins room level before l (Some o.Code) step new after e w full h puts = code_begins room level before l step new after step.going (begun_is l (Some o.Code) e) refl h.nothing_over h.going puts
leaf_begins room level before l (Some o.Quote) step new after e w full h puts = absurd w
leaf_begins room level before l (Some (o.Item marker)) step new after e w full h puts = absurd w

leaf_kind : (l : BlockLine) (opening : Option BlockStart) → IsLeafStart opening → HoldsNone (opened_kind l opening)
leaf_kind l None w = tt
leaf_kind l (Some (o.Heading heading)) w = tt
leaf_kind l (Some (o.Fence fence)) w = tt
leaf_kind l (Some (o.Html kind)) w = tt
leaf_kind l (Some o.Break) w = tt
leaf_kind l (Some o.Code) w = tt
leaf_kind l (Some o.Quote) w = absurd w
leaf_kind l (Some (o.Item marker)) w = absurd w

pub leaf_fits : (room : ℕ) (l : BlockLine) (opening : Option BlockStart) → option_map (kind_of_start l) opening ≡ start Free [] l → IsLeafStart opening → sinks room no_summary l ≡ false
leaf_fits room l opening e w = leaf_sinks room l (subst HoldsNone (sym (begun_is l opening e)) (leaf_kind l opening w))

pub leaf_start : (start : BlockStart) → (start ≡ o.Quote → ⊥) → ((marker : Marker) → start ≡ o.Item marker → ⊥) → ((heading : AtxLine) → start ≡ o.Heading heading → ⊥) → OpensLeaf start
leaf_start o.Quote q i h = q refl
leaf_start (o.Item marker) q i h = i marker refl
leaf_start (o.Heading heading) q i h = h heading refl
leaf_start (o.Fence fence) q i h = tt
leaf_start (o.Html kind) q i h = tt
leaf_start o.Break q i h = tt
leaf_start o.Code q i h = tt

pub leaf_opens : (start : BlockStart) → OpensLeaf start → IsLeafStart (Some start)
leaf_opens o.Quote w = w
leaf_opens (o.Item marker) w = w
leaf_opens (o.Heading heading) w = tt
leaf_opens (o.Fence fence) w = tt
leaf_opens (o.Html kind) w = tt
leaf_opens o.Break w = tt
leaf_opens o.Code w = tt

pub shut_last : (x : OpenBlock) → IsShut x → x ≡ open_block.Shut
shut_last open_block.Shut w = refl
shut_last (open_block.Leaf held) w = absurd w
shut_last (open_block.Quote' p over last in_item begun blank spaced) w = absurd w
shut_last (open_block.List' p over last in_item begun blank spaced list) w = absurd w

-- the kind of what was found
pub start_is : (l : BlockLine) (opening : Option BlockStart) (found : BlockStart) → opening ≡ Some found → option_map (kind_of_start l) opening ≡ start Free [] l → begun l ≡ kind_of_start l found
start_is l opening found is e = begun_is l opening e ∙ ap (opened_kind l) is

pub found_fits : (room : ℕ) (l : BlockLine) (opening : Option BlockStart) (found : BlockStart) → opening ≡ Some found → option_map (kind_of_start l) opening ≡ start Free [] l → IsLeafStart (Some found) → sinks room no_summary l ≡ false
found_fits room l opening found is e w = leaf_fits room l opening e (subst IsLeafStart (sym is) w)
