-- An open leaf reads a line that it takes: it stays open, or is over.
use Rattle.std.proofs.Common.{◌≡◌, ℕ, suc, ◌+◌, ◌-◌, ◌<◌, Bool, true, false, not, List, [], ◌∷◌, ◌++◌, length, length-append, append_assoc, append-nil, map, take, Option, Some, None, Ok, refl, sym, ◌∙◌, ap, subst, arith}
use Rattle.std.proofs.lemmas.Grind.{flat_map-append}
use Rattle.std.proofs.lemmas.List.{length-map, map-append}
use Rattle.std.specs.List.{flat_map}
use Rattle.std.specs.Option.{MatchOption}
use Rattle.std.specs.Prelude.{string_bytes}
use Rattle.mdtext.specs.EntityTable.{EntityTable}
use Rattle.mdscan.specs.declared.delimiter_rows.Align.{Align}
use Rattle.mdleaf.specs.CodeLanguage.{code_language, code_meta}
use Rattle.mdleaf.specs.ParagraphDefinitions.{leading_of}
use Rattle.mdleaf.specs.DefinedLinks.{LinkDefinition}
use Rattle.mdleaf.specs.ParagraphText.{joined_lines, behind_definitions, without_end_blanks}
use Rattle.mdleaf.specs.Tables.{row_aligns, row_texts}
use Rattle.blockspec.specs.BlockLine.{BlockLine, rest, without_last}
use Rattle.blockspec.specs.BlankLines.{is_blank_line}
use Rattle.blockspec.specs.BlockKinds.{Inside, Quote, Item, Kind, Paragraph, SetextHeading, Table, AtxHeading, ThematicBreak, FencedCode, IndentedCode, HtmlBlock, Holds}
use Rattle.blockspec.specs.BlockStart.{start}
use Rattle.blockspec.specs.Tables.{last_text}
use Rattle.blockspec.specs.BlockTree.{no_blocks, block}
use Rattle.blockspec.specs.BlockTree as tree
use Rattle.blockspec.specs.Laziness.{Tip, Closed}
use Rattle.blockspec.specs.LeafContents.{code_text}
use Rattle.blockspec.specs.LineSummary.{Summary, summary, Last, nothing_yet, ended_block, open_leaf, open_container, closed, last_groups, leaf_group, summary_gap, line_added, is_apart_after}
use Rattle.blockspec.specs.Lists.{Leaves, Group, is_tight_inside, leaves_before, merged, nodes_of}
use Rattle.blockspec.specs.NodeTree.{Leaf, definition_leaf, paragraph_leaf, heading_leaf, break_leaf, code_leaf, html_leaf, table_leaf, Nodes, no_nodes, leaf_node, quote_node, list_node, texts_in, definitions_in, leaf_texts, leaf_definitions, leaf_block, placed}
use Rattle.blockspec.specs.OpenLeaf.{OpenLeaf, open_table, leaf_from, open_leaves, text_leaves, row_of, NextLeaf, ContinuesAs, EndsAs, EndedBefore, continues_as_if, next_leaf, is_parted}
use Rattle.blockspec.specs.Stretches.{Step, Continues, IsLastLine, IsOverBefore, continues_if, closes, ends_html, fence_step, html_step, paragraph_step, is_row, is_code, step, step as line_step}
use Rattle.blockspec.specs.TaskListItems.{with_task}
use Rattle.blockspec.proofs.OpenLeafLaws.{next_by, leaf_next, drops_last, joined_next, table_push}
use Rattle.mdblock.specs.BlockView.{block_view, blocks_view}
use Rattle.mdblock.specs.held.ClosedViews.{found_view}
use Rattle.mdblock.specs.held.HandedIn.{left_behind, gathered_texts, gathered_definitions}
use Rattle.mdblock.specs.held.HeldLevel.{is_front, is_begun, behind_over, IsOpenKind, CellsStand, StandsForLeaf, StandsFor, StandsForLast, HasGathered}
use Rattle.mdblock.specs.held.HeldNodes.{over_leaves, handed_leaves, handed_groups, handed_last, handed_nodes, tasked}
use Rattle.mdblock.specs.held.HeldTables.{IsTableBehind, IsHeaderLeaf, IsRowMore, first_rows}
use Rattle.mdblock.specs.held.LevelSteps.{open_leaf_of, HasRestOf, gap_behind, GrowsLeaf, HandsIn, HandsInNothing}
use Rattle.mdblock.specs.held.LinesAdded.{IsReadBehind, IsAdded}
use Rattle.mdblock.specs.held.OpenLeaves.{IsLeafOf, IsOver, IsParagraphLeaf, IsFenceLeaf, IsCodeLeaf, IsHtmlLeaf, IsTableIn, IsLeft, IsRowIn}
use Rattle.mdblock.specs.held.ParagraphLines.{HeldText, HoldsLines}
use Rattle.mdblock.specs.held.TreesBehind.{nodes_before, blocks_before}
use Rattle.mdblock.specs.declared.blocks.Block as b
use Rattle.mdblock.specs.declared.gathering.Gathering.{Gathering}
use Rattle.mdblock.specs.declared.leaf.Leaf as held
use Rattle.mdblock.specs.declared.leaf.Leaf.TheVariants as leaf
use Rattle.mdblock.specs.declared.leaf.LeafAfter.{LeafAfter}
use Rattle.mdblock.specs.declared.leaf.tables.Table as table
use Rattle.mdblock.specs.held.Continuations.{ContinuesOpen}
use Rattle.mdblock.specs.declared.open_blocks.Continuation.{Continuation}
use Rattle.mdblock.specs.declared.open_blocks.Continuation.TheVariants as continuation
use Rattle.mdblock.specs.declared.open_blocks.Level.{Level}
use Rattle.mdblock.specs.declared.open_blocks.OpenBlock as open_block
use Rattle.mdblock.proofs.CloseLeafLaws.{IsGiven, defs_placed, defs_texts, defs_definitions, defs_task, end_given, html_task, code_task}
use Rattle.mdblock.proofs.HeldNodesLaws.{merged_leaves}
use Rattle.mdblock.proofs.LeafTurns.{table_above}
use Rattle.mdblock.proofs.LevelGroups.{same_gaps}
use Rattle.mdblock.proofs.LevelLeaves.{pushed_nodes, Stand, pushed_leaves, HasMarks, stands_ended, stands_open}
use Rattle.mdblock.proofs.LevelLines.{leaf_added, leaf_grown, leaf_never_sinks}
use Rattle.mdblock.proofs.ParagraphLaws.{next_line, last_within}
use Rattle.mdblock.proofs.PlacedNodes.{blocks_nil, texts_before, earlier_definitions, leaves_append, leaves_behind, nodes_assoc, nodes_nil}
use Rattle.mdblock.proofs.TableLaws.{header_stands, row_stands}

-- ---- the text above the last line

without_cons : (l m : BlockLine) (lines : List BlockLine) → without_last (l ∷ m ∷ lines) ≡ l ∷ without_last (m ∷ lines)
without_cons l m lines = let n : length (l ∷ m ∷ lines) - 1 ≡ suc (length (m ∷ lines) - 1) = omega arith in ap (λ k. take k (l ∷ m ∷ lines)) n

past : (xs ys : List ℕ) (m n : ℕ) → n ≡ length xs + m → take n (xs ++ ys) ≡ xs ++ take m ys
past [] ys m n h = let e : n ≡ m = omega (arith, h) in ap (λ z. take z ys) e
past (x ∷ xs) ys m n h = let e : n ≡ suc (length xs + m) = omega (arith, h) in ap (λ z. take z (x ∷ xs ++ ys)) e ∙ ap (λ z. x ∷ z) (past xs ys m (length xs + m) refl)

text_above : (lines : List BlockLine) (k : ℕ) → k + length (last_text lines) ≡ length (joined_lines (map rest lines)) → take (k - 1) (joined_lines (map rest lines)) ≡ joined_lines (map rest (without_last lines))
unfolding joined_lines
text_above [] k h = let n : k - 1 ≡ 0 = omega (arith, h) in ap (λ z. take z []) n
text_above (l ∷ []) k h = let n : k - 1 ≡ 0 = omega (arith, h) in ap (λ z. take z (rest l)) n
text_above (l ∷ m ∷ []) k h =
    let p = length-append (rest l) (10 ∷ rest m) in
    past (rest l) (10 ∷ rest m) 0 (k - 1) (omega (arith, h, p)) ∙ append-nil (rest l)
text_above (l ∷ m ∷ n ∷ lines) k h =
    let J = joined_lines (map rest (m ∷ n ∷ lines)) in
    let p = length-append (rest l) (10 ∷ J) in
    let q = length-append (rest m) (10 ∷ joined_lines (map rest (n ∷ lines))) in
    let w = last_within (n ∷ lines) in
    let k' = length J - length (last_text (m ∷ n ∷ lines)) in
    let inner = text_above (m ∷ n ∷ lines) k' (omega (arith, q, w)) in
    past (rest l) (10 ∷ J) (suc (k' - 1)) (k - 1) (omega (arith, h, p, q, w)) ∙ ap (λ z. rest l ++ 10 ∷ z) inner
    ∙ ap (λ z. rest l ++ 10 ∷ joined_lines (map rest z)) (without_cons m n lines) ∙ ap (λ z. joined_lines (map rest (l ∷ z))) (sym (without_cons m n lines)) ∙ ap (λ z. joined_lines (map rest z)) (sym (without_cons l m (n ∷ lines)))

pub above_is : (lines : List BlockLine) (p : HeldText) → HoldsLines lines p → take (p.last - 1) p.text ≡ joined_lines (map rest (without_last lines))
above_is lines p h = ap (λ z. take (p.last - 1) z) h.whole ∙ text_above lines p.last (h.last_one ∙ ap length h.whole)

-- ---- what the level is then

-- A line that the leaf takes makes this of the summary.
leaf_done : (room : ℕ) (new : Level) (before after : Gathering) (l : BlockLine) (in_item : Bool) (groups : List Group) (begin : ℕ) (gap : Bool) (kept : OpenLeaf) (was : Bool) (lines : ℕ)
    (texts : List (List ℕ)) (definitions : List LinkDefinition) (next : NextLeaf) → is_apart_after (open_leaf begin gap kept) l ≡ false → next_leaf kept l ≡ next →
    (let e = before.entities.now in let S = summary groups (leaf_grown e begin gap next) (is_blank_line l) (suc lines) in
    HasGathered after texts definitions (handed_nodes e in_item S) × StandsFor e (length texts) in_item new S) →
    IsAdded before.entities.now room in_item (summary groups (open_leaf begin gap kept) was lines) texts definitions l new after
leaf_done room new before after l in_item groups begin gap kept was lines texts definitions next apart is h =
    let e = before.entities.now in
    let added = leaf_added e room groups begin gap kept was lines l apart ∙ ap (λ z. summary groups (leaf_grown e begin gap z) (is_blank_line l) (suc lines)) is in (
      leaf_never_sinks room groups begin gap kept was lines l apart,
      subst (λ z. HasGathered after texts definitions (handed_nodes e in_item z)) (sym added) h.0,
      subst (λ z. StandsFor e (length texts) in_item new z) (sym added) h.1,
    )

abbrev leaf_summary : List Group → (begin : ℕ) → (gap : Bool) → OpenLeaf → (was : Bool) → (lines : ℕ) → Summary
leaf_summary groups begin gap kept was lines = summary groups (open_leaf begin gap kept) was lines

-- what is known of the level before the line
record WasLeaf (e : EntityTable) (in_item : Bool) (level : Level) (before : Gathering) (groups : List Group) (kept : OpenLeaf) (begin : ℕ) (gap : Bool) (texts : List (List ℕ)) (definitions : List LinkDefinition) : Type 0 where
  over : blocks_view level.over.items ≡ placed (length texts) (pushed_nodes in_item (nodes_of groups) (over_leaves e kept))
  have : gathered_texts before ≡ texts ++ texts_in (pushed_nodes in_item (nodes_of groups) (handed_leaves e kept))
  known : gathered_definitions before ≡ definitions ++ definitions_in (pushed_nodes in_item (nodes_of groups) (handed_leaves e kept))
  in_item_is : level.in_item ≡ in_item
  begun : level.begun ≡ true
  spaced : level.spaced ≡ not (is_tight_inside (merged groups (leaf_group e begin gap kept ∷ [])))

was_leaf : (e : EntityTable) (in_item : Bool) (level : Level) (before : Gathering) (groups : List Group) (begin : ℕ) (gap : Bool) (kept : OpenLeaf) (was : Bool) (lines : ℕ) (texts : List (List ℕ)) (definitions : List LinkDefinition) →
    HasGathered before texts definitions (handed_nodes e in_item (leaf_summary groups begin gap kept was lines)) → StandsFor e (length texts) in_item level (leaf_summary groups begin gap kept was lines) →
    WasLeaf e in_item level before groups kept begin gap texts definitions
unfolding handed_groups handed_last closed last_groups
was_leaf e in_item level before groups begin gap kept was lines texts definitions had st =
    let handed : handed_nodes e in_item (leaf_summary groups begin gap kept was lines) ≡ pushed_nodes in_item (nodes_of groups) (handed_leaves e kept) = ap (tasked in_item) (merged_leaves groups begin gap (handed_leaves e kept)) in
    let h = subst (λ z. HasGathered before texts definitions z) handed had in
    record { over = st.0.0; have = h.0; known = h.1; in_item_is = st.0.1; begun = st.0.2; spaced = st.0.4 }

-- its marks, where the leaf is of the same lines and some more
leaf_marks : (e : EntityTable) (in_item : Bool) (level new : Level) (before : Gathering) (groups : List Group) (kept next : OpenLeaf) (begin : ℕ) (gap : Bool) (texts : List (List ℕ)) (definitions : List LinkDefinition) (last : Last) (blank : Bool) (lines : ℕ) →
    WasLeaf e in_item level before groups kept begin gap texts definitions → HasRestOf level new → is_begun last ≡ true → last_groups e last ≡ leaf_group e begin gap next ∷ [] → new.blank ≡ summary_gap last blank →
    HasMarks e in_item new (summary groups last blank lines)
unfolding closed
leaf_marks e in_item level new before groups kept next begin gap texts definitions last blank lines w m b g q = (
  m.0 ∙ w.in_item_is,
  m.1 ∙ w.begun ∙ sym b,
  q,
  m.2 ∙ w.spaced ∙ ap not (same_gaps groups begin gap (Leaves (open_leaves e kept)) (Leaves (open_leaves e next)) refl ∙ ap (λ z. is_tight_inside (merged groups z)) (sym g)),
)

nothing_pushed : (in_item : Bool) (a : Nodes) (ls : List Leaf) → ls ≡ [] → pushed_nodes in_item a ls ≡ tasked in_item a
nothing_pushed in_item a ls h = ap (pushed_nodes in_item a) h ∙ ap (tasked in_item) (nodes_nil a)

-- The leaf stays open, with nothing over and handed in.
stays : (e : EntityTable) (in_item : Bool) (level new : Level) (before after : Gathering) (groups : List Group) (kept next : OpenLeaf) (begin : ℕ) (gap : Bool) (texts : List (List ℕ)) (definitions : List LinkDefinition) (x : held.Leaf) (blank : Bool) (lines : ℕ) →
    WasLeaf e in_item level before groups kept begin gap texts definitions → HasRestOf level new → new.blank ≡ summary_gap (open_leaf begin gap next) blank →
    blocks_view new.over.items ≡ blocks_view level.over.items → new.last ≡ open_block.Leaf x → gathered_texts after ≡ gathered_texts before → gathered_definitions after ≡ gathered_definitions before →
    over_leaves e next ≡ over_leaves e kept → handed_leaves e next ≡ handed_leaves e kept → ((at : ℕ) → StandsForLeaf e at x next) →
    HasGathered after texts definitions (handed_nodes e in_item (summary groups (open_leaf begin gap next) blank lines)) × StandsFor e (length texts) in_item new (summary groups (open_leaf begin gap next) blank lines)
unfolding last_groups
stays e in_item level new before after groups kept next begin gap texts definitions x blank lines w m q over is have known o h st =
    stands_open e in_item groups begin gap next blank lines new after texts definitions x
    (over ∙ w.over ∙ ap (λ z. placed (length texts) (pushed_nodes in_item (nodes_of groups) z)) (sym o))
    (have ∙ w.have ∙ ap (λ z. texts ++ texts_in (pushed_nodes in_item (nodes_of groups) z)) (sym h))
    (known ∙ w.known ∙ ap (λ z. definitions ++ definitions_in (pushed_nodes in_item (nodes_of groups) z)) (sym h))
    (leaf_marks e in_item level new before groups kept next begin gap texts definitions (open_leaf begin gap next) blank lines w m refl refl q) is (st _)

-- The leaf is over, and is one of those that hand in nothing before their end.
ends : (e : EntityTable) (in_item : Bool) (level new : Level) (before after : Gathering) (groups : List Group) (kept next : OpenLeaf) (begin : ℕ) (gap : Bool) (texts : List (List ℕ)) (definitions : List LinkDefinition) (found : Option b.Block) (leaves : List Leaf) (blank : Bool) (lines : ℕ) →
    WasLeaf e in_item level before groups kept begin gap texts definitions → HasRestOf level new → new.blank ≡ summary_gap (ended_block (leaf_group e begin gap next)) blank →
    blocks_view new.over.items ≡ blocks_before (blocks_view level.over.items) (found_view found) → new.last ≡ open_block.Shut →
    IsGiven (gathered_texts before) (gathered_texts after) (gathered_definitions before) (gathered_definitions after) found leaves →
    over_leaves e kept ≡ [] → handed_leaves e kept ≡ [] → tasked (is_front in_item level.over.items) (leaves_before (open_leaves e next) no_nodes) ≡ leaves_before leaves no_nodes →
    HasGathered after texts definitions (handed_nodes e in_item (summary groups (ended_block (leaf_group e begin gap next)) blank lines)) × StandsFor e (length texts) in_item new (summary groups (ended_block (leaf_group e begin gap next)) blank lines)
unfolding last_groups
ends e in_item level new before after groups kept next begin gap texts definitions found leaves blank lines w m q over is given o h task =
    let a = nodes_of groups in
    let over_was = w.over ∙ ap (placed (length texts)) (nothing_pushed in_item a (over_leaves e kept) o) in
    let have = w.have ∙ ap (λ z. texts ++ texts_in z) (nothing_pushed in_item a (handed_leaves e kept) h) in
    let known = w.known ∙ ap (λ z. definitions ++ definitions_in z) (nothing_pushed in_item a (handed_leaves e kept) h) in
    stands_ended e in_item groups begin gap next blank lines new after texts definitions
    (pushed_leaves in_item level.over.items (blocks_view new.over.items) a (open_leaves e next) leaves texts definitions (gathered_texts before) (gathered_texts after) (gathered_definitions before) (gathered_definitions after) found (over_was, have, known) given task over)
    (leaf_marks e in_item level new before groups kept next begin gap texts definitions (ended_block (leaf_group e begin gap next)) blank lines w m refl refl q) is

-- ---- by what the line makes of the leaf

record Here (room : ℕ) (level new : Level) (before after : Gathering) (l : BlockLine) (step : LeafAfter) (in_item : Bool) (groups : List Group) (begin : ℕ) (gap : Bool) (kept : OpenLeaf) (was : Bool) (lines : ℕ)
    (texts : List (List ℕ)) (definitions : List LinkDefinition) : Type 0 where
  leaf_was : WasLeaf before.entities.now in_item level before groups kept begin gap texts definitions
  marks : HasRestOf level new
  over : blocks_view new.over.items ≡ blocks_before (blocks_view level.over.items) (found_view step.over)
  last : new.last ≡ open_leaf_of step.going
  apart : is_apart_after (open_leaf begin gap kept) l ≡ false
  blank : new.blank ≡ gap_behind (line_added before.entities.now (suc room) (leaf_summary groups begin gap kept was lines) l)

gap_is : (e : EntityTable) (room : ℕ) (groups : List Group) (begin : ℕ) (gap : Bool) (kept : OpenLeaf) (was : Bool) (lines : ℕ) (l : BlockLine) (next : NextLeaf) → is_apart_after (open_leaf begin gap kept) l ≡ false → next_leaf kept l ≡ next →
    gap_behind (line_added e (suc room) (leaf_summary groups begin gap kept was lines) l) ≡ summary_gap (leaf_grown e begin gap next) (is_blank_line l)
gap_is e room groups begin gap kept was lines l next apart is =
    ap gap_behind (leaf_added e room groups begin gap kept was lines l apart ∙ ap (λ z. summary groups (leaf_grown e begin gap z) (is_blank_line l) (suc lines)) is)

goes_open : (room : ℕ) (level new : Level) (before after : Gathering) (l : BlockLine) (step : LeafAfter) (in_item : Bool) (groups : List Group) (begin : ℕ) (gap : Bool) (kept : OpenLeaf) (was : Bool) (lines : ℕ) (texts : List (List ℕ)) (definitions : List LinkDefinition) →
    Here room level new before after l step in_item groups begin gap kept was lines texts definitions → (next : OpenLeaf) (x : held.Leaf) → next_leaf kept l ≡ ContinuesAs next → step.over ≡ None → step.going ≡ Some x → HandsInNothing before after →
    over_leaves before.entities.now next ≡ over_leaves before.entities.now kept → handed_leaves before.entities.now next ≡ handed_leaves before.entities.now kept → ((at : ℕ) → StandsForLeaf before.entities.now at x next) →
    IsAdded before.entities.now room in_item (leaf_summary groups begin gap kept was lines) texts definitions l new after
goes_open room level new before after l step in_item groups begin gap kept was lines texts definitions h next x is none going same o d st =
    let e = before.entities.now in
    leaf_done room new before after l in_item groups begin gap kept was lines texts definitions (ContinuesAs next) h.apart is
    (stays e in_item level new before after groups kept next begin gap texts definitions x (is_blank_line l) (suc lines) h.leaf_was h.marks (h.blank ∙ gap_is e room groups begin gap kept was lines l (ContinuesAs next) h.apart is)
    (h.over ∙ ap (λ z. blocks_before (blocks_view level.over.items) (found_view z)) none ∙ blocks_nil (blocks_view level.over.items)) (h.last ∙ ap open_leaf_of going) same.0 same.1 o d st)

goes_over : (room : ℕ) (level new : Level) (before after : Gathering) (l : BlockLine) (step : LeafAfter) (in_item : Bool) (groups : List Group) (begin : ℕ) (gap : Bool) (kept : OpenLeaf) (was : Bool) (lines : ℕ) (texts : List (List ℕ)) (definitions : List LinkDefinition) →
    Here room level new before after l step in_item groups begin gap kept was lines texts definitions → (next : OpenLeaf) (leaves : List Leaf) → next_leaf kept l ≡ EndsAs next → step.going ≡ None →
    IsGiven (gathered_texts before) (gathered_texts after) (gathered_definitions before) (gathered_definitions after) step.over leaves → over_leaves before.entities.now kept ≡ [] → handed_leaves before.entities.now kept ≡ [] →
    tasked (is_front in_item level.over.items) (leaves_before (open_leaves before.entities.now next) no_nodes) ≡ leaves_before leaves no_nodes →
    IsAdded before.entities.now room in_item (leaf_summary groups begin gap kept was lines) texts definitions l new after
goes_over room level new before after l step in_item groups begin gap kept was lines texts definitions h next leaves is none given o d task =
    let e = before.entities.now in
    leaf_done room new before after l in_item groups begin gap kept was lines texts definitions (EndsAs next) h.apart is
    (ends e in_item level new before after groups kept next begin gap texts definitions step.over leaves (is_blank_line l) (suc lines) h.leaf_was h.marks (h.blank ∙ gap_is e room groups begin gap kept was lines l (EndsAs next) h.apart is)
    h.over (h.last ∙ ap open_leaf_of none) given o d task)

not_parted : (next : NextLeaf) (n : NextLeaf) → n ≡ next → is_parted next ≡ false → n ≡ EndedBefore → ⊥
not_parted next n is p e = let x : ⊥ = cc in x

-- one block that is over, with no text
one_given : (before after : Gathering) (step : LeafAfter) (one : Leaf) (found : tree.Block) → IsOver found step → block found no_blocks ≡ leaf_block (length (gathered_texts before)) one no_blocks → leaf_texts one ≡ [] → leaf_definitions one ≡ [] → HandsInNothing before after →
    IsGiven (gathered_texts before) (gathered_texts after) (gathered_definitions before) (gathered_definitions after) step.over (one ∷ [])
unfolding placed texts_in definitions_in
one_given before after step one found h view t d same = record {
  block_is = go step.over h.over ∙ view;
  texts = same.0 ∙ sym (append-nil (gathered_texts before)) ∙ ap (λ z. gathered_texts before ++ z) (sym (append-nil (leaf_texts one) ∙ t));
  definitions = same.1 ∙ sym (append-nil (gathered_definitions before)) ∙ ap (λ z. gathered_definitions before ++ z) (sym (append-nil (leaf_definitions one) ∙ d));
}
  where
    go : (o : Option b.Block) → MatchOption o ⊥ (λ z. block_view z ≡ found) → found_view o ≡ block found no_blocks
    go None h = absurd h
    go (Some z) h = ap (λ w. block w no_blocks) h

-- ---- fenced code

fence_goes : (room : ℕ) (level new : Level) (before after : Gathering) (l : BlockLine) (step : LeafAfter) (in_item : Bool) (groups : List Group) (begin : ℕ) (gap : Bool) (was : Bool) (lines : ℕ) (texts : List (List ℕ)) (definitions : List LinkDefinition)
    (i m n : ℕ) (info : List ℕ) (first : BlockLine) (later : List BlockLine) (closed : Bool) →
    Here room level new before after l step in_item groups begin gap (leaf_from (FencedCode i m n info false) first later) was lines texts definitions → HandsInNothing before after →
    next_by first (later ++ l ∷ []) (fence_step closed (FencedCode i m n info)) ≡ next_leaf (leaf_from (FencedCode i m n info false) first later) l → IsLeft before.entities.now (fence_step closed (FencedCode i m n info)) first (later ++ l ∷ []) step →
    IsAdded before.entities.now room in_item (leaf_summary groups begin gap (leaf_from (FencedCode i m n info false) first later) was lines) texts definitions l new after
unfolding leaf_from open_leaves
fence_goes room level new before after l step in_item groups begin gap was lines texts definitions i m n info first later true h same is left =
    let kept = leaf_from (FencedCode i m n info false) first later in
    let next = leaf_from (FencedCode i m n info true) first (later ++ l ∷ []) in
    let one = code_leaf (code_language before.entities.now info) (code_meta before.entities.now info) (code_text i (without_last (later ++ l ∷ []))) in
    goes_over room level new before after l step in_item groups begin gap kept was lines texts definitions h next (one ∷ []) (sym is) left.nothing_going (one_given before after step one _ left refl refl refl same) refl refl (code_task (is_front in_item level.over.items) _ _ _)
fence_goes room level new before after l step in_item groups begin gap was lines texts definitions i m n info first later false h same is left = go step.going refl left.going
  where
    kept : OpenLeaf
    kept = leaf_from (FencedCode i m n info false) first later

    go : (o : Option held.Leaf) → step.going ≡ o → MatchOption o ⊥ (IsFenceLeaf before.entities.now i m n info (later ++ l ∷ [])) → IsAdded before.entities.now room in_item (leaf_summary groups begin gap kept was lines) texts definitions l new after
    go (Some (leaf.Fence f)) going f_is =
        goes_open room level new before after l step in_item groups begin gap kept was lines texts definitions h (leaf_from (FencedCode i m n info false) first (later ++ l ∷ [])) (leaf.Fence f) (sym is) left.nothing_over going same refl refl
        (λ at. record { kind = FencedCode i m n info false; first = first; later = later ++ l ∷ []; is_open = refl; kept_is = refl; held_is = f_is; cells = tt; has_text = tt })
    go None going f_is = absurd f_is
    go (Some (leaf.Paragraph f)) going f_is = absurd f_is
    go (Some (leaf.Html f)) going f_is = absurd f_is
    go (Some (leaf.Code f)) going f_is = absurd f_is
    go (Some (leaf.Table f)) going f_is = absurd f_is

-- ---- indented code

code_goes : (room : ℕ) (level new : Level) (before after : Gathering) (l : BlockLine) (step : LeafAfter) (in_item : Bool) (groups : List Group) (begin : ℕ) (gap : Bool) (was : Bool) (lines : ℕ) (texts : List (List ℕ)) (definitions : List LinkDefinition)
    (first : BlockLine) (later : List BlockLine) (takes : Bool) →
    Here room level new before after l step in_item groups begin gap (leaf_from IndentedCode first later) was lines texts definitions → HandsInNothing before after →
    next_by first (later ++ l ∷ []) (continues_if takes IndentedCode) ≡ next_leaf (leaf_from IndentedCode first later) l → IsLeft before.entities.now (continues_if takes IndentedCode) first (later ++ l ∷ []) step →
    IsAdded before.entities.now room in_item (leaf_summary groups begin gap (leaf_from IndentedCode first later) was lines) texts definitions l new after
unfolding leaf_from is_apart_after
code_goes room level new before after l step in_item groups begin gap was lines texts definitions first later false h same is left = absurd (not_parted _ _ refl h.apart (sym is))
code_goes room level new before after l step in_item groups begin gap was lines texts definitions first later true h same is left = go step.going refl left.going
  where
    kept : OpenLeaf
    kept = leaf_from IndentedCode first later

    go : (o : Option held.Leaf) → step.going ≡ o → MatchOption o ⊥ (IsCodeLeaf (first ∷ later ++ l ∷ [])) → IsAdded before.entities.now room in_item (leaf_summary groups begin gap kept was lines) texts definitions l new after
    go (Some (leaf.Code f)) going f_is =
        goes_open room level new before after l step in_item groups begin gap kept was lines texts definitions h (leaf_from IndentedCode first (later ++ l ∷ [])) (leaf.Code f) (sym is) left.nothing_over going same refl refl
        (λ at. record { kind = IndentedCode; first = first; later = later ++ l ∷ []; is_open = tt; kept_is = refl; held_is = f_is; cells = tt; has_text = tt })
    go None going f_is = absurd f_is
    go (Some (leaf.Paragraph f)) going f_is = absurd f_is
    go (Some (leaf.Html f)) going f_is = absurd f_is
    go (Some (leaf.Fence f)) going f_is = absurd f_is
    go (Some (leaf.Table f)) going f_is = absurd f_is

-- ---- HTML blocks

html_stays : (room : ℕ) (level new : Level) (before after : Gathering) (l : BlockLine) (step : LeafAfter) (in_item : Bool) (groups : List Group) (begin : ℕ) (gap : Bool) (was : Bool) (lines : ℕ) (texts : List (List ℕ)) (definitions : List LinkDefinition)
    (kind : ℕ) (first : BlockLine) (later : List BlockLine) (x : Option held.Leaf) →
    Here room level new before after l step in_item groups begin gap (leaf_from (HtmlBlock kind) first later) was lines texts definitions → HandsInNothing before after →
    next_leaf (leaf_from (HtmlBlock kind) first later) l ≡ ContinuesAs (leaf_from (HtmlBlock kind) first (later ++ l ∷ [])) → step.over ≡ None → step.going ≡ x → MatchOption x ⊥ (IsHtmlLeaf kind (first ∷ later ++ l ∷ [])) →
    IsAdded before.entities.now room in_item (leaf_summary groups begin gap (leaf_from (HtmlBlock kind) first later) was lines) texts definitions l new after
unfolding leaf_from
html_stays room level new before after l step in_item groups begin gap was lines texts definitions kind first later (Some (leaf.Html f)) h same is none going f_is =
    goes_open room level new before after l step in_item groups begin gap (leaf_from (HtmlBlock kind) first later) was lines texts definitions h (leaf_from (HtmlBlock kind) first (later ++ l ∷ [])) (leaf.Html f) is none going same refl refl
    (λ at. record { kind = HtmlBlock kind; first = first; later = later ++ l ∷ []; is_open = tt; kept_is = refl; held_is = f_is; cells = tt; has_text = tt })
html_stays room level new before after l step in_item groups begin gap was lines texts definitions kind first later None h same is none going f_is = absurd f_is
html_stays room level new before after l step in_item groups begin gap was lines texts definitions kind first later (Some (leaf.Paragraph f)) h same is none going f_is = absurd f_is
html_stays room level new before after l step in_item groups begin gap was lines texts definitions kind first later (Some (leaf.Fence f)) h same is none going f_is = absurd f_is
html_stays room level new before after l step in_item groups begin gap was lines texts definitions kind first later (Some (leaf.Code f)) h same is none going f_is = absurd f_is
html_stays room level new before after l step in_item groups begin gap was lines texts definitions kind first later (Some (leaf.Table f)) h same is none going f_is = absurd f_is

html_taken : (room : ℕ) (level new : Level) (before after : Gathering) (l : BlockLine) (step : LeafAfter) (in_item : Bool) (groups : List Group) (begin : ℕ) (gap : Bool) (was : Bool) (lines : ℕ) (texts : List (List ℕ)) (definitions : List LinkDefinition)
    (kind : ℕ) (first : BlockLine) (later : List BlockLine) (takes : Bool) →
    Here room level new before after l step in_item groups begin gap (leaf_from (HtmlBlock kind) first later) was lines texts definitions → HandsInNothing before after →
    next_by first (later ++ l ∷ []) (continues_if takes (HtmlBlock kind)) ≡ next_leaf (leaf_from (HtmlBlock kind) first later) l → IsLeft before.entities.now (continues_if takes (HtmlBlock kind)) first (later ++ l ∷ []) step →
    IsAdded before.entities.now room in_item (leaf_summary groups begin gap (leaf_from (HtmlBlock kind) first later) was lines) texts definitions l new after
unfolding is_apart_after
html_taken room level new before after l step in_item groups begin gap was lines texts definitions kind first later true h same is left =
    html_stays room level new before after l step in_item groups begin gap was lines texts definitions kind first later step.going h same (sym is) left.nothing_over refl left.going
html_taken room level new before after l step in_item groups begin gap was lines texts definitions kind first later false h same is left = absurd (not_parted _ _ refl h.apart (sym is))

html_goes : (room : ℕ) (level new : Level) (before after : Gathering) (l : BlockLine) (step : LeafAfter) (in_item : Bool) (groups : List Group) (begin : ℕ) (gap : Bool) (was : Bool) (lines : ℕ) (texts : List (List ℕ)) (definitions : List LinkDefinition)
    (kind : ℕ) (first : BlockLine) (later : List BlockLine) (blank over : Bool) →
    Here room level new before after l step in_item groups begin gap (leaf_from (HtmlBlock kind) first later) was lines texts definitions → HandsInNothing before after →
    next_by first (later ++ l ∷ []) (html_step blank over kind) ≡ next_leaf (leaf_from (HtmlBlock kind) first later) l → IsLeft before.entities.now (html_step blank over kind) first (later ++ l ∷ []) step →
    IsAdded before.entities.now room in_item (leaf_summary groups begin gap (leaf_from (HtmlBlock kind) first later) was lines) texts definitions l new after
unfolding leaf_from open_leaves
html_goes room level new before after l step in_item groups begin gap was lines texts definitions kind first later true over h same is left =
    html_taken room level new before after l step in_item groups begin gap was lines texts definitions kind first later _ h same is left
html_goes room level new before after l step in_item groups begin gap was lines texts definitions kind first later false false h same is left =
    html_stays room level new before after l step in_item groups begin gap was lines texts definitions kind first later step.going h same (sym is) left.nothing_over refl left.going
html_goes room level new before after l step in_item groups begin gap was lines texts definitions kind first later false true h same is left =
    let one = html_leaf (joined_lines (map (λ (x : BlockLine). x.line.text) (first ∷ later ++ l ∷ []))) in
    goes_over room level new before after l step in_item groups begin gap (leaf_from (HtmlBlock kind) first later) was lines texts definitions h (leaf_from (HtmlBlock kind) first (later ++ l ∷ [])) (one ∷ []) (sym is) left.nothing_going
    (one_given before after step one _ left refl refl refl same) refl refl (html_task (is_front in_item level.over.items) _)

-- ---- a table behind what is over

task_before_table : (a : Nodes) (aligns : List Align) (head : List (List ℕ)) (rows : List (List (List ℕ))) →
    with_task (nodes_before a (leaf_node (table_leaf aligns head rows) no_nodes)) ≡ nodes_before (with_task a) (leaf_node (table_leaf aligns head rows) no_nodes)
unfolding with_task
task_before_table no_nodes aligns head rows = refl
task_before_table (leaf_node (definition_leaf definition) a) aligns head rows = ap (leaf_node (definition_leaf definition)) (task_before_table a aligns head rows)
task_before_table (leaf_node (paragraph_leaf task text) a) aligns head rows = refl
task_before_table (leaf_node (heading_leaf level text) a) aligns head rows = refl
task_before_table (leaf_node break_leaf a) aligns head rows = refl
task_before_table (leaf_node (code_leaf lang meta body) a) aligns head rows = refl
task_before_table (leaf_node (html_leaf lines) a) aligns head rows = refl
task_before_table (leaf_node (table_leaf a' h r) a) aligns head rows = refl
task_before_table (quote_node inner a) aligns head rows = refl
task_before_table (list_node kind tight items a) aligns head rows = refl

tasked_table : (in_item : Bool) (a : Nodes) (aligns : List Align) (head : List (List ℕ)) (rows : List (List (List ℕ))) →
    tasked in_item (nodes_before a (leaf_node (table_leaf aligns head rows) no_nodes)) ≡ nodes_before (tasked in_item a) (leaf_node (table_leaf aligns head rows) no_nodes)
tasked_table true a aligns head rows = task_before_table a aligns head rows
tasked_table false a aligns head rows = refl

pushed_table : (in_item : Bool) (a : Nodes) (ls : List Leaf) (aligns : List Align) (head : List (List ℕ)) (rows : List (List (List ℕ))) →
    pushed_nodes in_item a (ls ++ table_leaf aligns head rows ∷ []) ≡ nodes_before (pushed_nodes in_item a ls) (leaf_node (table_leaf aligns head rows) no_nodes)
pushed_table in_item a ls aligns head rows =
    let node = leaf_node (table_leaf aligns head rows) no_nodes in
    ap (λ z. tasked in_item (nodes_before a z)) (leaves_append ls (table_leaf aligns head rows ∷ []) no_nodes ∙ leaves_behind ls node)
    ∙ ap (tasked in_item) (nodes_assoc a (leaves_before ls no_nodes) node)
    ∙ tasked_table in_item (nodes_before a (leaves_before ls no_nodes)) aligns head rows

table_texts : (texts : List (List ℕ)) (in_item : Bool) (a : Nodes) (ls : List Leaf) (aligns : List Align) (head : List (List ℕ)) (rows : List (List (List ℕ))) →
    texts ++ texts_in (pushed_nodes in_item a (ls ++ table_leaf aligns head rows ∷ [])) ≡ (texts ++ texts_in (pushed_nodes in_item a ls)) ++ leaf_texts (table_leaf aligns head rows)
unfolding texts_in
table_texts texts in_item a ls aligns head rows =
    ap (λ z. texts ++ texts_in z) (pushed_table in_item a ls aligns head rows)
    ∙ ap (λ z. texts ++ z) (texts_before (pushed_nodes in_item a ls) (leaf_node (table_leaf aligns head rows) no_nodes) ∙ ap (λ z. texts_in (pushed_nodes in_item a ls) ++ z) (append-nil (leaf_texts (table_leaf aligns head rows))))
    ∙ sym (append_assoc texts (texts_in (pushed_nodes in_item a ls)) (leaf_texts (table_leaf aligns head rows)))

table_definitions : (definitions : List LinkDefinition) (in_item : Bool) (a : Nodes) (ls : List Leaf) (aligns : List Align) (head : List (List ℕ)) (rows : List (List (List ℕ))) →
    definitions ++ definitions_in (pushed_nodes in_item a (ls ++ table_leaf aligns head rows ∷ [])) ≡ definitions ++ definitions_in (pushed_nodes in_item a ls)
unfolding definitions_in
table_definitions definitions in_item a ls aligns head rows =
    ap (λ z. definitions ++ definitions_in z) (pushed_table in_item a ls aligns head rows)
    ∙ ap (λ z. definitions ++ z) (earlier_definitions (pushed_nodes in_item a ls) (leaf_node (table_leaf aligns head rows) no_nodes) ∙ append-nil (definitions_in (pushed_nodes in_item a ls)))

-- ---- a data row

row_texts_more : (xs head : List (List ℕ)) (rows : List (List (List ℕ))) (row : List (List ℕ)) →
    (xs ++ (head ++ flat_map (λ r. r) rows)) ++ row ≡ xs ++ (head ++ flat_map (λ r. r) (rows ++ row ∷ []))
row_texts_more xs head rows row =
    append_assoc xs (head ++ flat_map (λ r. r) rows) row
    ∙ ap (λ z. xs ++ z) (append_assoc head (flat_map (λ r. r) rows) row)
    ∙ ap (λ z. xs ++ (head ++ (flat_map (λ r. r) rows ++ z))) (sym (append-nil row))
    ∙ ap (λ z. xs ++ (head ++ z)) (sym (flat_map-append (λ r. r) rows (row ∷ [])))

row_takes : (b : Bool) (next : OpenLeaf) → is_parted (continues_as_if b next) ≡ false → b ≡ true
row_takes true next h = refl
row_takes false next h = absurd (let x : ⊥ = cc in x)

table_goes : (room : ℕ) (level new : Level) (before after : Gathering) (l : BlockLine) (step : LeafAfter) (in_item : Bool) (groups : List Group) (begin : ℕ) (gap : Bool) (kept : OpenLeaf) (was : Bool) (lines : ℕ) (texts : List (List ℕ)) (definitions : List LinkDefinition)
    (t : table.Table) (above : ℕ) (first : BlockLine) (later : List BlockLine) →
    Here room level new before after l step in_item groups begin gap kept was lines texts definitions → kept ≡ leaf_from (Table above) first later → IsTableIn above first later (leaf.Table t) →
    CellsStand (length texts + length (texts_in (pushed_nodes in_item (nodes_of groups) (over_leaves before.entities.now kept)))) (leaf.Table t) kept →
    gathered_definitions after ≡ gathered_definitions before → IsRowIn (leaf.Table t) (rest l) (gathered_texts before) (gathered_texts after) step → IsLeft before.entities.now (continues_if (is_row l) (Table above)) first (later ++ l ∷ []) step →
    IsAdded before.entities.now room in_item (leaf_summary groups begin gap kept was lines) texts definitions l new after
unfolding next_leaf is_apart_after last_groups leaf_from step
table_goes room level new before after l step in_item groups begin gap (open_table A aligns head rows) was lines texts definitions t above first later h kept_is held_is cells known row left = go step.going refl row.0.going left_going
  where
    e : EntityTable
    e = before.entities.now

    P : Nodes
    P = pushed_nodes in_item (nodes_of groups) (text_leaves e A)

    kept : OpenLeaf
    kept = open_table A aligns head rows

    next : OpenLeaf
    next = open_table A aligns head (rows ++ row_of aligns (rest l) ∷ [])

    takes : is_row l ≡ true
    takes = row_takes (is_row l) next h.apart

    left_going : MatchOption step.going ⊥ (IsTableIn above first (later ++ l ∷ []))
    left_going = subst (λ z. IsLeft e (continues_if z (Table above)) first (later ++ l ∷ []) step) takes left

    is : next_leaf kept l ≡ ContinuesAs next
    is = ap (λ z. continues_as_if z next) takes

    next_is : next ≡ leaf_from (Table above) first (later ++ l ∷ [])
    next_is =
        let law = leaf_next (λ _. Closed) (Table above) first later l tt (held_is.0, held_is.1) in
        let a : ContinuesAs next ≡ next_by first (later ++ l ∷ []) (step_is (is_row l)) = sym is ∙ ap (λ z. next_leaf z l) kept_is ∙ sym law in
        let b : ContinuesAs next ≡ ContinuesAs (leaf_from (Table above) first (later ++ l ∷ [])) = a ∙ ap (λ z. next_by first (later ++ l ∷ []) (step_is z)) takes in
        cc
      where
        step_is : Bool → Step
        step_is z = continues_if z (Table above)

    have : gathered_texts before ≡ (texts ++ texts_in P) ++ leaf_texts (table_leaf aligns head rows)
    have = h.leaf_was.have ∙ table_texts texts in_item (nodes_of groups) (text_leaves e A) aligns head rows

    go : (o : Option held.Leaf) → step.going ≡ o → MatchOption o ⊥ (IsRowMore (length (gathered_texts before)) t) → MatchOption o ⊥ (IsTableIn above first (later ++ l ∷ [])) →
        IsAdded e room in_item (leaf_summary groups begin gap kept was lines) texts definitions l new after
    go None going more held = absurd more
    go (Some (leaf.Paragraph f)) going more held = absurd more
    go (Some (leaf.Fence f)) going more held = absurd more
    go (Some (leaf.Html f)) going more held = absurd more
    go (Some (leaf.Code f)) going more held = absurd more
    go (Some (leaf.Table u)) going more held =
        let at = length texts + length (texts_in P) in
        let from : length (gathered_texts before) ≡ at + length (leaf_texts (table_leaf aligns head rows)) =
        ap length have ∙ length-append (texts ++ texts_in P) (leaf_texts (table_leaf aligns head rows)) ∙ ap (λ z. z + length (leaf_texts (table_leaf aligns head rows))) (length-append texts (texts_in P)) in
        let new_texts : gathered_texts after ≡ texts ++ texts_in (pushed_nodes in_item (nodes_of groups) (handed_leaves e next)) =
        row.1 ∙ ap (λ z. gathered_texts before ++ row_of z (rest l)) cells.0 ∙ ap (λ z. z ++ row_of aligns (rest l)) have ∙ row_texts_more (texts ++ texts_in P) head rows (row_of aligns (rest l))
        ∙ sym (table_texts texts in_item (nodes_of groups) (text_leaves e A) aligns head (rows ++ row_of aligns (rest l) ∷ [])) in
        let new_known : gathered_definitions after ≡ definitions ++ definitions_in (pushed_nodes in_item (nodes_of groups) (handed_leaves e next)) =
        known ∙ h.leaf_was.known ∙ table_definitions definitions in_item (nodes_of groups) (text_leaves e A) aligns head rows
        ∙ sym (table_definitions definitions in_item (nodes_of groups) (text_leaves e A) aligns head (rows ++ row_of aligns (rest l) ∷ [])) in
        leaf_done room new before after l in_item groups begin gap kept was lines texts definitions (ContinuesAs next) h.apart is
        (stands_open e in_item groups begin gap next (is_blank_line l) (suc lines) new after texts definitions (leaf.Table u)
        (h.over ∙ ap (λ z. blocks_before (blocks_view level.over.items) (found_view z)) row.0.nothing_over ∙ blocks_nil (blocks_view level.over.items) ∙ h.leaf_was.over)
        new_texts new_known
        (leaf_marks e in_item level new before groups kept next begin gap texts definitions (open_leaf begin gap next) (is_blank_line l) (suc lines) h.leaf_was h.marks refl refl (h.blank ∙ gap_is e room groups begin gap kept was lines l (ContinuesAs next) h.apart is))
        (h.last ∙ ap open_leaf_of going)
        (record {
          kind = Table above;
          first = first;
          later = later ++ l ∷ [];
          is_open = tt;
          kept_is = next_is;
          held_is = held;
          cells = row_stands at (length (gathered_texts before)) A aligns head rows t (leaf.Table u) (rest l) cells from more;
          has_text = tt;
        }))
table_goes room level new before after l step in_item groups begin gap kept was lines texts definitions t above first later h kept_is held_is cells known row left = absurd cells

-- ---- a paragraph

paragraph_stays : (room : ℕ) (level new : Level) (before after : Gathering) (l : BlockLine) (step : LeafAfter) (in_item : Bool) (groups : List Group) (begin : ℕ) (gap : Bool) (was : Bool) (lines : ℕ) (texts : List (List ℕ)) (definitions : List LinkDefinition)
    (first : BlockLine) (later : List BlockLine) (x : Option held.Leaf) →
    Here room level new before after l step in_item groups begin gap (leaf_from Paragraph first later) was lines texts definitions → HandsInNothing before after →
    next_leaf (leaf_from Paragraph first later) l ≡ ContinuesAs (leaf_from Paragraph first (later ++ l ∷ [])) → step.over ≡ None → step.going ≡ x → MatchOption x ⊥ (IsParagraphLeaf (first ∷ later ++ l ∷ [])) →
    IsAdded before.entities.now room in_item (leaf_summary groups begin gap (leaf_from Paragraph first later) was lines) texts definitions l new after
unfolding leaf_from
paragraph_stays room level new before after l step in_item groups begin gap was lines texts definitions first later (Some (leaf.Paragraph p)) h same is none going p_is =
    let whole = p_is.whole ∙ some_more first later l in
    let n = length-append (joined_lines (map rest (first ∷ later))) (10 ∷ rest l) in
    let some : 0 < length (joined_lines (map rest (first ∷ later)) ++ 10 ∷ rest l) = omega (arith, n) in
    goes_open room level new before after l step in_item groups begin gap (leaf_from Paragraph first later) was lines texts definitions h (leaf_from Paragraph first (later ++ l ∷ [])) (leaf.Paragraph p) is none going same refl refl
    (λ at. record { kind = Paragraph; first = first; later = later ++ l ∷ []; is_open = tt; kept_is = refl; held_is = p_is; cells = tt; has_text = subst (λ z. 0 < length z) (sym whole) some })
  where
    some_more : (first : BlockLine) (later : List BlockLine) (l : BlockLine) → joined_lines (map rest (first ∷ later ++ l ∷ [])) ≡ joined_lines (map rest (first ∷ later)) ++ 10 ∷ rest l
    some_more first later l = ap (λ z. joined_lines (rest first ∷ z)) (map-append rest later (l ∷ [])) ∙ joined_next (rest first) (map rest later) (rest l)
paragraph_stays room level new before after l step in_item groups begin gap was lines texts definitions first later None h same is none going f_is = absurd f_is
paragraph_stays room level new before after l step in_item groups begin gap was lines texts definitions first later (Some (leaf.Html f)) h same is none going f_is = absurd f_is
paragraph_stays room level new before after l step in_item groups begin gap was lines texts definitions first later (Some (leaf.Fence f)) h same is none going f_is = absurd f_is
paragraph_stays room level new before after l step in_item groups begin gap was lines texts definitions first later (Some (leaf.Code f)) h same is none going f_is = absurd f_is
paragraph_stays room level new before after l step in_item groups begin gap was lines texts definitions first later (Some (leaf.Table f)) h same is none going f_is = absurd f_is

heading_task : (first : Bool) (ds : List LinkDefinition) (level : ℕ) (text : List ℕ) →
    tasked first (leaves_before (map definition_leaf ds ++ heading_leaf level text ∷ []) no_nodes) ≡ leaves_before (map definition_leaf ds ++ heading_leaf level text ∷ []) no_nodes
unfolding with_task
heading_task false ds level text = refl
heading_task true [] level text = refl
heading_task true (d ∷ ds) level text = ap (leaf_node (definition_leaf d)) (heading_task true ds level text)

heading_given : (before after : Gathering) (step : LeafAfter) (depth : ℕ) (ds : List LinkDefinition) (text : List ℕ) → IsOver (tree.heading depth (length before.texts.items)) step → gathered_texts after ≡ gathered_texts before ++ text ∷ [] →
    gathered_definitions after ≡ gathered_definitions before ++ ds →
    IsGiven (gathered_texts before) (gathered_texts after) (gathered_definitions before) (gathered_definitions after) step.over (map definition_leaf ds ++ heading_leaf depth text ∷ [])
unfolding placed texts_in definitions_in
heading_given before after step depth ds text h t d =
    let old = gathered_texts before in
    let n : length before.texts.items ≡ length old = sym (length-map before.texts.items string_bytes) in
    record {
      block_is = go step.over h.over ∙ ap (λ z. block (tree.heading depth z) no_blocks) n ∙ sym (defs_placed (length old) ds (heading_leaf depth text ∷ []));
      texts = t ∙ ap (λ z. old ++ z) (sym (defs_texts ds (heading_leaf depth text ∷ [])));
      definitions = d ∙ ap (λ z. gathered_definitions before ++ z) (sym (defs_definitions ds (heading_leaf depth text ∷ []) ∙ append-nil ds));
    }
  where
    go : (o : Option b.Block) → MatchOption o ⊥ (λ z. block_view z ≡ tree.heading depth (length before.texts.items)) → found_view o ≡ block (tree.heading depth (length before.texts.items)) no_blocks
    go None h = absurd h
    go (Some z) h = ap (λ w. block w no_blocks) h

heading_goes : (room : ℕ) (level new : Level) (before after : Gathering) (l : BlockLine) (step : LeafAfter) (in_item : Bool) (groups : List Group) (begin : ℕ) (gap : Bool) (was : Bool) (lines : ℕ) (texts : List (List ℕ)) (definitions : List LinkDefinition)
    (first : BlockLine) (later : List BlockLine) (p : HeldText) (depth : ℕ) →
    Here room level new before after l step in_item groups begin gap (leaf_from Paragraph first later) was lines texts definitions → HoldsLines (first ∷ later) p →
    next_leaf (leaf_from Paragraph first later) l ≡ EndsAs (leaf_from (SetextHeading depth) first (later ++ l ∷ [])) → IsOver (tree.heading depth (length before.texts.items)) step →
    (gathered_texts after ≡ gathered_texts before ++ behind_definitions (without_end_blanks p.text) ∷ []) × (gathered_definitions after ≡ gathered_definitions before ++ leading_of before.entities.now (without_end_blanks p.text)) →
    IsAdded before.entities.now room in_item (leaf_summary groups begin gap (leaf_from Paragraph first later) was lines) texts definitions l new after
unfolding leaf_from open_leaves
heading_goes room level new before after l step in_item groups begin gap was lines texts definitions first later p depth h held is over given =
    let text = joined_lines (map rest (without_last (first ∷ later ++ l ∷ []))) in
    let text_is : p.text ≡ text = held.whole ∙ ap (λ z. joined_lines (map rest z)) (sym (drops_last (first ∷ later) l)) in
    let leaves = map definition_leaf (leading_of before.entities.now (without_end_blanks text)) ++ heading_leaf depth (behind_definitions (without_end_blanks text)) ∷ [] in
    goes_over room level new before after l step in_item groups begin gap (leaf_from Paragraph first later) was lines texts definitions h (leaf_from (SetextHeading depth) first (later ++ l ∷ [])) leaves is over.nothing_going
    (heading_given before after step depth (leading_of before.entities.now (without_end_blanks text)) (behind_definitions (without_end_blanks text)) over
    (given.0 ∙ ap (λ z. gathered_texts before ++ behind_definitions (without_end_blanks z) ∷ []) text_is)
    (given.1 ∙ ap (λ z. gathered_definitions before ++ leading_of before.entities.now (without_end_blanks z)) text_is))
    refl refl (heading_task (is_front in_item level.over.items) (leading_of before.entities.now (without_end_blanks text)) depth (behind_definitions (without_end_blanks text)))

header_goes : (room : ℕ) (level new : Level) (before after : Gathering) (l : BlockLine) (step : LeafAfter) (in_item : Bool) (groups : List Group) (begin : ℕ) (gap : Bool) (was : Bool) (lines : ℕ) (texts : List (List ℕ)) (definitions : List LinkDefinition)
    (first : BlockLine) (later : List BlockLine) (p : HeldText) →
    Here room level new before after l step in_item groups begin gap (leaf_from Paragraph first later) was lines texts definitions → HoldsLines (first ∷ later) p →
    next_leaf (leaf_from Paragraph first later) l ≡ ContinuesAs (leaf_from (Table (length (first ∷ later))) first (later ++ l ∷ [])) → MatchOption step.going ⊥ (IsTableIn (length (first ∷ later)) first (later ++ l ∷ [])) →
    IsTableBehind (is_front in_item level.over.items) (take (p.last - 1) p.text) (first_rows (last_text (first ∷ later)) (rest l)) (gathered_texts before) (gathered_texts after) step →
    gathered_definitions after ≡ gathered_definitions before ++ leading_of before.entities.now (without_end_blanks (take (p.last - 1) p.text)) →
    IsAdded before.entities.now room in_item (leaf_summary groups begin gap (leaf_from Paragraph first later) was lines) texts definitions l new after
unfolding leaf_from last_groups
header_goes room level new before after l step in_item groups begin gap was lines texts definitions first later p h holds is in_lines made known = go step.going refl made.begun in_lines
  where
    e : EntityTable
    e = before.entities.now

    A : List ℕ
    A = take (p.last - 1) p.text

    aligns : List Align
    aligns = row_aligns (rest l)

    head : List (List ℕ)
    head = row_texts (last_text (first ∷ later))

    next : OpenLeaf
    next = open_table A aligns head []

    next_is : leaf_from (Table (length (first ∷ later))) first (later ++ l ∷ []) ≡ next
    next_is = table_push first later l ∙ ap (λ z. open_table z aligns head []) (sym (above_is (first ∷ later) p holds))

    is_next : next_leaf (leaf_from Paragraph first later) l ≡ ContinuesAs next
    is_next = is ∙ ap ContinuesAs next_is

    a : Nodes
    a = nodes_of groups

    ds : List LinkDefinition
    ds = leading_of e (without_end_blanks A)

    text : List ℕ
    text = behind_definitions (without_end_blanks A)

    P : Nodes
    P = pushed_nodes in_item a (text_leaves e A)

    was_over : Stand (blocks_view level.over.items) (gathered_texts before) (gathered_definitions before) texts definitions (tasked in_item a)
    was_over = (
      h.leaf_was.over ∙ ap (placed (length texts)) (nothing_pushed in_item a [] refl),
      h.leaf_was.have ∙ ap (λ z. texts ++ texts_in z) (nothing_pushed in_item a [] refl),
      h.leaf_was.known ∙ ap (λ z. definitions ++ definitions_in z) (nothing_pushed in_item a [] refl),
    )

    above_over : Stand (blocks_view new.over.items) made.between (gathered_definitions after) texts definitions P
    above_over = pushed_leaves in_item level.over.items (blocks_view new.over.items) a (text_leaves e A) (map definition_leaf ds ++ left_behind (is_front in_item level.over.items) text) texts definitions
        (gathered_texts before) made.between (gathered_definitions before) (gathered_definitions after) step.over was_over
        (end_given (is_front in_item level.over.items) text ds (gathered_texts before) made.between (gathered_definitions before) (gathered_definitions after) step.over made.paragraph known)
        (defs_task (is_front in_item level.over.items) ds text) h.over

    go : (o : Option held.Leaf) → step.going ≡ o → MatchOption o ⊥ (IsHeaderLeaf (length made.between) (first_rows (last_text (first ∷ later)) (rest l))) → MatchOption o ⊥ (IsTableIn (length (first ∷ later)) first (later ++ l ∷ [])) →
        IsAdded e room in_item (leaf_summary groups begin gap (leaf_from Paragraph first later) was lines) texts definitions l new after
    go None going row in_lines = absurd row
    go (Some (leaf.Paragraph f)) going row in_lines = absurd row
    go (Some (leaf.Fence f)) going row in_lines = absurd row
    go (Some (leaf.Html f)) going row in_lines = absurd row
    go (Some (leaf.Code f)) going row in_lines = absurd row
    go (Some (leaf.Table t)) going row in_lines =
        let from : length made.between ≡ length texts + length (texts_in P) = ap length above_over.1 ∙ length-append texts (texts_in P) in
        let new_texts : gathered_texts after ≡ texts ++ texts_in (pushed_nodes in_item a (handed_leaves e next)) =
        made.texts ∙ ap (λ z. z ++ head) above_over.1 ∙ ap (λ z. (texts ++ texts_in P) ++ z) (sym (append-nil head)) ∙ sym (table_texts texts in_item a (text_leaves e A) aligns head []) in
        let new_known = above_over.2 ∙ sym (table_definitions definitions in_item a (text_leaves e A) aligns head []) in
        leaf_done room new before after l in_item groups begin gap (leaf_from Paragraph first later) was lines texts definitions (ContinuesAs next) h.apart is_next
        (stands_open e in_item groups begin gap next (is_blank_line l) (suc lines) new after texts definitions (leaf.Table t) above_over.0 new_texts new_known
        (leaf_marks e in_item level new before groups (leaf_from Paragraph first later) next begin gap texts definitions (open_leaf begin gap next) (is_blank_line l) (suc lines) h.leaf_was h.marks refl refl
        (h.blank ∙ gap_is e room groups begin gap (leaf_from Paragraph first later) was lines l (ContinuesAs next) h.apart is_next))
        (h.last ∙ ap open_leaf_of going)
        (record {
          kind = Table (length (first ∷ later));
          first = first;
          later = later ++ l ∷ [];
          is_open = tt;
          kept_is = sym next_is;
          held_is = in_lines;
          cells = subst (λ z. CellsStand z (leaf.Table t) next) from (header_stands (length made.between) A (first_rows (last_text (first ∷ later)) (rest l)) t row);
          has_text = tt;
        }))

-- by the definition's step
paragraph_cases : (P : Step → Type 0) → P (Continues Paragraph) → ((level : ℕ) → P (IsLastLine (SetextHeading level))) → ((above : ℕ) → P (Continues (Table above))) → P IsOverBefore → (lazy blank : Bool) (k : Option Kind) → P (paragraph_step lazy blank k)
paragraph_cases P a b c d true blank k = a
paragraph_cases P a b c d false true k = d
paragraph_cases P a b c d false false None = a
paragraph_cases P a b c d false false (Some (SetextHeading level)) = b level
paragraph_cases P a b c d false false (Some (Table above)) = c above
paragraph_cases P a b c d false false (Some Paragraph) = d
paragraph_cases P a b c d false false (Some (AtxHeading level content)) = d
paragraph_cases P a b c d false false (Some ThematicBreak) = d
paragraph_cases P a b c d false false (Some (FencedCode i m n info closed)) = d
paragraph_cases P a b c d false false (Some IndentedCode) = d
paragraph_cases P a b c d false false (Some (HtmlBlock kind)) = d
paragraph_cases P a b c d false false (Some (Holds container)) = d

paragraph_goes : (E : Type 0) (room : ℕ) (level new : Level) (before after : Gathering) (l : BlockLine) (step : LeafAfter) (in_item : Bool) (groups : List Group) (begin : ℕ) (gap : Bool) (was : Bool) (lines : ℕ) (texts : List (List ℕ)) (definitions : List LinkDefinition)
    (first : BlockLine) (later : List BlockLine) (p : HeldText) →
    Here room level new before after l step in_item groups begin gap (leaf_from Paragraph first later) was lines texts definitions → HoldsLines (first ∷ later) p →
    next_by first (later ++ l ∷ []) (paragraph_step l.lazy (is_blank_line l) (start Inside (first ∷ later) l)) ≡ next_leaf (leaf_from Paragraph first later) l →
    IsLeft before.entities.now (paragraph_step l.lazy (is_blank_line l) (start Inside (first ∷ later) l)) first (later ++ l ∷ []) step →
    HandsIn {E = E} (leaf.Paragraph p) (is_front in_item level.over.items) l before after (Ok step) →
    IsAdded before.entities.now room in_item (leaf_summary groups begin gap (leaf_from Paragraph first later) was lines) texts definitions l new after
unfolding is_apart_after
paragraph_goes E room level new before after l step in_item groups begin gap was lines texts definitions first later p h held is left hands =
    paragraph_cases (λ st. paragraph_step l.lazy (is_blank_line l) (start Inside all l) ≡ st → next_by first (later ++ l ∷ []) st ≡ next_leaf kept l → IsLeft e st first (later ++ l ∷ []) step → Added)
    (λ same is left. paragraph_stays room level new before after l step in_item groups begin gap was lines texts definitions first later step.going h (hands.0 all held same) (sym is) left.nothing_over refl left.going)
    (λ depth same is left. heading_goes room level new before after l step in_item groups begin gap was lines texts definitions first later p depth h held (sym is) (hands.1 all depth held same) (hands.2 all depth held same))
    (λ above same is left.
    let n = table_above first later l above same in
    header_goes room level new before after l step in_item groups begin gap was lines texts definitions first later p h held
    (subst (λ z. next_leaf kept l ≡ ContinuesAs (leaf_from (Table z) first (later ++ l ∷ []))) n (sym is))
    (subst (λ z. MatchOption step.going ⊥ (IsTableIn z first (later ++ l ∷ []))) n left)
    (hands.3 all above held same) (hands.4 all above held same))
    (λ same is left. absurd (not_parted _ _ refl h.apart (sym is)))
    l.lazy (is_blank_line l) (start Inside all l) refl is left
  where
    e : EntityTable
    e = before.entities.now

    all : List BlockLine
    all = first ∷ later

    kept : OpenLeaf
    kept = leaf_from Paragraph first later

    Added : Type 0
    Added = IsAdded e room in_item (leaf_summary groups begin gap kept was lines) texts definitions l new after

-- ---- any leaf

leaf_goes : (E : Type 0) (room : ℕ) (level new : Level) (before after : Gathering) (l : BlockLine) (step : LeafAfter) (in_item : Bool) (groups : List Group) (begin : ℕ) (gap : Bool) (was : Bool) (lines : ℕ) (texts : List (List ℕ)) (definitions : List LinkDefinition)
    (x : held.Leaf) (kind : Kind) (first : BlockLine) (later : List BlockLine) → IsOpenKind kind → IsLeafOf before.entities.now x kind first later →
    Here room level new before after l step in_item groups begin gap (leaf_from kind first later) was lines texts definitions →
    CellsStand (length texts + length (texts_in (pushed_nodes in_item (nodes_of groups) (over_leaves before.entities.now (leaf_from kind first later))))) x (leaf_from kind first later) →
    ((tip : List BlockLine → Tip) → IsLeft before.entities.now (line_step tip kind first later l) first (later ++ l ∷ []) step) →
    IsRowIn x (rest l) (gathered_texts before) (gathered_texts after) step → HandsIn {E = E} x (is_front in_item level.over.items) l before after (Ok step) →
    IsAdded before.entities.now room in_item (leaf_summary groups begin gap (leaf_from kind first later) was lines) texts definitions l new after
unfolding step
leaf_goes E room level new before after l st in_item groups begin gap was lines texts definitions (leaf.Paragraph p) Paragraph first later o is h cells left row hands =
    paragraph_goes E room level new before after l st in_item groups begin gap was lines texts definitions first later p h is (leaf_next (λ _. Closed) Paragraph first later l tt tt) (left (λ _. Closed)) hands
leaf_goes E room level new before after l st in_item groups begin gap was lines texts definitions (leaf.Fence f) (FencedCode i m n info true) first later o is h cells left row hands = absurd (let x : ⊥ = cc in x)
leaf_goes E room level new before after l st in_item groups begin gap was lines texts definitions (leaf.Fence f) (FencedCode i m n info false) first later o is h cells left row hands =
    fence_goes room level new before after l st in_item groups begin gap was lines texts definitions i m n info first later (closes m n l) h hands (leaf_next (λ _. Closed) (FencedCode i m n info false) first later l tt refl) (left (λ _. Closed))
leaf_goes E room level new before after l st in_item groups begin gap was lines texts definitions (leaf.Html f) (HtmlBlock kind) first later o is h cells left row hands =
    html_goes room level new before after l st in_item groups begin gap was lines texts definitions kind first later (is_blank_line l) (ends_html kind l) h hands (leaf_next (λ _. Closed) (HtmlBlock kind) first later l tt tt) (left (λ _. Closed))
leaf_goes E room level new before after l st in_item groups begin gap was lines texts definitions (leaf.Code f) IndentedCode first later o is h cells left row hands =
    code_goes room level new before after l st in_item groups begin gap was lines texts definitions first later (is_code l) h hands (leaf_next (λ _. Closed) IndentedCode first later l tt tt) (left (λ _. Closed))
leaf_goes E room level new before after l st in_item groups begin gap was lines texts definitions (leaf.Table t) (Table above) first later o is h cells left row hands =
    table_goes room level new before after l st in_item groups begin gap (leaf_from (Table above) first later) was lines texts definitions t above first later h refl is cells hands row (left (λ _. Closed))
leaf_goes E room level new before after l st in_item groups begin gap was lines texts definitions x kind first later o is h cells left row hands = absurd is

pub leaf_reads : (E : Type 0) (level new : Level) (before after : Gathering) (l : BlockLine) (x : held.Leaf) (step : LeafAfter) (first : Bool) → level.last ≡ open_block.Leaf x → first ≡ is_front level.in_item level.over.items →
    ((entities : EntityTable) (kind : Kind) (begin : BlockLine) (later : List BlockLine) → IsLeafOf entities x kind begin later → (tip : List BlockLine → Tip) →
    IsLeft entities (line_step tip kind begin later l) begin (later ++ l ∷ []) step) →
    IsRowIn x (rest l) (gathered_texts before) (gathered_texts after) step → HandsIn {E = E} x first l before after (Ok step) →
    blocks_view new.over.items ≡ blocks_before (blocks_view level.over.items) (found_view step.over) → new.last ≡ open_leaf_of step.going → HasRestOf level new → GrowsLeaf level before l new after
unfolding is_apart_after
leaf_reads E level new before after l x step front is front_is left row hands over last marks room in_item (summary groups was_last was lines) texts definitions r apart blank blank_is = go was_last r apart blank_is
  where
    e : EntityTable
    e = before.entities.now

    go : (was_last : Last) → IsReadBehind room level before in_item (summary groups was_last was lines) texts definitions l → is_apart_after was_last l ≡ false → blank ≡ gap_behind (line_added e (suc room) (summary groups was_last was lines) l) →
        IsAdded e room in_item (summary groups was_last was lines) texts definitions l (record new { blank = blank }) after
    go nothing_yet r apart q = absurd (let x : ⊥ = cc in x)
    go (ended_block g) r apart q = absurd (let x : ⊥ = cc in x)
    go (open_container b gap bare c i) r apart q = absurd (no_leaf c (subst (λ z. StandsForLast e (behind_over e (length texts) in_item groups (open_container b gap bare c i)) z groups (open_container b gap bare c i)) is r.1.1))
      where
        no_leaf : (c : _) → StandsForLast e (behind_over e (length texts) in_item groups (open_container b gap bare c i)) (open_block.Leaf x) groups (open_container b gap bare c i) → ⊥
        no_leaf Quote st = st
        no_leaf (Item m needed) st = st
    go (open_leaf b gap kept) r apart q =
        let st : StandsForLeaf e (behind_over e (length texts) in_item groups (open_leaf b gap kept)) x kept = subst (λ z. StandsForLast e (behind_over e (length texts) in_item groups (open_leaf b gap kept)) z groups (open_leaf b gap kept)) is r.1.1 in
        let front_now = front_is ∙ ap (λ z. is_front z level.over.items) r.1.0.1 in
        let here : Here room level (record new { blank = blank }) before after l step in_item groups b gap kept was lines texts definitions = record {
          leaf_was = was_leaf e in_item level before groups b gap kept was lines texts definitions r.0 r.1;
          marks = marks;
          over = over;
          last = last;
          apart = apart;
          blank = q;
        } in
        let done : (k : OpenLeaf) → leaf_from st.kind st.first st.later ≡ k → Here room level (record new { blank = blank }) before after l step in_item groups b gap k was lines texts definitions →
        CellsStand (length texts + length (texts_in (pushed_nodes in_item (nodes_of groups) (over_leaves e k)))) x k → IsAdded e room in_item (leaf_summary groups b gap k was lines) texts definitions l (record new { blank = blank }) after = λ k same.
        subst (λ z. Here room level (record new { blank = blank }) before after l step in_item groups b gap z was lines texts definitions → CellsStand (length texts + length (texts_in (pushed_nodes in_item (nodes_of groups) (over_leaves e z)))) x z →
        IsAdded e room in_item (leaf_summary groups b gap z was lines) texts definitions l (record new { blank = blank }) after) same
        (λ h cells. leaf_goes E room level (record new { blank = blank }) before after l step in_item groups b gap was lines texts definitions x st.kind st.first st.later st.is_open st.held_is h cells (left e st.kind st.first st.later st.held_is) row
        (subst (λ z. HandsIn {E = E} x z l before after (Ok step)) front_now hands)) in
        done kept (sym st.kept_is) here st.cells

-- a paragraph that grows where it stands
pub paragraph_reads : (level : Level) (before : Gathering) (l : BlockLine) (p more : HeldText) (c : Continuation) → level.last ≡ open_block.Leaf (leaf.Paragraph p) → c ≡ continuation.Matched → ContinuesOpen level.last l c →
    more.text ≡ p.text ++ 10 ∷ rest l → more.last ≡ length p.text + 1 → GrowsLeaf level before l (record level { last = open_block.Leaf (leaf.Paragraph more) }) before
unfolding line_step
paragraph_reads level before l p more c is matched continues text last =
    let x = leaf.Paragraph p in
    let step : LeafAfter = record { over = None; going = Some (leaf.Paragraph more) } in
    let known : ContinuesOpen (open_block.Leaf x) l continuation.Matched = subst (λ z. ContinuesOpen (open_block.Leaf x) l z) matched (subst (λ z. ContinuesOpen z l c) is continues) in
    let goes : (lines : List BlockLine) → HoldsLines lines p → Continues Paragraph ≡ paragraph_step l.lazy (is_blank_line l) (start Inside lines l) = λ lines h. known.0 lines h in
    leaf_reads (Unit {0}) level (record level { last = open_block.Leaf (leaf.Paragraph more) }) before before l x step (is_front level.in_item level.over.items) is refl
    (λ e kind first later h tip. left e kind first later goes h tip)
    tt (
      λ lines h same. (refl, refl),
      λ lines depth h same. absurd (let g = goes lines h in let x : ⊥ = cc in x),
      λ lines depth h same. absurd (let g = goes lines h in let x : ⊥ = cc in x),
      λ lines above h same. absurd (let g = goes lines h in let x : ⊥ = cc in x),
      λ lines above h same. absurd (let g = goes lines h in let x : ⊥ = cc in x),
    )
    (sym (blocks_nil (blocks_view level.over.items))) refl (refl, refl, refl)
  where
    left : (e : EntityTable) (kind : Kind) (first : BlockLine) (later : List BlockLine) → ((lines : List BlockLine) → HoldsLines lines p → Continues Paragraph ≡ paragraph_step l.lazy (is_blank_line l) (start Inside lines l)) →
        IsLeafOf e (leaf.Paragraph p) kind first later → (tip : List BlockLine → Tip) → IsLeft e (line_step tip kind first later l) first (later ++ l ∷ []) (record { over = None; going = Some (leaf.Paragraph more) })
    left e Paragraph first later goes h tip =
        subst (λ z. IsLeft e z first (later ++ l ∷ []) (record { over = None; going = Some (leaf.Paragraph more) })) (goes (first ∷ later) h) (record { nothing_over = refl; going = next_line first later l p more h text last })
    left e kind first later goes h tip = absurd h
