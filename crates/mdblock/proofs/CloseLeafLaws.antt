-- Closing a level whose last block is an open leaf.
use Rattle.std.proofs.Common.{◌≡◌, ℕ, ◌+◌, Bool, true, false, List, [], ◌∷◌, ◌++◌, length, length-append, append_assoc, append-nil, map, Option, Some, None, refl, sym, ◌∙◌, ap, subst, arith}
use Rattle.mdscan.specs.TaskListItem.{task_marker}
use Rattle.mdleaf.specs.DefinedLinks.{LinkDefinition}
use Rattle.mdleaf.specs.ParagraphDefinitions.{leading_of}
use Rattle.blockspec.specs.BlockTree.{Blocks, no_blocks, block}
use Rattle.blockspec.specs.BlockTree as tree
use Rattle.std.specs.List.{range_with_len}
use Rattle.mdscan.specs.declared.delimiter_rows.Align.{Align}
use Rattle.mdblock.specs.declared.leaf.tables.Table.{Table}
use Rattle.mdblock.specs.BlockView.{blocks_view}
use Rattle.mdblock.specs.held.ClosedViews.{found_view}
use Rattle.mdblock.specs.held.HandedIn.{taken, left_behind, IsLeafIn, IsHandedIn, gathered_texts, gathered_definitions}
use Rattle.mdblock.specs.held.HeldLevel.{is_front, behind_over, IsOpenKind, CellsStand, StandsForLast, HasGathered, ClosesAll}
use Rattle.mdblock.specs.held.HeldNodes.{over_leaves, over_nodes, handed_leaves, handed_groups, handed_last, handed_nodes, closed_nodes, tasked}
use Rattle.blockspec.specs.LeafContents.{code_text}
use Rattle.blockspec.specs.IndentedCode.{without_end_blank_lines}
use Rattle.mdblock.specs.held.LeafEnds.{IsEndOf, IsTableEnd, end_definitions}
use Rattle.blockspec.specs.LineSummary.{summary, Last, nothing_yet, ended_block, open_leaf, open_container, closed, last_groups}
use Rattle.blockspec.specs.OpenLeaf.{OpenLeaf, open_table, leaf_from, open_leaves}
use Rattle.mdblock.specs.held.OpenLeaves.{IsLeafOf}
use Rattle.blockspec.specs.BlockLine.{BlockLine, rest}
use Rattle.blockspec.specs.BlockKinds.{Kind, Paragraph, FencedCode, IndentedCode, HtmlBlock}
use Rattle.mdtext.specs.EntityTable.{EntityTable}
use Rattle.mdleaf.specs.CodeLanguage.{code_language, code_meta}
use Rattle.mdleaf.specs.ParagraphText.{joined_lines, paragraph_text, behind_definitions}
use Rattle.mdblock.specs.declared.gathering.Gathering.{Gathering}
use Rattle.mdblock.specs.declared.open_blocks.Level.{Level}
use Rattle.mdblock.specs.declared.open_blocks.OpenBlock as open_block
use Rattle.mdblock.specs.declared.leaf.Leaf as held
use Rattle.mdblock.specs.declared.leaf.Leaf.TheVariants as leaf
use Rattle.mdblock.proofs.ClosingLaws.{rest_leaves, closed_leaf}
use Rattle.mdblock.proofs.HeldNodesLaws.{merged_leaves}
use Rattle.blockspec.specs.Lists.{leaves_before, nodes_of}
use Rattle.blockspec.specs.NodeTree.{Leaf, definition_leaf, paragraph_leaf, heading_leaf, break_leaf, code_leaf, html_leaf, table_leaf, Nodes, no_nodes, leaf_node, quote_node, list_node, texts_in, definitions_in, leaf_texts, leaf_definitions, row_positions, placed}
use Rattle.blockspec.specs.Paragraphs.{paragraph_if_any}
use Rattle.blockspec.specs.TaskListItems.{with_task, task_paragraph}
use Rattle.mdblock.specs.held.TreesBehind.{nodes_before, blocks_before, has_block}
use Rattle.mdblock.specs.declared.blocks.Block as b
use Rattle.mdblock.proofs.PlacedNodes.{task_behind_block, task_behind_definitions, task_has_block, placed_none, texts_before, earlier_definitions, earlier_placed, nodes_nil}

abbrev Yes : Bool → Type 0
Yes true = Unit {0}
Yes false = ⊥

abbrev IsEmpty : Blocks → Type 0
IsEmpty no_blocks = Unit {0}
IsEmpty (block x xs) = ⊥

-- what gives no block is definitions alone
none_placed : (n : ℕ) (a : Nodes) → IsEmpty (placed n a) → has_block a ≡ false
unfolding placed
none_placed n no_nodes h = refl
none_placed n (leaf_node (definition_leaf definition) a) h = none_placed (n + 0) a h
none_placed n (leaf_node (paragraph_leaf task text) a) h = absurd h
none_placed n (leaf_node (heading_leaf level text) a) h = absurd h
none_placed n (leaf_node break_leaf a) h = absurd h
none_placed n (leaf_node (code_leaf lang meta body) a) h = absurd h
none_placed n (leaf_node (html_leaf lines) a) h = absurd h
none_placed n (leaf_node (table_leaf aligns head rows) a) h = absurd h
none_placed n (quote_node inner a) h = absurd h
none_placed n (list_node kind tight items a) h = absurd h

-- definitions alone have no marker
task_none : (a : Nodes) → has_block a ≡ false → with_task a ≡ a
unfolding with_task
task_none a h = ap with_task (sym (nodes_nil a)) ∙ task_behind_definitions a no_nodes h ∙ nodes_nil a

-- A marker is looked for in what closes where no block is over in the item.
pub front_rest : (in_item : Bool) (over : List b.Block) (at : ℕ) (a rest : Nodes) → blocks_view over ≡ placed at (tasked in_item a) →
    tasked in_item (nodes_before a rest) ≡ nodes_before (tasked in_item a) (tasked (is_front in_item over) rest)
front_rest false [] at a rest h = refl
front_rest false (x ∷ over) at a rest h = refl
front_rest true [] at a rest h =
    let none = sym (task_has_block a) ∙ none_placed at (with_task a) (subst IsEmpty h tt) in
    task_behind_definitions a rest none ∙ ap (λ z. nodes_before z (with_task rest)) (sym (task_none a none))
front_rest true (x ∷ over) at a rest h = go (has_block a) refl
  where
    go : (v : Bool) → has_block a ≡ v → with_task (nodes_before a rest) ≡ nodes_before (with_task a) rest
    go true e = task_behind_block a rest e
    go false e = absurd (subst IsEmpty (sym (h ∙ placed_none at (with_task a) (task_has_block a ∙ e))) tt)

-- ---- what a leaf gives at its end

-- the block, the texts and the definitions of some leaves
pub record IsGiven (old new : List (List ℕ)) (known all : List LinkDefinition) (found : Option b.Block) (leaves : List Leaf) : Type 0 where
  pub block_is : found_view found ≡ placed (length old) (leaves_before leaves no_nodes)
  pub texts : new ≡ old ++ texts_in (leaves_before leaves no_nodes)
  pub definitions : all ≡ known ++ definitions_in (leaves_before leaves no_nodes)

pub defs_placed : (n : ℕ) (ds : List LinkDefinition) (leaves : List Leaf) → placed n (leaves_before (map definition_leaf ds ++ leaves) no_nodes) ≡ placed n (leaves_before leaves no_nodes)
unfolding placed
defs_placed n [] leaves = refl
defs_placed n (d ∷ ds) leaves =
    let e : n + 0 ≡ n = omega arith in
    defs_placed (n + 0) ds leaves ∙ ap (λ z. placed z (leaves_before leaves no_nodes)) e

pub defs_texts : (ds : List LinkDefinition) (leaves : List Leaf) → texts_in (leaves_before (map definition_leaf ds ++ leaves) no_nodes) ≡ texts_in (leaves_before leaves no_nodes)
unfolding texts_in
defs_texts [] leaves = refl
defs_texts (d ∷ ds) leaves = defs_texts ds leaves

pub defs_definitions : (ds : List LinkDefinition) (leaves : List Leaf) → definitions_in (leaves_before (map definition_leaf ds ++ leaves) no_nodes) ≡ ds ++ definitions_in (leaves_before leaves no_nodes)
unfolding definitions_in
defs_definitions [] leaves = refl
defs_definitions (d ∷ ds) leaves = ap (λ z. d ∷ z) (defs_definitions ds leaves)

-- the marker of a paragraph is taken off behind its definitions
pub defs_task : (first : Bool) (ds : List LinkDefinition) (text : List ℕ) →
    tasked first (leaves_before (map definition_leaf ds ++ paragraph_if_any text) no_nodes) ≡ leaves_before (map definition_leaf ds ++ left_behind first text) no_nodes
unfolding with_task
defs_task false ds [] = refl
defs_task false ds (x ∷ text) = refl
defs_task true [] [] = refl
defs_task true [] (x ∷ text) = refl
defs_task true (d ∷ ds) text = ap (leaf_node (definition_leaf d)) (defs_task true ds text)

-- one leaf that is no definition
leaf_found : (leaf : Leaf) (old new : List (List ℕ)) (known all : List LinkDefinition) (found : Option b.Block) → leaf_definitions leaf ≡ [] →
    IsLeafIn leaf old new found → all ≡ known → IsGiven old new known all found (leaf ∷ [])
unfolding placed texts_in definitions_in
leaf_found leaf old new known all None none h e = absurd h.0
leaf_found leaf old new known all (Some x) none h e =
    record {
      block_is = h.0;
      texts = h.1 ∙ ap (λ z. old ++ z) (sym (append-nil (leaf_texts leaf)));
      definitions = e ∙ sym (append-nil known) ∙ ap (λ z. known ++ z) (sym (append-nil (leaf_definitions leaf) ∙ none));
    }

-- definitions, and a leaf if any is left
pub end_given : (first : Bool) (text : List ℕ) (ds : List LinkDefinition) (old new : List (List ℕ)) (known all : List LinkDefinition) (found : Option b.Block) →
    IsHandedIn (left_behind first text) old new found → all ≡ known ++ ds → IsGiven old new known all found (map definition_leaf ds ++ left_behind first text)
unfolding placed texts_in definitions_in
end_given first [] ds old new known all found h e =
    record {
      block_is = ap found_view h.0 ∙ sym (defs_placed (length old) ds []);
      texts = h.1 ∙ sym (append-nil old) ∙ ap (λ z. old ++ z) (sym (defs_texts ds []));
      definitions = e ∙ ap (λ z. known ++ z) (sym (defs_definitions ds [] ∙ append-nil ds));
    }
end_given first (x ∷ text) ds old new known all found h e =
    let leaf = taken first (x ∷ text) in
    let one = leaf_found leaf old new [] [] found (no_definitions first) h refl in
    record {
      block_is = one.block_is ∙ sym (defs_placed (length old) ds (leaf ∷ []));
      texts = one.texts ∙ ap (λ z. old ++ z) (sym (defs_texts ds (leaf ∷ [])));
      definitions = e ∙ ap (λ z. known ++ z) (sym (defs_definitions ds (leaf ∷ []) ∙ ap (λ z. ds ++ z) (sym one.definitions) ∙ append-nil ds));
    }
  where
    no_definitions : (first : Bool) → leaf_definitions (taken first (x ∷ text)) ≡ []
    no_definitions false = refl
    no_definitions true = go (task_marker (x ∷ text))
      where
        go : (found : Option _) → leaf_definitions (task_paragraph found (x ∷ text)) ≡ []
        go None = refl
        go (Some mark) = refl

-- ---- an open leaf that is no table

abbrev pub IsNoTable : held.Leaf → Type 0
IsNoTable (leaf.Paragraph p) = Unit {0}
IsNoTable (leaf.Fence f) = Unit {0}
IsNoTable (leaf.Html h) = Unit {0}
IsNoTable (leaf.Code c) = Unit {0}
IsNoTable (leaf.Table t) = ⊥

record Closing (e : EntityTable) (first : Bool) (kept : OpenLeaf) (old new : List (List ℕ)) (known all : List LinkDefinition) (found : Option b.Block) : Type 0 where
  leaves : List Leaf
  given : IsGiven old new known all found leaves
  tasked_is : tasked first (leaves_before (rest_leaves e kept) no_nodes) ≡ leaves_before leaves no_nodes
  handed_is : handed_leaves e kept ≡ over_leaves e kept

pub code_task : (first : Bool) (lang meta body : List ℕ) → tasked first (leaf_node (code_leaf lang meta body) no_nodes) ≡ leaf_node (code_leaf lang meta body) no_nodes
unfolding with_task
code_task true lang meta body = refl
code_task false lang meta body = refl

pub html_task : (first : Bool) (lines : List ℕ) → tasked first (leaf_node (html_leaf lines) no_nodes) ≡ leaf_node (html_leaf lines) no_nodes
unfolding with_task
html_task true lines = refl
html_task false lines = refl

leaf_closing : (e : EntityTable) (first : Bool) (x : held.Leaf) (kind : Kind) (begin : BlockLine) (later : List BlockLine) (old new : List (List ℕ)) (known all : List LinkDefinition) (found : Option b.Block) →
    IsNoTable x → IsOpenKind kind → IsLeafOf e x kind begin later → IsEndOf e first kind begin later old new found → all ≡ known ++ end_definitions e kind begin later →
    Closing e first (leaf_from kind begin later) old new known all found
unfolding leaf_from open_leaves
leaf_closing e first (leaf.Paragraph p) Paragraph begin later old new known all found other o h left defined =
    let text = paragraph_text (map rest (begin ∷ later)) in
    record {
      leaves = map definition_leaf (leading_of e text) ++ left_behind first (behind_definitions text);
      given = end_given first (behind_definitions text) (leading_of e text) old new known all found left defined;
      tasked_is = defs_task first (leading_of e text) (behind_definitions text);
      handed_is = refl;
    }
leaf_closing e first (leaf.Fence f) (FencedCode i m n info true) begin later old new known all found other o h left defined = absurd (subst Yes o tt)
leaf_closing e first (leaf.Fence f) (FencedCode i m n info false) begin later old new known all found other o h left defined =
    let c = code_leaf (code_language e info) (code_meta e info) (code_text i later) in
    record { leaves = c ∷ []; given = leaf_found c old new known all found refl left (defined ∙ append-nil known); tasked_is = code_task first _ _ _; handed_is = refl }
leaf_closing e first (leaf.Code x) IndentedCode begin later old new known all found other o h left defined =
    let c = code_leaf [] [] (code_text 4 (without_end_blank_lines (begin ∷ later))) in
    record { leaves = c ∷ []; given = leaf_found c old new known all found refl left (defined ∙ append-nil known); tasked_is = code_task first _ _ _; handed_is = refl }
leaf_closing e first (leaf.Html x) (HtmlBlock kind) begin later old new known all found other o h left defined =
    let c = html_leaf (joined_lines (map (λ l. l.line.text) (begin ∷ later))) in
    record { leaves = c ∷ []; given = leaf_found c old new known all found refl left (defined ∙ append-nil known); tasked_is = html_task first _; handed_is = refl }
leaf_closing e first (leaf.Table t) kind begin later old new known all found other o h left defined = absurd other
leaf_closing e first x kind begin later old new known all found other o h left defined = absurd h

pub leaf_closes : (level : Level) (x : held.Leaf) → level.last ≡ open_block.Leaf x → IsNoTable x → (first : Bool) → first ≡ is_front level.in_item level.over.items →
    (old new : Gathering) (found : Option b.Block) (all : List b.Block) →
    ((kind : Kind) (begin : BlockLine) (later : List BlockLine) → IsLeafOf old.entities.now x kind begin later → IsEndOf old.entities.now first kind begin later (gathered_texts old) (gathered_texts new) found) →
    ((kind : Kind) (begin : BlockLine) (later : List BlockLine) → IsLeafOf old.entities.now x kind begin later → gathered_definitions new ≡ gathered_definitions old ++ end_definitions old.entities.now kind begin later) →
    blocks_view all ≡ blocks_before (blocks_view level.over.items) (found_view found) →
    ClosesAll level old all new
unfolding handed_groups handed_last
leaf_closes level x is other first at_front old new found all left defined pushed in_item (summary before last blank lines) texts definitions h st =
    go last h st.0.0 (at_front ∙ ap (λ z. is_front z level.over.items) st.0.1)
    (subst (λ z. StandsForLast e (behind_over e (length texts) in_item before last) z before last) is st.1)
  where
    e : EntityTable
    e = old.entities.now

    go : (last : Last) → HasGathered old texts definitions (handed_nodes e in_item (summary before last blank lines)) →
        blocks_view level.over.items ≡ placed (length texts) (tasked in_item (over_nodes e before last)) →
        first ≡ is_front in_item level.over.items →
        StandsForLast e (behind_over e (length texts) in_item before last) (open_block.Leaf x) before last →
        HasGathered new texts definitions (closed_nodes e in_item (summary before last blank lines))
        × (blocks_view all ≡ placed (length texts) (closed_nodes e in_item (summary before last blank lines)))
    go nothing_yet h over front st = absurd st
    go (ended_block b) h over front st = absurd st
    go (open_container begin gap bare container inner) h over front st = absurd st
    go (open_leaf begin gap kept) h over front st =
        let r = st in
        let closing = subst (λ z. Closing e first z (gathered_texts old) (gathered_texts new) (gathered_definitions old) (gathered_definitions new) found) (sym r.kept_is)
        (leaf_closing e first x r.kind r.first r.later (gathered_texts old) (gathered_texts new) (gathered_definitions old) (gathered_definitions new) found other r.is_open r.held_is
        (left r.kind r.first r.later r.held_is) (defined r.kind r.first r.later r.held_is)) in
        let o = over_nodes e before (open_leaf begin gap kept) in
        let a = tasked in_item o in
        let more = leaves_before closing.leaves no_nodes in
        let handed = ap (tasked in_item) (merged_leaves before begin gap (handed_leaves e kept) ∙ ap (λ z. nodes_before (nodes_of before) (leaves_before z no_nodes)) closing.handed_is) in
        let had = subst (λ z. HasGathered old texts definitions z) handed h in
        let given = closed_leaf e in_item before begin gap kept blank lines
        ∙ front_rest in_item level.over.items (length texts) o (leaves_before (rest_leaves e kept) no_nodes) over
        ∙ ap (λ z. nodes_before a (tasked z (leaves_before (rest_leaves e kept) no_nodes))) (sym front)
        ∙ ap (nodes_before a) closing.tasked_is in
        let there = ap length had.0 ∙ length-append texts (texts_in a) in (
          subst (λ z. HasGathered new texts definitions z) (sym given) (
            closing.given.texts ∙ ap (λ z. z ++ texts_in more) had.0 ∙ append_assoc texts (texts_in a) (texts_in more) ∙ ap (λ z. texts ++ z) (sym (texts_before a more)),
            closing.given.definitions ∙ ap (λ z. z ++ definitions_in more) had.1 ∙ append_assoc definitions (definitions_in a) (definitions_in more) ∙ ap (λ z. definitions ++ z) (sym (earlier_definitions a more)),
          ),
          pushed
              ∙ ap (λ z. blocks_before z (found_view found)) over
              ∙ ap (blocks_before (placed (length texts) a)) (closing.given.block_is ∙ ap (λ n. placed n more) there)
              ∙ sym (earlier_placed (length texts) a more)
              ∙ ap (placed (length texts)) (sym given),
        )

-- ---- an open table

table_task : (first : Bool) (aligns : List Align) (head : List (List ℕ)) (rows : List (List (List ℕ))) → tasked first (leaf_node (table_leaf aligns head rows) no_nodes) ≡ leaf_node (table_leaf aligns head rows) no_nodes
unfolding with_task
table_task true aligns head rows = refl
table_task false aligns head rows = refl

placed_table : (n : ℕ) (aligns : List Align) (head : List (List ℕ)) (rows : List (List (List ℕ))) →
    placed n (leaf_node (table_leaf aligns head rows) no_nodes) ≡ block (tree.table aligns (range_with_len n (length head)) (row_positions (n + length head) rows)) no_blocks
unfolding placed
placed_table n aligns head rows = refl

pub table_closes : (level : Level) (t : Table) → level.last ≡ open_block.Leaf (leaf.Table t) → (first : Bool) → first ≡ is_front level.in_item level.over.items →
    (old new : Gathering) (found : Option b.Block) (all : List b.Block) →
    IsTableEnd (leaf.Table t) (gathered_texts old) (gathered_texts new) (gathered_definitions old) (gathered_definitions new) found →
    blocks_view all ≡ blocks_before (blocks_view level.over.items) (found_view found) →
    ClosesAll level old all new
unfolding closed last_groups handed_groups handed_last open_leaves
table_closes level t is first at_front old new found all end pushed in_item (summary before last blank lines) texts definitions h st =
    go last h st.0.0 (at_front ∙ ap (λ z. is_front z level.over.items) st.0.1)
    (subst (λ z. StandsForLast e (behind_over e (length texts) in_item before last) z before last) is st.1)
  where
    e : EntityTable
    e = old.entities.now

    leaf_case : (begin : ℕ) (gap : Bool) (kept : OpenLeaf) → HasGathered old texts definitions (handed_nodes e in_item (summary before (open_leaf begin gap kept) blank lines)) →
        blocks_view level.over.items ≡ placed (length texts) (tasked in_item (over_nodes e before (open_leaf begin gap kept))) →
        first ≡ is_front in_item level.over.items → CellsStand (behind_over e (length texts) in_item before (open_leaf begin gap kept)) (leaf.Table t) kept →
        HasGathered new texts definitions (closed_nodes e in_item (summary before (open_leaf begin gap kept) blank lines))
        × (blocks_view all ≡ placed (length texts) (closed_nodes e in_item (summary before (open_leaf begin gap kept) blank lines)))
    leaf_case begin gap (open_table above aligns head rows) h over front cells =
        let kept = open_table above aligns head rows in
        let o = over_nodes e before (open_leaf begin gap kept) in
        let a = tasked in_item o in
        let m = length texts + length (texts_in a) in
        let row = leaf_node (table_leaf aligns head rows) no_nodes in
        let given = closed_leaf e in_item before begin gap kept blank lines
        ∙ front_rest in_item level.over.items (length texts) o row over
        ∙ ap (nodes_before a) (table_task (is_front in_item level.over.items) aligns head rows) in (
          (end.1 ∙ h.0, end.2 ∙ h.1),
          pushed
              ∙ ap (λ z. blocks_before z (found_view found)) over
              ∙ ap (blocks_before (placed (length texts) a)) (
              end.0
              ∙ ap (λ z. block (tree.table z t.head.items (map (λ row. row.items) t.rows.items)) no_blocks) cells.0
              ∙ ap (λ z. block (tree.table aligns z (map (λ row. row.items) t.rows.items)) no_blocks) cells.1
              ∙ ap (λ z. block (tree.table aligns (range_with_len m (length head)) z) no_blocks) cells.2
              ∙ sym (placed_table m aligns head rows))
              ∙ sym (earlier_placed (length texts) a row)
              ∙ ap (placed (length texts)) (sym given),
        )
    leaf_case begin gap kept h over front cells = absurd cells

    go : (last : Last) → HasGathered old texts definitions (handed_nodes e in_item (summary before last blank lines)) →
        blocks_view level.over.items ≡ placed (length texts) (tasked in_item (over_nodes e before last)) →
        first ≡ is_front in_item level.over.items →
        StandsForLast e (behind_over e (length texts) in_item before last) (open_block.Leaf (leaf.Table t)) before last →
        HasGathered new texts definitions (closed_nodes e in_item (summary before last blank lines))
        × (blocks_view all ≡ placed (length texts) (closed_nodes e in_item (summary before last blank lines)))
    go nothing_yet h over front st = absurd st
    go (ended_block b) h over front st = absurd st
    go (open_container begin gap bare container inner) h over front st = absurd st
    go (open_leaf begin gap kept) h over front st = leaf_case begin gap kept h over front st.cells

-- any open leaf
pub any_leaf_closes : (level : Level) (x : held.Leaf) → level.last ≡ open_block.Leaf x → (first : Bool) → first ≡ is_front level.in_item level.over.items →
    (old new : Gathering) (found : Option b.Block) (all : List b.Block) →
    ((kind : Kind) (begin : BlockLine) (later : List BlockLine) → IsLeafOf old.entities.now x kind begin later → IsEndOf old.entities.now first kind begin later (gathered_texts old) (gathered_texts new) found) →
    ((kind : Kind) (begin : BlockLine) (later : List BlockLine) → IsLeafOf old.entities.now x kind begin later → gathered_definitions new ≡ gathered_definitions old ++ end_definitions old.entities.now kind begin later) →
    IsTableEnd x (gathered_texts old) (gathered_texts new) (gathered_definitions old) (gathered_definitions new) found →
    blocks_view all ≡ blocks_before (blocks_view level.over.items) (found_view found) →
    ClosesAll level old all new
any_leaf_closes level (leaf.Table t) is first front old new found all left defined end pushed = table_closes level t is first front old new found all end pushed
any_leaf_closes level (leaf.Paragraph p) is first front old new found all left defined end pushed = leaf_closes level (leaf.Paragraph p) is tt first front old new found all left defined pushed
any_leaf_closes level (leaf.Fence p) is first front old new found all left defined end pushed = leaf_closes level (leaf.Fence p) is tt first front old new found all left defined pushed
any_leaf_closes level (leaf.Html p) is first front old new found all left defined end pushed = leaf_closes level (leaf.Html p) is tt first front old new found all left defined pushed
any_leaf_closes level (leaf.Code p) is first front old new found all left defined end pushed = leaf_closes level (leaf.Code p) is tt first front old new found all left defined pushed
