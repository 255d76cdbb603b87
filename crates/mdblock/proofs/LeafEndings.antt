-- What an open leaf hands in at its end is what its lines give.
use Rattle.std.proofs.Common.{◌≡◌, ℕ, Bool, List, [], ◌++◌, Option, Some, Result, IfOk, refl, ap, sym, ◌∙◌, subst, string_bytes}
use Rattle.std.proofs.lemmas.List.{append-nil}
use Rattle.mdtext.specs.EntityTable.{EntityTable}
use Rattle.mdleaf.specs.CodeLanguage.{code_language, code_meta}
use Rattle.mdleaf.specs.ParagraphDefinitions.{leading_of}
use Rattle.mdleaf.specs.DefinedLinks.{LinkDefinition}
use Rattle.mdleaf.specs.ParagraphText.{without_end_blanks, behind_definitions}
use Rattle.blockspec.specs.BlockLine.{BlockLine}
use Rattle.blockspec.specs.BlockKinds.{Kind, Paragraph, FencedCode, IndentedCode, HtmlBlock, Table}
use Rattle.blockspec.specs.BlockTree.{no_blocks, block, code_block, html_block}
use Rattle.blockspec.specs.BlockTree as tree
use Rattle.blockspec.specs.OpenLeaf.{OpenLeaf, open_table, leaf_from}
use Rattle.mdblock.specs.BlockView.{block_view}
use Rattle.mdblock.specs.held.HandedIn.{left_behind, IsHandedIn}
use Rattle.mdblock.specs.held.HeldTables.{held_rows, IsTableOf, IsBlockOf}
use Rattle.mdblock.specs.held.LeafEnds.{IsEndOf, end_definitions}
use Rattle.mdblock.specs.held.OpenLeaves.{IsLeafOf}
use Rattle.mdblock.specs.held.ParagraphLines.{HeldText}
use Rattle.mdblock.specs.declared.blocks.Block.{Block}
use Rattle.mdblock.specs.declared.leaf.fenced_code.Fence.{Fence}
use Rattle.mdblock.specs.declared.leaf.html_blocks.HtmlBlock as html
use Rattle.mdblock.specs.declared.leaf.indented_code.IndentedCode as code
use Rattle.mdblock.specs.declared.leaf.tables.Table as table
use Rattle.mdblock.specs.declared.leaf.Leaf.TheVariants as leaf

pub paragraph_ended : {E : Type 0} (entities : EntityTable) (at_front : Bool) (p : HeldText) (kind : Kind) (first : BlockLine) (later : List BlockLine) (old new : List (List ℕ)) (r : Result (Option Block) E)
    → IfOk r (IsHandedIn (left_behind at_front (behind_definitions (without_end_blanks p.text))) old new)
    → IsLeafOf entities (leaf.Paragraph p) kind first later → IfOk r (IsEndOf entities at_front kind first later old new)
paragraph_ended entities at_front p Paragraph first later old new r e h =
    subst (λ t. IfOk r (IsHandedIn (left_behind at_front (behind_definitions (without_end_blanks t))) old new)) h.whole e
paragraph_ended entities at_front p kind first later old new r e h = absurd h

pub paragraph_defined : {E : Type 0} (entities : EntityTable) (p : HeldText) (kind : Kind) (first : BlockLine) (later : List BlockLine) (old new : List LinkDefinition) (r : Result (Option Block) E)
    → IfOk r (λ _. new ≡ old ++ leading_of entities (without_end_blanks p.text))
    → IsLeafOf entities (leaf.Paragraph p) kind first later → IfOk r (λ _. new ≡ old ++ end_definitions entities kind first later)
paragraph_defined entities p Paragraph first later old new r e h =
    subst (λ t. IfOk r (λ _. new ≡ old ++ leading_of entities (without_end_blanks t))) h.whole e
paragraph_defined entities p kind first later old new r e h = absurd h

alone : {A : Type 0} (old : List A) → old ≡ old ++ []
alone old = sym (append-nil old)

pub fence_ended : (entities : EntityTable) (at_front : Bool) (f : Fence) (kind : Kind) (first : BlockLine) (later : List BlockLine) (old : List (List ℕ)) (b : Block)
    → block_view b ≡ code_block (string_bytes f.info.value.lang) (string_bytes f.info.value.meta) (string_bytes f.body)
    → IsLeafOf entities (leaf.Fence f) kind first later → IsEndOf entities at_front kind first later old old (Some b)
fence_ended entities at_front f (FencedCode indentation mark length info closed) first later old b e h = (
  ap (λ x. block x no_blocks) (e ∙ ap (λ t. code_block t (string_bytes f.info.value.meta) (string_bytes f.body)) h.language ∙ ap (λ t. code_block (code_language entities info) t (string_bytes f.body)) h.meta
      ∙ ap (code_block (code_language entities info) (code_meta entities info)) h.body),
  alone old,
)
fence_ended entities at_front f kind first later old b e h = absurd h

pub html_ended : (entities : EntityTable) (at_front : Bool) (x : html.HtmlBlock) (kind : Kind) (first : BlockLine) (later : List BlockLine) (old : List (List ℕ)) (b : Block)
    → block_view b ≡ html_block (string_bytes x.body)
    → IsLeafOf entities (leaf.Html x) kind first later → IsEndOf entities at_front kind first later old old (Some b)
html_ended entities at_front x (HtmlBlock kind) first later old b e h = (ap (λ x. block x no_blocks) (e ∙ ap html_block h.body), alone old)
html_ended entities at_front x kind first later old b e h = absurd h

pub code_ended : (entities : EntityTable) (at_front : Bool) (x : code.IndentedCode) (kind : Kind) (first : BlockLine) (later : List BlockLine) (old : List (List ℕ)) (b : Block)
    → block_view b ≡ code_block [] [] (string_bytes x.body)
    → IsLeafOf entities (leaf.Code x) kind first later → IsEndOf entities at_front kind first later old old (Some b)
code_ended entities at_front x IndentedCode first later old b e h = (ap (λ x. block x no_blocks) (e ∙ ap (code_block [] []) h.body), alone old)
code_ended entities at_front x kind first later old b e h = absurd h

table_block : (t : table.Table) (kept : OpenLeaf) (b : Block) → block_view b ≡ tree.table t.aligns.items t.head.items (held_rows t) → IsTableOf kept (leaf.Table t) → IsBlockOf kept (block (block_view b) no_blocks)
table_block t (open_table above aligns head rows) b e h = record {
  head_cells = t.head.items;
  row_cells = held_rows t;
  found_is = ap (λ x. block x no_blocks) (e ∙ ap (λ bs. tree.table bs t.head.items (held_rows t)) h.0);
  columns = h.1;
  rows_are = h.2;
}
table_block t kept b e h = absurd h

pub table_ended : (entities : EntityTable) (at_front : Bool) (t : table.Table) (kind : Kind) (first : BlockLine) (later : List BlockLine) (old : List (List ℕ)) (b : Block)
    → block_view b ≡ tree.table t.aligns.items t.head.items (held_rows t)
    → IsLeafOf entities (leaf.Table t) kind first later → IsEndOf entities at_front kind first later old old (Some b)
table_ended entities at_front t (Table above) first later old b e h = (table_block t (leaf_from (Table above) first later) b e h.2, refl)
table_ended entities at_front t kind first later old b e h = absurd h

-- leaves that are no paragraph define nothing
pub fence_defined : (entities : EntityTable) (f : Fence) (kind : Kind) (first : BlockLine) (later : List BlockLine) (old : List LinkDefinition) → IsLeafOf entities (leaf.Fence f) kind first later → old ≡ old ++ end_definitions entities kind first later
fence_defined entities f (FencedCode indentation mark length info closed) first later old h = alone old
fence_defined entities f kind first later old h = absurd h

pub html_defined : (entities : EntityTable) (x : html.HtmlBlock) (kind : Kind) (first : BlockLine) (later : List BlockLine) (old : List LinkDefinition) → IsLeafOf entities (leaf.Html x) kind first later → old ≡ old ++ end_definitions entities kind first later
html_defined entities x (HtmlBlock kind) first later old h = alone old
html_defined entities x kind first later old h = absurd h

pub code_defined : (entities : EntityTable) (x : code.IndentedCode) (kind : Kind) (first : BlockLine) (later : List BlockLine) (old : List LinkDefinition) → IsLeafOf entities (leaf.Code x) kind first later → old ≡ old ++ end_definitions entities kind first later
code_defined entities x IndentedCode first later old h = alone old
code_defined entities x kind first later old h = absurd h

pub table_defined : (entities : EntityTable) (t : table.Table) (kind : Kind) (first : BlockLine) (later : List BlockLine) (old : List LinkDefinition) → IsLeafOf entities (leaf.Table t) kind first later → old ≡ old ++ end_definitions entities kind first later
table_defined entities t (Table above) first later old h = alone old
table_defined entities t kind first later old h = absurd h
