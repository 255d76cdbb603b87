-- What an open leaf tells of the lines that it takes.
use Rattle.std.proofs.Common.{◌≡◌, ℕ, Bool, true, false, not, ◌||◌, List, ◌∷◌, refl, ap, ◌∙◌, nat_lt}
use Rattle.mdtext.specs.EntityTable.{EntityTable}
use Rattle.blockspec.specs.BlockLine.{BlockLine}
use Rattle.blockspec.specs.BlankLines.{is_blank_line}
use Rattle.blockspec.specs.BlockKinds.{Kind, Paragraph, FencedCode, IndentedCode, HtmlBlock, Table, Inside}
use Rattle.blockspec.specs.BlockStart.{start}
use Rattle.blockspec.specs.Laziness.{Tip}
use Rattle.mdblock.specs.held.OpenLeaves.{IsLeafOf}
use Rattle.mdblock.specs.held.ParagraphLines.{HeldText, HoldsLines}
use Rattle.blockspec.specs.Stretches.{continues_if, fence_step, closes, html_step, ends_html, is_code, is_row, paragraph_step, step}
use Rattle.blockspec.specs.UnitBegin.{is_stop}
use Rattle.mdblock.specs.declared.leaf.fenced_code.Fence.{Fence}
use Rattle.mdblock.specs.declared.leaf.html_blocks.HtmlBlock as html
use Rattle.mdblock.specs.declared.leaf.indented_code.IndentedCode as code
use Rattle.mdblock.specs.declared.leaf.tables.Table as table
use Rattle.mdblock.specs.declared.leaf.Leaf.TheVariants as leaf

if_taken : (t : Bool) (kind : Kind) → t ≡ not (is_stop (continues_if t kind))
if_taken true kind = refl
if_taken false kind = refl

fence_goes : (closed : Bool) (fence : Bool → Kind) → true ≡ not (is_stop (fence_step closed fence))
fence_goes true fence = refl
fence_goes false fence = refl

html_goes : (blank ends : Bool) (kind : ℕ) → (nat_lt kind 6 || not blank) ≡ not (is_stop (html_step blank ends kind))
html_goes true ends kind = go (nat_lt kind 6) where
  go : (t : Bool) → (t || false) ≡ not (is_stop (continues_if t (HtmlBlock kind)))
  go true = refl
  go false = refl
html_goes false true kind = go (nat_lt kind 6) where
  go : (t : Bool) → (t || true) ≡ true
  go true = refl
  go false = refl
html_goes false false kind = go (nat_lt kind 6) where
  go : (t : Bool) → (t || true) ≡ true
  go true = refl
  go false = refl

pub paragraph_takes : (entities : EntityTable) (p : HeldText) (kind : Kind) (first : BlockLine) (later : List BlockLine) (tip : List BlockLine → Tip) (l : BlockLine) (r : Bool)
    → ((lines : List BlockLine) → HoldsLines lines p → r ≡ not (is_stop (paragraph_step l.lazy (is_blank_line l) (start Inside lines l))))
    → IsLeafOf entities (leaf.Paragraph p) kind first later → r ≡ not (is_stop (step tip kind first later l))
unfolding step
paragraph_takes entities p Paragraph first later tip l r e h = e (first ∷ later) h
paragraph_takes entities p kind first later tip l r e h = absurd h

pub fence_takes : (entities : EntityTable) (f : Fence) (kind : Kind) (first : BlockLine) (later : List BlockLine) (tip : List BlockLine → Tip) (l : BlockLine)
    → IsLeafOf entities (leaf.Fence f) kind first later → true ≡ not (is_stop (step tip kind first later l))
unfolding step
fence_takes entities f (FencedCode indentation mark length info closed) first later tip l h = fence_goes (closes mark length l) (FencedCode indentation mark length info)
fence_takes entities f kind first later tip l h = absurd h

pub html_takes : (entities : EntityTable) (b : html.HtmlBlock) (kind : Kind) (first : BlockLine) (later : List BlockLine) (tip : List BlockLine → Tip) (l : BlockLine) (r : Bool)
    → r ≡ (nat_lt b.kind 6 || not (is_blank_line l)) → IsLeafOf entities (leaf.Html b) kind first later → r ≡ not (is_stop (step tip kind first later l))
unfolding step
html_takes entities b (HtmlBlock kind) first later tip l r e h =
    e ∙ ap (λ k. nat_lt k 6 || not (is_blank_line l)) h.kind_is ∙ html_goes (is_blank_line l) (ends_html kind l) kind
html_takes entities b kind first later tip l r e h = absurd h

pub code_takes : (entities : EntityTable) (c : code.IndentedCode) (kind : Kind) (first : BlockLine) (later : List BlockLine) (tip : List BlockLine → Tip) (l : BlockLine) (r : Bool)
    → r ≡ is_code l → IsLeafOf entities (leaf.Code c) kind first later → r ≡ not (is_stop (step tip kind first later l))
unfolding step
code_takes entities c IndentedCode first later tip l r e h = e ∙ if_taken (is_code l) IndentedCode
code_takes entities c kind first later tip l r e h = absurd h

pub table_takes : (entities : EntityTable) (t : table.Table) (kind : Kind) (first : BlockLine) (later : List BlockLine) (tip : List BlockLine → Tip) (l : BlockLine) (r : Bool)
    → r ≡ is_row l → IsLeafOf entities (leaf.Table t) kind first later → r ≡ not (is_stop (step tip kind first later l))
unfolding step
table_takes entities t (Table above) first later tip l r e h = e ∙ if_taken (is_row l) (Table above)
table_takes entities t kind first later tip l r e h = absurd h
