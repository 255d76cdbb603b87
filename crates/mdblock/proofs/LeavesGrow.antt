-- HTML blocks, indented code and tables that grow where they stand.
use Rattle.std.proofs.Common.{◌≡◌, ℕ, false, List, [], ◌∷◌, ◌++◌, Some, None, Ok, length, map, ap, refl, sym, subst}
use Rattle.std.proofs.lemmas.List.{length-map}
use Rattle.std.specs.Prelude.{string_bytes}
use Rattle.blockspec.specs.BlockLine.{BlockLine, rest}
use Rattle.blockspec.specs.OpenLeaf.{row_of}
use Rattle.blockspec.specs.Stretches.{ends_html}
use Rattle.mdleaf.specs.DefinedLinks.{definition_of}
use Rattle.mdblock.specs.BlockView.{blocks_view}
use Rattle.mdblock.specs.declared.gathering.Gathering.{Gathering}
use Rattle.mdblock.specs.declared.leaf.Leaf.TheVariants as leaf
use Rattle.mdblock.specs.declared.leaf.Leaf.{Leaf}
use Rattle.mdblock.specs.declared.leaf.LeafAfter.{LeafAfter}
use Rattle.mdblock.specs.declared.leaf.html_blocks.HtmlBlock.{HtmlBlock}
use Rattle.mdblock.specs.declared.leaf.indented_code.IndentedCode.{IndentedCode}
use Rattle.mdblock.specs.declared.leaf.tables.Table.{Table}
use Rattle.mdblock.specs.declared.open_blocks.Level.{Level}
use Rattle.mdblock.specs.declared.open_blocks.OpenBlock as open_block
use Rattle.mdblock.specs.held.HandedIn.{gathered_texts}
use Rattle.mdblock.specs.held.HeldLevel.{is_front}
use Rattle.mdblock.specs.held.HeldTables.{IsRowMore}
use Rattle.mdblock.specs.held.ClosedViews.{found_view}
use Rattle.mdblock.specs.held.LevelSteps.{GrowsLeaf, HasRestOf, open_leaf_of}
use Rattle.mdblock.specs.held.TreesBehind.{blocks_before}
use Rattle.mdblock.specs.held.OpenLeaves.{IsCodeOf, IsHtmlOf, IsHtmlStep}
use Rattle.mdblock.proofs.LeafTurns.{html_added, code_added, table_added}
use Rattle.mdblock.proofs.LevelGrows.{leaf_reads}
use Rattle.mdblock.proofs.PlacedNodes.{blocks_nil}

-- whatever the line leaves of it
pub html_steps : (level new : Level) (before : Gathering) (l : BlockLine) (h : HtmlBlock) (step : LeafAfter) → level.last ≡ open_block.Leaf (leaf.Html h) →
    ((first : BlockLine) (later : List BlockLine) → IsHtmlOf h.kind (first ∷ later) h → IsHtmlStep (ends_html h.kind l) h.kind (first ∷ later ++ l ∷ []) step) →
    blocks_view new.over.items ≡ blocks_before (blocks_view level.over.items) (found_view step.over) → new.last ≡ open_leaf_of step.going → HasRestOf level new → GrowsLeaf level before l new before
html_steps level new before l h step is steps over last marks =
    leaf_reads (Unit {0}) level new before before l (leaf.Html h) step (is_front level.in_item level.over.items) is refl
    (λ e kind first later of tip. html_added {E = Unit {0}} e h kind first later tip l (Ok step) steps of)
    tt (refl, refl) over last marks

pub html_reads : (level : Level) (before : Gathering) (l : BlockLine) (h more : HtmlBlock) → level.last ≡ open_block.Leaf (leaf.Html h) → ends_html h.kind l ≡ false →
    ((kind : ℕ) (first : BlockLine) (later : List BlockLine) → IsHtmlOf kind (first ∷ later) h → IsHtmlOf kind (first ∷ later ++ l ∷ []) more) →
    GrowsLeaf level before l (record level { last = open_block.Leaf (leaf.Html more) }) before
html_reads level before l h more is stays grows =
    let step : LeafAfter = record { over = None; going = Some (leaf.Html more) } in
    html_steps level (record level { last = open_block.Leaf (leaf.Html more) }) before l h step is
    (λ first later own. subst (λ t. IsHtmlStep t h.kind (first ∷ later ++ l ∷ []) step) (sym stays) (record { nothing_over = refl; going = grows h.kind first later own }))
    (sym (blocks_nil (blocks_view level.over.items))) refl (refl, refl, refl)

pub code_reads : (level : Level) (before : Gathering) (l : BlockLine) (c more : IndentedCode) → level.last ≡ open_block.Leaf (leaf.Code c) →
    ((lines : List BlockLine) → IsCodeOf lines c → IsCodeOf (lines ++ l ∷ []) more) →
    GrowsLeaf level before l (record level { last = open_block.Leaf (leaf.Code more) }) before
code_reads level before l c more is grows =
    let step : LeafAfter = record { over = None; going = Some (leaf.Code more) } in
    leaf_reads (Unit {0}) level (record level { last = open_block.Leaf (leaf.Code more) }) before before l (leaf.Code c) step (is_front level.in_item level.over.items) is refl
    (λ e kind first later of tip. code_added {E = Unit {0}} e c kind first later tip l (Ok step) (λ lines own. record { nothing_over = refl; going = grows lines own }) of)
    tt (refl, refl) (sym (blocks_nil (blocks_view level.over.items))) refl (refl, refl, refl)

pub row_reads : (level : Level) (before after : Gathering) (l : BlockLine) (t more : Table) → level.last ≡ open_block.Leaf (leaf.Table t) →
    IsRowMore (length before.texts.items) t (leaf.Table more) → gathered_texts after ≡ gathered_texts before ++ row_of t.aligns.items (rest l) → after.definitions ≡ before.definitions →
    GrowsLeaf level before l (record level { last = open_block.Leaf (leaf.Table more) }) after
row_reads level before after l t more is row texts definitions =
    let step : LeafAfter = record { over = None; going = Some (leaf.Table more) } in
    let more_of : (next : Leaf) → IsRowMore (length before.texts.items) t next → IsRowMore (length (gathered_texts before)) t next =
    λ next r. subst (λ n. IsRowMore n t next) (sym (length-map before.texts.items string_bytes)) r in
    leaf_reads (Unit {0}) level (record level { last = open_block.Leaf (leaf.Table more) }) before after l (leaf.Table t) step (is_front level.in_item level.over.items) is refl
    (λ e kind first later of tip. table_added {E = Unit {0}} e t kind first later tip l (Ok step) (length before.texts.items) (record { nothing_over = refl; going = row }) of)
    (record { nothing_over = refl; going = more_of (leaf.Table more) row }, texts) (ap (λ d. map definition_of d.items) definitions) (sym (blocks_nil (blocks_view level.over.items))) refl (refl, refl, refl)
