-- Fenced code that grows where it stands.
use Rattle.std.proofs.Common.{◌≡◌, ℕ, true, false, List, [], ◌∷◌, ◌++◌, Some, None, Ok, ap, refl, sym, ◌∙◌, subst, string_bytes}
use Rattle.mdtext.specs.EntityTable.{EntityTable}
use Rattle.mdleaf.specs.CodeLanguage.{code_language, code_meta}
use Rattle.blockspec.specs.BlockLine.{BlockLine}
use Rattle.blockspec.specs.BlockTree.{code_block}
use Rattle.blockspec.specs.Stretches.{closes}
use Rattle.mdblock.specs.BlockView.{block_view, blocks_view}
use Rattle.mdblock.specs.declared.blocks.Block.{Block}
use Rattle.mdblock.specs.declared.gathering.Gathering.{Gathering}
use Rattle.mdblock.specs.declared.leaf.Leaf.TheVariants as leaf
use Rattle.mdblock.specs.declared.leaf.LeafAfter.{LeafAfter}
use Rattle.mdblock.specs.declared.leaf.fenced_code.Fence.{Fence}
use Rattle.mdblock.specs.declared.open_blocks.Level.{Level}
use Rattle.mdblock.specs.declared.open_blocks.OpenBlock as open_block
use Rattle.mdblock.specs.held.HeldLevel.{is_front}
use Rattle.mdblock.specs.held.ClosedViews.{found_view}
use Rattle.mdblock.specs.held.LevelSteps.{GrowsLeaf, HasRestOf, open_leaf_of}
use Rattle.mdblock.specs.held.TreesBehind.{blocks_before}
use Rattle.mdblock.specs.held.OpenLeaves.{IsFenceOf, IsFenceStep}
use Rattle.mdblock.proofs.LeafTurns.{fence_added}
use Rattle.mdblock.proofs.LevelGrows.{leaf_reads}
use Rattle.mdblock.proofs.PlacedNodes.{blocks_nil}

-- whatever the line leaves of it
pub fence_steps : (level new : Level) (before : Gathering) (l : BlockLine) (f : Fence) (step : LeafAfter) → level.last ≡ open_block.Leaf (leaf.Fence f) →
    ((entities : EntityTable) (info : List ℕ) (later : List BlockLine) → IsFenceOf entities f.indent f.mark f.length info later f →
    IsFenceStep (closes f.mark f.length l) entities f.indent f.mark f.length info later l step) →
    blocks_view new.over.items ≡ blocks_before (blocks_view level.over.items) (found_view step.over) → new.last ≡ open_leaf_of step.going → HasRestOf level new → GrowsLeaf level before l new before
fence_steps level new before l f step is steps over last marks =
    leaf_reads (Unit {0}) level new before before l (leaf.Fence f) step (is_front level.in_item level.over.items) is refl
    (λ e kind first later h tip. fence_added {E = Unit {0}} e f kind first later tip l (Ok step) steps h)
    tt (refl, refl) over last marks

pub bl_fence_reads : (level : Level) (before : Gathering) (l : BlockLine) (f more : Fence) → level.last ≡ open_block.Leaf (leaf.Fence f) → closes f.mark f.length l ≡ false →
    ((entities : EntityTable) (info : List ℕ) (later : List BlockLine) → IsFenceOf entities f.indent f.mark f.length info later f → IsFenceOf entities f.indent f.mark f.length info (later ++ l ∷ []) more) →
    GrowsLeaf level before l (record level { last = open_block.Leaf (leaf.Fence more) }) before
bl_fence_reads level before l f more is stays grows =
    let step : LeafAfter = record { over = None; going = Some (leaf.Fence more) } in
    fence_steps level (record level { last = open_block.Leaf (leaf.Fence more) }) before l f step is
    (λ e info later own. subst (λ t. IsFenceStep t e f.indent f.mark f.length info later l step) (sym stays) (record { nothing_over = refl; going = grows e info later own }))
    (sym (blocks_nil (blocks_view level.over.items))) refl (refl, refl, refl)

-- the closing fence
pub fence_closes : (level new : Level) (before : Gathering) (l : BlockLine) (f : Fence) (b : Block) → level.last ≡ open_block.Leaf (leaf.Fence f) → closes f.mark f.length l ≡ true →
    block_view b ≡ code_block (string_bytes f.info.value.lang) (string_bytes f.info.value.meta) (string_bytes f.body) →
    blocks_view new.over.items ≡ blocks_before (blocks_view level.over.items) (found_view (Some b)) → new.last ≡ open_block.Shut → HasRestOf level new → GrowsLeaf level before l new before
fence_closes level new before l f b is ends block over last marks =
    let step : LeafAfter = record { over = Some b; going = None } in
    fence_steps level new before l f step is
    (λ e info later own. subst (λ t. IsFenceStep t e f.indent f.mark f.length info later l step) (sym ends)
    (record {
      over = block ∙ ap (λ t. code_block t (string_bytes f.info.value.meta) (string_bytes f.body)) own.language ∙ ap (λ t. code_block (code_language e info) t (string_bytes f.body)) own.meta
          ∙ ap (code_block (code_language e info) (code_meta e info)) own.body;
      nothing_going = refl;
    }))
    over last marks
