-- Whether a paragraph is open at the end of a level.
use Rattle.std.proofs.Common.{Box, Global, ◌≡◌, ℕ, Bool, true, false, List, refl, sym, ◌∙◌, ap, subst}
use Rattle.mdtext.specs.EntityTable.{EntityTable}
use Rattle.blockspec.specs.BlockLine.{BlockLine}
use Rattle.blockspec.specs.BlockKinds.{Kind, Paragraph, FencedCode, IndentedCode, HtmlBlock, Quote, Item}
use Rattle.mdblock.specs.held.HeldLevel.{EndsIn, StandsForLast, StandsForList, CellsStand, behind_over}
use Rattle.blockspec.specs.Laziness.{is_text}
use Rattle.mdblock.specs.held.LeafEnds.{is_paragraph}
use Rattle.blockspec.specs.LineSummary.{summary, summary_tip, last_tip, Last, nothing_yet, ended_block, open_leaf, open_container}
use Rattle.blockspec.specs.Lists.{Part, Leaves, Quoted, Listed, Group}
use Rattle.blockspec.specs.OpenLeaf.{OpenLeaf, open_table, open_tip, leaf_from}
use Rattle.mdblock.specs.held.OpenLeaves.{IsLeafOf}
use Rattle.mdblock.specs.declared.container.lists.OpenList.{OpenList}
use Rattle.mdblock.specs.declared.leaf.Leaf as held
use Rattle.mdblock.specs.declared.leaf.Leaf.TheVariants as leaf
use Rattle.mdblock.specs.declared.open_blocks.Level.{Level}
use Rattle.mdblock.specs.declared.open_blocks.OpenBlock.{OpenBlock}
use Rattle.mdblock.specs.declared.open_blocks.OpenBlock as open_block
use Rattle.mdblock.proofs.CloseLaws.{not_both}

abbrev LastEnds : OpenBlock → Bool → Type 0
LastEnds x result = (e : EntityTable) (at : ℕ) (before : List Group) (last : Last) → StandsForLast e at x before last → result ≡ is_text (last_tip last)

counted_from_last : (level : Level) (x : OpenBlock) (result : Bool) → level.last ≡ x → LastEnds x result → EndsIn level result
unfolding summary_tip
counted_from_last level x result is f e at in_item (summary before last blank lines) st =
    f e (behind_over e at in_item before last) before last (subst (λ z. StandsForLast e (behind_over e at in_item before last) z before last) is st.1)

pub shut_tip : (level : Level) → level.last ≡ open_block.Shut → EndsIn level false
unfolding last_tip
shut_tip level is = counted_from_last level open_block.Shut false is go
  where
    go : LastEnds open_block.Shut false
    go e at before nothing_yet st = refl
    go e at before (ended_block g) st = refl
    go e at before (open_leaf begin gap kept) st = absurd st
    go e at before (open_container begin gap bare container inner) st = absurd st

made_tip : (e : EntityTable) (x : held.Leaf) (kind : Kind) (first : BlockLine) (later : List BlockLine) → IsLeafOf e x kind first later → (at : ℕ) → CellsStand at x (leaf_from kind first later) → is_paragraph x ≡ is_text (open_tip (leaf_from kind first later))
unfolding leaf_from
made_tip e (leaf.Paragraph p) Paragraph first later h at cells = refl
made_tip e (leaf.Fence f) (FencedCode i m n info closed) first later h at cells = refl
made_tip e (leaf.Html f) (HtmlBlock kind) first later h at cells = refl
made_tip e (leaf.Code f) IndentedCode first later h at cells = refl
made_tip e (leaf.Table t) kind first later h at cells = go (leaf_from kind first later) cells
  where
    go : (kept : OpenLeaf) → CellsStand at (leaf.Table t) kept → false ≡ is_text (open_tip kept)
    go (open_table above aligns head rows) cells = refl
    go kept cells = absurd cells
made_tip e x kind first later h at cells = absurd h

pub leaf_tip_is : (level : Level) (x : held.Leaf) → level.last ≡ open_block.Leaf x → EndsIn level (is_paragraph x)
unfolding last_tip
leaf_tip_is level x is = counted_from_last level (open_block.Leaf x) (is_paragraph x) is go
  where
    go : LastEnds (open_block.Leaf x) (is_paragraph x)
    go e at before nothing_yet st = absurd st
    go e at before (ended_block g) st = absurd st
    go e at before (open_leaf begin gap kept) st =
        made_tip e x st.kind st.first st.later st.held_is at (subst (CellsStand at x) st.kept_is st.cells) ∙ ap (λ z. is_text (open_tip z)) (sym st.kept_is)
    go e at before (open_container begin gap bare container inner) st = absurd st

pub quote_tip : (level : Level) (inner : Box Level Global) (result : Bool) → level.last ≡ open_block.Quote inner → EndsIn inner.value result → EndsIn level result
unfolding last_tip
quote_tip level inner result is f = counted_from_last level (open_block.Quote inner) result is go
  where
    go : LastEnds (open_block.Quote inner) result
    go e at before nothing_yet st = absurd st
    go e at before (ended_block g) st = absurd st
    go e at before (open_leaf begin gap kept) st = absurd st
    go e at before (open_container begin gap bare (Item marker needed) s) st = absurd st
    go e at before (open_container begin gap bare Quote (summary b l k n)) st = f e at false (summary b l k n) st

ended : (list : OpenList) (before : List Group) (at : ℕ) (gap : Bool) (p : Part) → StandsForList at list before gap p → list.item_open ≡ false
ended list before at gap (Leaves leaves) st = absurd st
ended list before at gap (Quoted nodes) st = absurd st
ended list before at gap (Listed kind tight items) st = st.0

pub item_tip : (level : Level) (inner : Box Level Global) (list : OpenList) (result : Bool) → level.last ≡ open_block.List inner list → list.item_open ≡ true → EndsIn inner.value result → EndsIn level result
unfolding last_tip
item_tip level inner list result is opened f = counted_from_last level (open_block.List inner list) result is go
  where
    go : LastEnds (open_block.List inner list) result
    go e at before nothing_yet st = absurd st
    go e at before (ended_block g) st = absurd (not_both list.item_open opened (ended list before at g.gap g.part st.0))
    go e at before (open_leaf begin gap kept) st = absurd st
    go e at before (open_container begin gap bare Quote s) st = absurd st
    go e at before (open_container begin gap bare (Item marker needed) (summary b l k n)) st = f e _ true (summary b l k n) (st.4, st.5)

pub ended_tip : (level : Level) (inner : Box Level Global) (list : OpenList) → level.last ≡ open_block.List inner list → list.item_open ≡ false → EndsIn level false
unfolding last_tip
ended_tip level inner list is shut = counted_from_last level (open_block.List inner list) false is go
  where
    go : LastEnds (open_block.List inner list) false
    go e at before nothing_yet st = absurd st
    go e at before (ended_block g) st = refl
    go e at before (open_leaf begin gap kept) st = absurd st
    go e at before (open_container begin gap bare Quote s) st = absurd st
    go e at before (open_container begin gap bare (Item marker needed) (summary b l k n)) st = absurd (not_both list.item_open st.0 shut)
