-- Blocks of two units that have the same HTML, where the texts that both share have the same.
use Rattle.std.specs.Prelude.{◌≡◌, ℕ, ◌+◌, ◌<◌, Bool, List, length}
use Rattle.blockspec.specs.BlockTree.{Block, Blocks, Items}
use Rattle.mdscan.specs.declared.delimiter_rows.Align.{Align}
use Rattle.htmlspec.specs.declared.options.Options.{Options}
use Rattle.mdhtml.specs.declared.lists.same_blocks.SharedTexts.{SharedTexts}
use Rattle.htmlspec.specs.BlockHtml.{block_html, blocks_html, items_html}
use Rattle.htmlspec.specs.ListEnds.{item_ends}
use Rattle.htmlspec.specs.TableHtml.{text_html, cells_html, rows_html}

-- T and U are the HTML of the texts of both units: the shared ones have the same
pub record SharedHtml (s : SharedTexts) (T U : List (List ℕ)) : Type 0 where
  pub same : (k : ℕ) → k < s.count → text_html T (s.at + k) ≡ text_html U (s.like_at + k)

pub record TextAlike (s : SharedTexts) (p q : ℕ) : Type 0 where
  pub html : (T U : List (List ℕ)) → SharedHtml s T U → text_html T p ≡ text_html U q

pub record CellsAlike (s : SharedTexts) (ps qs : List ℕ) : Type 0 where
  pub html : (T U : List (List ℕ)) → SharedHtml s T U → (o : Options) (tag : List ℕ) (aligns : List Align) (column : ℕ)
      → cells_html o T tag aligns column ps ≡ cells_html o U tag aligns column qs

pub record RowsAlike (s : SharedTexts) (rows others : List (List ℕ)) : Type 0 where
  pub count : length rows ≡ length others
  pub html : (T U : List (List ℕ)) → SharedHtml s T U → (o : Options) (aligns : List Align) → rows_html o T aligns rows ≡ rows_html o U aligns others

pub record BlockAlike (s : SharedTexts) (b c : Block) : Type 0 where
  pub html : (T U : List (List ℕ)) → SharedHtml s T U → (o : Options) (tight : Bool) (out : List ℕ) → block_html o T tight b out ≡ block_html o U tight c out

pub record BlocksAlike (s : SharedTexts) (bs cs : Blocks) : Type 0 where
  pub html : (T U : List (List ℕ)) → SharedHtml s T U → (o : Options) (tight : Bool) (out : List ℕ) → blocks_html o T tight bs out ≡ blocks_html o U tight cs out

pub record ItemsAlike (s : SharedTexts) (is js : Items) : Type 0 where
  pub html : (T U : List (List ℕ)) → SharedHtml s T U → (o : Options) (tight : Bool) (out : List ℕ) → items_html o T tight is out ≡ items_html o U tight js out
  pub ends : (T U : List (List ℕ)) → SharedHtml s T U → (o : Options) (tight : Bool) (out : List ℕ) → item_ends o T tight is out ≡ item_ends o U tight js out
