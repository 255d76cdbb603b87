-- HTML of blocks goes by the texts that they name alone.
use Rattle.std.proofs.Common.{◌≡◌, ℕ, ◌+◌, ◌<◌, Bool, false, cond, List, [], ◌∷◌, ◌++◌, codes, length, refl, ap, ◌∙◌}
use Rattle.std.specs.Prelude.{◌==◌}
use Rattle.std.specs.List.{AllByRecursion, flat_map}
use Rattle.std.proofs.ByRecursion.{All-append}
use Rattle.mdscan.specs.declared.delimiter_rows.Align.{Align}
use Rattle.blockspec.specs.BlockTree.{Block, paragraph, heading, thematic_break, code_block, html_block, block_quote, list, table, Blocks, no_blocks, block, Items, no_items, item}
use Rattle.mdblock.specs.Copies.{block_positions, blocks_positions, items_positions}
use Rattle.mdblock.specs.Positions.{CellsIn, BlockIn, BlocksIn, ItemsIn}
use Rattle.htmlspec.specs.declared.options.Options.{Options}
use Rattle.htmlspec.specs.TableHtml.{align_of, cell_html, cells_html, rows_html, head_html, body_html, table_html}
use Rattle.htmlspec.specs.BlockHtml.{fresh, text_html, task_box, heading_html, list_open, list_close, paragraph_html, block_html, blocks_html, items_html}
use Rattle.htmlspec.specs.ListEnds.{item_html, item_ends}

all_front : {A : Type 0} (P : A → Type 0) (xs ys : List A) → AllByRecursion P (xs ++ ys) → AllByRecursion P xs
all_front P [] ys h = tt
all_front P (x ∷ xs) ys h = (h.0, all_front P xs ys h.1)

all_behind : {A : Type 0} (P : A → Type 0) (xs ys : List A) → AllByRecursion P (xs ++ ys) → AllByRecursion P ys
all_behind P [] ys h = h
all_behind P (x ∷ xs) ys h = all_behind P xs ys h.1

-- ---- positions below a number, one after the other

rows_positions_in : (n : ℕ) (rows : List (List ℕ)) → AllByRecursion (CellsIn n) rows → AllByRecursion (λ at. at < n) (flat_map (λ row. row) rows)
rows_positions_in n [] h = tt
rows_positions_in n (row ∷ rows) h = All-append (λ at. at < n) row (flat_map (λ row. row) rows) h.0 (rows_positions_in n rows h.1)

mutual
  block_positions_in : (n : ℕ) (b : Block) → BlockIn n b → AllByRecursion (λ at. at < n) (block_positions b)
  block_positions_in n (paragraph at task) h = (h, tt)
  block_positions_in n (heading level at) h = (h, tt)
  block_positions_in n thematic_break h = tt
  block_positions_in n (code_block lang meta body) h = tt
  block_positions_in n (html_block lines) h = tt
  block_positions_in n (block_quote bs) h = blocks_positions_in n bs h
  block_positions_in n (list kind tight is) h = items_positions_in n is h
  block_positions_in n (table aligns head rows) h = All-append (λ at. at < n) head (flat_map (λ row. row) rows) h.0 (rows_positions_in n rows h.1)

  blocks_positions_in : (n : ℕ) (bs : Blocks) → BlocksIn n bs → AllByRecursion (λ at. at < n) (blocks_positions bs)
  blocks_positions_in n no_blocks h = tt
  blocks_positions_in n (block b bs) h = All-append (λ at. at < n) (block_positions b) (blocks_positions bs) (block_positions_in n b h.0) (blocks_positions_in n bs h.1)

  pub items_positions_in : (n : ℕ) (is : Items) → ItemsIn n is → AllByRecursion (λ at. at < n) (items_positions is)
  items_positions_in n no_items h = tt
  items_positions_in n (item bs is) h = All-append (λ at. at < n) (blocks_positions bs) (items_positions is) (blocks_positions_in n bs h.0) (items_positions_in n is h.1)

-- ---- HTML

module _ (o : Options) (T U : List (List ℕ)) (P : ℕ → Type 0) (same : (k : ℕ) → P k → text_html T k ≡ text_html U k) where
  cells_named : (tag : List ℕ) (aligns : List Align) (column : ℕ) (cells : List ℕ) → AllByRecursion P cells → cells_html o T tag aligns column cells ≡ cells_html o U tag aligns column cells
  cells_named tag aligns column [] h = refl
  cells_named tag aligns column (at ∷ cells) h =
      ap (λ z. cell_html o tag (align_of aligns column) z ++ cells_html o T tag aligns (column + 1) cells) (same at h.0)
      ∙ ap (λ z. cell_html o tag (align_of aligns column) (text_html U at) ++ z) (cells_named tag aligns (column + 1) cells h.1)

  rows_named : (aligns : List Align) (rows : List (List ℕ)) → AllByRecursion P (flat_map (λ row. row) rows) → rows_html o T aligns rows ≡ rows_html o U aligns rows
  rows_named aligns [] h = refl
  rows_named aligns (row ∷ rows) h =
      let all = flat_map (λ row. row) rows in
      ap (λ z. ((codes "<tr>\n" ++ z) ++ codes "</tr>\n") ++ rows_html o T aligns rows) (cells_named (codes "td") aligns 0 row (all_front P row all h))
      ∙ ap (λ z. ((codes "<tr>\n" ++ cells_html o U (codes "td") aligns 0 row) ++ codes "</tr>\n") ++ z) (rows_named aligns rows (all_behind P row all h))

  table_named : (aligns : List Align) (head : List ℕ) (rows : List (List ℕ)) → AllByRecursion P (head ++ flat_map (λ row. row) rows) → table_html o T aligns head rows ≡ table_html o U aligns head rows
  table_named aligns head rows h =
      let all = flat_map (λ row. row) rows in
      ap (λ z. ((codes "<table>\n" ++ ((codes "<thead>\n" ++ ((codes "<tr>\n" ++ z) ++ codes "</tr>\n")) ++ codes "</thead>\n")) ++ body_html o T aligns rows) ++ codes "</table>\n")
      (cells_named (codes "th") aligns 0 head (all_front P head all h))
      ∙ ap (λ z. ((codes "<table>\n" ++ head_html o U aligns head) ++ cond (length rows == 0) [] ((codes "<tbody>\n" ++ z) ++ codes "</tbody>\n")) ++ codes "</table>\n")
      (rows_named aligns rows (all_behind P head all h))

  mutual
    block_named : (tight : Bool) (b : Block) (out : List ℕ) → AllByRecursion P (block_positions b) → block_html o T tight b out ≡ block_html o U tight b out
    block_named tight (paragraph at task) out h = ap (λ z. paragraph_html tight (task_box task ++ z) out) (same at h.0)
    block_named tight (heading level at) out h = ap (λ z. fresh out ++ heading_html level z) (same at h.0)
    block_named tight thematic_break out h = refl
    block_named tight (code_block lang meta body) out h = refl
    block_named tight (html_block lines) out h = refl
    block_named tight (block_quote bs) out h = ap (λ z. fresh z ++ codes "</blockquote>\n") (blocks_named false bs (fresh out ++ codes "<blockquote>\n") h)
    block_named tight (list kind t is) out h = ap (λ z. z ++ list_close kind) (items_named t is (fresh out ++ list_open kind) h)
    block_named tight (table aligns head rows) out h = ap (λ z. fresh out ++ z) (table_named aligns head rows h)

    blocks_named : (tight : Bool) (bs : Blocks) (out : List ℕ) → AllByRecursion P (blocks_positions bs) → blocks_html o T tight bs out ≡ blocks_html o U tight bs out
    blocks_named tight no_blocks out h = refl
    blocks_named tight (block b bs) out h =
        ap (blocks_html o T tight bs) (block_named tight b out (all_front P (block_positions b) (blocks_positions bs) h))
        ∙ blocks_named tight bs (block_html o U tight b out) (all_behind P (block_positions b) (blocks_positions bs) h)

    pub items_named : (tight : Bool) (is : Items) (out : List ℕ) → AllByRecursion P (items_positions is) → items_html o T tight is out ≡ items_html o U tight is out
    items_named tight no_items out h = refl
    items_named tight (item bs is) out h =
        ap (λ z. items_html o T tight is (z ++ codes "</li>\n")) (blocks_named tight bs (fresh out ++ codes "<li>") (all_front P (blocks_positions bs) (items_positions is) h))
        ∙ items_named tight is (item_html o U tight bs out) (all_behind P (blocks_positions bs) (items_positions is) h)

  pub ends_named : (tight : Bool) (is : Items) (out : List ℕ) → AllByRecursion P (items_positions is) → item_ends o T tight is out ≡ item_ends o U tight is out
  ends_named tight no_items out h = refl
  ends_named tight (item bs is) out h =
      ap (λ z. length (z ++ codes "</li>\n") ∷ item_ends o T tight is (z ++ codes "</li>\n"))
      (blocks_named tight bs (fresh out ++ codes "<li>") (all_front P (blocks_positions bs) (items_positions is) h))
      ∙ ap (λ z. length (item_html o U tight bs out) ∷ z) (ends_named tight is (item_html o U tight bs out) (all_behind P (blocks_positions bs) (items_positions is) h))
