-- HTML of blocks whose texts have their positions one after the other goes by those texts, wherever they stand.
use Rattle.std.proofs.Common.{◌≡◌, ℕ, zero, suc, ◌+◌, ◌<◌, ◌≤◌, Bool, false, cond, List, [], ◌∷◌, ◌++◌, codes, length, length-append, refl, sym, ap, ◌∙◌, arith}
use Rattle.std.specs.Prelude.{◌==◌}
use Rattle.std.specs.List.{flat_map, range_with_len}
use Rattle.mdscan.specs.declared.delimiter_rows.Align.{Align}
use Rattle.blockspec.specs.BlockTree.{Block, paragraph, heading, thematic_break, code_block, html_block, block_quote, list, table, Blocks, no_blocks, block, Items, no_items, item}
use Rattle.mdblock.specs.Copies.{block_positions, blocks_positions, items_positions, copied_block, copied_blocks, copied_items, copied_rows}
use Rattle.htmlspec.specs.declared.options.Options.{Options}
use Rattle.htmlspec.specs.TableHtml.{align_of, cell_html, cells_html, rows_html, head_html, body_html, table_html}
use Rattle.htmlspec.specs.BlockHtml.{fresh, text_html, task_box, heading_html, list_open, list_close, paragraph_html, block_html, blocks_html, items_html}
use Rattle.htmlspec.specs.ListEnds.{item_html, item_ends}

rows_count : (c : ℕ) (rows : List (List ℕ)) → length (copied_rows c rows) ≡ length rows
rows_count c [] = refl
rows_count c (row ∷ rows) = ap suc (rows_count (c + length row) rows)

module _ (o : Options) (T U : List (List ℕ)) (d n : ℕ) (same : (k : ℕ) → k < n → text_html T k ≡ text_html U (d + k)) where
  further : (c k : ℕ) → d + (c + k) ≡ (d + c) + k
  further c k = omega arith

  cells_moved : (tag : List ℕ) (aligns : List Align) (column c k : ℕ) → c + k ≤ n
      → cells_html o T tag aligns column (range_with_len c k) ≡ cells_html o U tag aligns column (range_with_len (d + c) k)
  cells_moved tag aligns column c zero h = refl
  cells_moved tag aligns column c (suc k) h =
      ap (λ z. cell_html o tag (align_of aligns column) z ++ cells_html o T tag aligns (column + 1) (range_with_len (c + 1) k)) (same c (omega (arith, h)))
      ∙ ap (λ z. cell_html o tag (align_of aligns column) (text_html U (d + c)) ++ z) (cells_moved tag aligns (column + 1) (c + 1) k (omega (arith, h)))
      ∙ ap (λ z. cell_html o tag (align_of aligns column) (text_html U (d + c)) ++ cells_html o U tag aligns (column + 1) (range_with_len z k)) (further c 1)

  rows_moved : (aligns : List Align) (c : ℕ) (rows : List (List ℕ)) → c + length (flat_map (λ row. row) rows) ≤ n
      → rows_html o T aligns (copied_rows c rows) ≡ rows_html o U aligns (copied_rows (d + c) rows)
  rows_moved aligns c [] h = refl
  rows_moved aligns c (row ∷ rows) h =
      let size = length-append row (flat_map (λ row. row) rows) in
      ap (λ z. ((codes "<tr>\n" ++ z) ++ codes "</tr>\n") ++ rows_html o T aligns (copied_rows (c + length row) rows)) (cells_moved (codes "td") aligns 0 c (length row) (omega (arith, h, size)))
      ∙ ap (λ z. ((codes "<tr>\n" ++ cells_html o U (codes "td") aligns 0 (range_with_len (d + c) (length row))) ++ codes "</tr>\n") ++ z)
      (rows_moved aligns (c + length row) rows (omega (arith, h, size)) ∙ ap (λ z. rows_html o U aligns (copied_rows z rows)) (further c (length row)))

  body_moved : (aligns : List Align) (c : ℕ) (rows : List (List ℕ)) → c + length (flat_map (λ row. row) rows) ≤ n
      → body_html o T aligns (copied_rows c rows) ≡ body_html o U aligns (copied_rows (d + c) rows)
  body_moved aligns c rows h =
      ap (λ m. cond (m == 0) [] ((codes "<tbody>\n" ++ rows_html o T aligns (copied_rows c rows)) ++ codes "</tbody>\n")) (rows_count c rows)
      ∙ ap (λ z. cond (length rows == 0) [] ((codes "<tbody>\n" ++ z) ++ codes "</tbody>\n")) (rows_moved aligns c rows h)
      ∙ sym (ap (λ m. cond (m == 0) [] ((codes "<tbody>\n" ++ rows_html o U aligns (copied_rows (d + c) rows)) ++ codes "</tbody>\n")) (rows_count (d + c) rows))

  table_moved : (aligns : List Align) (c : ℕ) (head : List ℕ) (rows : List (List ℕ)) → c + length (head ++ flat_map (λ row. row) rows) ≤ n
      → table_html o T aligns (range_with_len c (length head)) (copied_rows (c + length head) rows)
      ≡ table_html o U aligns (range_with_len (d + c) (length head)) (copied_rows ((d + c) + length head) rows)
  table_moved aligns c head rows h =
      let size = length-append head (flat_map (λ row. row) rows) in
      ap (λ z. ((codes "<table>\n" ++ ((codes "<thead>\n" ++ ((codes "<tr>\n" ++ z) ++ codes "</tr>\n")) ++ codes "</thead>\n")) ++ body_html o T aligns (copied_rows (c + length head) rows))
      ++ codes "</table>\n") (cells_moved (codes "th") aligns 0 c (length head) (omega (arith, h, size)))
      ∙ ap (λ z. ((codes "<table>\n" ++ head_html o U aligns (range_with_len (d + c) (length head))) ++ z) ++ codes "</table>\n")
      (body_moved aligns (c + length head) rows (omega (arith, h, size)) ∙ ap (λ z. body_html o U aligns (copied_rows z rows)) (further c (length head)))

  mutual
    block_moved : (tight : Bool) (c : ℕ) (b : Block) (out : List ℕ) → c + length (block_positions b) ≤ n → block_html o T tight (copied_block c b) out ≡ block_html o U tight (copied_block (d + c) b) out
    block_moved tight c (paragraph at task) out h = ap (λ z. paragraph_html tight (task_box task ++ z) out) (same c (omega (arith, h)))
    block_moved tight c (heading level at) out h = ap (λ z. fresh out ++ heading_html level z) (same c (omega (arith, h)))
    block_moved tight c thematic_break out h = refl
    block_moved tight c (code_block lang meta body) out h = refl
    block_moved tight c (html_block lines) out h = refl
    block_moved tight c (block_quote bs) out h = ap (λ z. fresh z ++ codes "</blockquote>\n") (blocks_moved false c bs (fresh out ++ codes "<blockquote>\n") h)
    block_moved tight c (list kind t is) out h = ap (λ z. z ++ list_close kind) (items_moved t c is (fresh out ++ list_open kind) h)
    block_moved tight c (table aligns head rows) out h = ap (λ z. fresh out ++ z) (table_moved aligns c head rows h)

    blocks_moved : (tight : Bool) (c : ℕ) (bs : Blocks) (out : List ℕ) → c + length (blocks_positions bs) ≤ n → blocks_html o T tight (copied_blocks c bs) out ≡ blocks_html o U tight (copied_blocks (d + c) bs) out
    blocks_moved tight c no_blocks out h = refl
    blocks_moved tight c (block b bs) out h =
        let size = length-append (block_positions b) (blocks_positions bs) in
        let k = length (block_positions b) in
        ap (blocks_html o T tight (copied_blocks (c + k) bs)) (block_moved tight c b out (omega (arith, h, size)))
        ∙ blocks_moved tight (c + k) bs (block_html o U tight (copied_block (d + c) b) out) (omega (arith, h, size))
        ∙ ap (λ z. blocks_html o U tight (copied_blocks z bs) (block_html o U tight (copied_block (d + c) b) out)) (further c k)

    pub items_moved : (tight : Bool) (c : ℕ) (is : Items) (out : List ℕ) → c + length (items_positions is) ≤ n → items_html o T tight (copied_items c is) out ≡ items_html o U tight (copied_items (d + c) is) out
    items_moved tight c no_items out h = refl
    items_moved tight c (item bs is) out h =
        let size = length-append (blocks_positions bs) (items_positions is) in
        let k = length (blocks_positions bs) in
        let next = item_html o U tight (copied_blocks (d + c) bs) out in
        ap (λ z. items_html o T tight (copied_items (c + k) is) (z ++ codes "</li>\n")) (blocks_moved tight c bs (fresh out ++ codes "<li>") (omega (arith, h, size)))
        ∙ items_moved tight (c + k) is next (omega (arith, h, size))
        ∙ ap (λ z. items_html o U tight (copied_items z is) next) (further c k)

  pub ends_moved : (tight : Bool) (c : ℕ) (is : Items) (out : List ℕ) → c + length (items_positions is) ≤ n → item_ends o T tight (copied_items c is) out ≡ item_ends o U tight (copied_items (d + c) is) out
  ends_moved tight c no_items out h = refl
  ends_moved tight c (item bs is) out h =
      let size = length-append (blocks_positions bs) (items_positions is) in
      let k = length (blocks_positions bs) in
      let next = item_html o U tight (copied_blocks (d + c) bs) out in
      ap (λ z. length (z ++ codes "</li>\n") ∷ item_ends o T tight (copied_items (c + k) is) (z ++ codes "</li>\n")) (blocks_moved tight c bs (fresh out ++ codes "<li>") (omega (arith, h, size)))
      ∙ ap (λ z. length next ∷ z) (ends_moved tight (c + k) is next (omega (arith, h, size)) ∙ ap (λ z. item_ends o U tight (copied_items z is) next) (further c k))
