-- Copies of blocks that lines give are the same blocks from another position on.
use Rattle.std.proofs.Common.{◌≡◌, ℕ, zero, suc, ◌+◌, ◌≤◌, List, [], ◌∷◌, ◌++◌, length, refl, sym, ◌∙◌, ap, append_assoc, arith, length-append}
use Rattle.std.proofs.lemmas.List.{map-append}
use Rattle.std.specs.List.{AllByRecursion, flat_map, range_with_len}
use Rattle.blockspec.proofs.DocumentLaws.{map_length}
use Rattle.blockspec.specs.BlockTree.{Block, paragraph, heading, thematic_break, code_block, html_block, block_quote, list, table, Blocks, no_blocks, block, Items, no_items, item}
use Rattle.blockspec.specs.NodeTree.{Leaf, definition_leaf, paragraph_leaf, heading_leaf, break_leaf, code_leaf, html_leaf, table_leaf, Nodes, no_nodes, leaf_node, quote_node, list_node, ItemNodes, no_item_nodes, item_node, leaf_texts, texts_in, texts_in_items, row_positions, leaf_block, placed, placed_items}
use Rattle.mdblock.specs.Positions.{CellsIn, BlockIn, BlocksIn, ItemsIn}
use Rattle.mdblock.specs.Copies.{block_positions, blocks_positions, items_positions, copied_rows, copied_block, copied_blocks, copied_items, text_at, texts_at}

-- ---- positions one after the other

range_more : (n a b : ℕ) → range_with_len n (a + b) ≡ range_with_len n a ++ range_with_len (n + a) b
range_more n zero b = let e : n + 0 ≡ n = omega arith in let f : 0 + b ≡ b = omega arith in ap (λ z. range_with_len n z) f ∙ ap (λ z. range_with_len z b) (sym e)
range_more n (suc a) b =
    let e : (n + 1) + a ≡ n + suc a = omega arith in
    let f : suc a + b ≡ suc (a + b) = omega arith in
    ap (λ z. range_with_len n z) f ∙ ap (λ z. n ∷ z) (range_more (n + 1) a b ∙ ap (λ z. range_with_len (n + 1) a ++ range_with_len z b) e)

range_texts : {A : Type 0} (n : ℕ) (xs ys : List A) → range_with_len n (length (xs ++ ys)) ≡ range_with_len n (length xs) ++ range_with_len (n + length xs) (length ys)
range_texts n xs ys = ap (λ z. range_with_len n z) (length-append xs ys) ∙ range_more n (length xs) (length ys)

pub range_length : (n k : ℕ) → length (range_with_len n k) ≡ k
range_length n zero = refl
range_length n (suc k) = ap suc (range_length (n + 1) k)

rows_flat : (n : ℕ) (rows : List (List (List ℕ))) → flat_map (λ row. row) (row_positions n rows) ≡ range_with_len n (length (flat_map (λ row. row) rows))
rows_flat n [] = refl
rows_flat n (row ∷ rows) = ap (λ z. range_with_len n (length row) ++ z) (rows_flat (n + length row) rows) ∙ sym (range_texts n row (flat_map (λ row. row) rows))

leaf_positions : (n : ℕ) (leaf : Leaf) (rest : Blocks) → blocks_positions (leaf_block n leaf rest) ≡ range_with_len n (length (leaf_texts leaf)) ++ blocks_positions rest
leaf_positions n (definition_leaf d) rest = refl
leaf_positions n (paragraph_leaf task text) rest = refl
leaf_positions n (heading_leaf level text) rest = refl
leaf_positions n break_leaf rest = refl
leaf_positions n (code_leaf lang meta body) rest = refl
leaf_positions n (html_leaf lines) rest = refl
leaf_positions n (table_leaf aligns head rows) rest =
    ap (λ z. (range_with_len n (length head) ++ z) ++ blocks_positions rest) (rows_flat (n + length head) rows)
    ∙ ap (λ z. z ++ blocks_positions rest) (sym (range_texts n head (flat_map (λ row. row) rows)))

both_ranges : (n : ℕ) (xs ys : List (List ℕ)) (a b : List ℕ) → a ≡ range_with_len n (length xs) → b ≡ range_with_len (n + length xs) (length ys) → a ++ b ≡ range_with_len n (length (xs ++ ys))
both_ranges n xs ys a b ha hb = ap (λ z. z ++ b) ha ∙ ap (λ z. range_with_len n (length xs) ++ z) hb ∙ sym (range_texts n xs ys)

mutual
  unfolding placed texts_in placed_items texts_in_items

  pub placed_positions : (n : ℕ) (N : Nodes) → blocks_positions (placed n N) ≡ range_with_len n (length (texts_in N))
  placed_positions n no_nodes = refl
  placed_positions n (leaf_node leaf rest) =
      leaf_positions n leaf (placed (n + length (leaf_texts leaf)) rest)
      ∙ both_ranges n (leaf_texts leaf) (texts_in rest) _ _ refl (placed_positions (n + length (leaf_texts leaf)) rest)
  placed_positions n (quote_node inner rest) = both_ranges n (texts_in inner) (texts_in rest) _ _ (placed_positions n inner) (placed_positions (n + length (texts_in inner)) rest)
  placed_positions n (list_node kind tight items rest) =
      both_ranges n (texts_in_items items) (texts_in rest) _ _ (items_placed_positions n items) (placed_positions (n + length (texts_in_items items)) rest)

  pub items_placed_positions : (n : ℕ) (M : ItemNodes) → items_positions (placed_items n M) ≡ range_with_len n (length (texts_in_items M))
  items_placed_positions n no_item_nodes = refl
  items_placed_positions n (item_node N M) = both_ranges n (texts_in N) (texts_in_items M) _ _ (placed_positions n N) (items_placed_positions (n + length (texts_in N)) M)

-- ---- copies

rows_copied : (at n : ℕ) (rows : List (List (List ℕ))) → copied_rows at (row_positions n rows) ≡ row_positions at rows
rows_copied at n [] = refl
rows_copied at n (row ∷ rows) =
    let e = range_length n (length row) in
    ap (λ z. range_with_len at z ∷ copied_rows (at + z) (row_positions (n + length row) rows)) e
    ∙ ap (λ z. range_with_len at (length row) ∷ z) (rows_copied (at + length row) (n + length row) rows)

leaf_copied : (at n : ℕ) (leaf : Leaf) (rest other : Blocks) → copied_blocks (at + length (leaf_texts leaf)) rest ≡ other → copied_blocks at (leaf_block n leaf rest) ≡ leaf_block at leaf other
leaf_copied at n (definition_leaf d) rest other h = let e : at + 0 ≡ at = omega arith in ap (λ z. copied_blocks z rest) (sym e) ∙ h
leaf_copied at n (paragraph_leaf task text) rest other h = ap (block (paragraph at task)) h
leaf_copied at n (heading_leaf level text) rest other h = ap (block (heading level at)) h
leaf_copied at n break_leaf rest other h = ap (block thematic_break) h
leaf_copied at n (code_leaf lang meta body) rest other h = ap (block (code_block lang meta body)) h
leaf_copied at n (html_leaf lines) rest other h = ap (block (html_block lines)) h
leaf_copied at n (table_leaf aligns head rows) rest other h =
    let ps = range_with_len n (length head) in
    let qs = row_positions (n + length head) rows in
    let len : length (ps ++ flat_map (λ row. row) qs) ≡ length (leaf_texts (table_leaf aligns head rows)) =
    ap (λ z. length (ps ++ z)) (rows_flat (n + length head) rows)
    ∙ ap length (sym (range_texts n head (flat_map (λ row. row) rows)))
    ∙ range_length n (length (head ++ flat_map (λ row. row) rows)) in
    ap (λ z. block (table aligns (range_with_len at z) (copied_rows (at + z) qs)) (copied_blocks (at + length (ps ++ flat_map (λ row. row) qs)) rest)) (range_length n (length head))
    ∙ ap (λ z. block (table aligns (range_with_len at (length head)) z) (copied_blocks (at + length (ps ++ flat_map (λ row. row) qs)) rest)) (rows_copied (at + length head) (n + length head) rows)
    ∙ ap (λ z. block (table aligns (range_with_len at (length head)) (row_positions (at + length head) rows)) (copied_blocks (at + z) rest)) len
    ∙ ap (block (table aligns (range_with_len at (length head)) (row_positions (at + length head) rows))) h

counted : (n : ℕ) (ps : List ℕ) (texts : List (List ℕ)) → ps ≡ range_with_len n (length texts) → length ps ≡ length texts
counted n ps texts h = ap length h ∙ range_length n (length texts)

mutual
  unfolding placed placed_items

  pub placed_copied : (at n : ℕ) (N : Nodes) → copied_blocks at (placed n N) ≡ placed at N
  placed_copied at n no_nodes = refl
  placed_copied at n (leaf_node leaf rest) =
      let k = length (leaf_texts leaf) in
      leaf_copied at n leaf (placed (n + k) rest) (placed (at + k) rest) (placed_copied (at + k) (n + k) rest)
  placed_copied at n (quote_node inner rest) =
      let k = length (texts_in inner) in
      ap (λ z. block (block_quote z) (copied_blocks (at + length (blocks_positions (placed n inner))) (placed (n + k) rest))) (placed_copied at n inner)
      ∙ ap (λ z. block (block_quote (placed at inner)) (copied_blocks (at + z) (placed (n + k) rest))) (counted n (blocks_positions (placed n inner)) (texts_in inner) (placed_positions n inner))
      ∙ ap (block (block_quote (placed at inner))) (placed_copied (at + k) (n + k) rest)
  placed_copied at n (list_node kind tight items rest) =
      let k = length (texts_in_items items) in
      ap (λ z. block (list kind tight z) (copied_blocks (at + length (items_positions (placed_items n items))) (placed (n + k) rest))) (items_placed_copied at n items)
      ∙ ap (λ z. block (list kind tight (placed_items at items)) (copied_blocks (at + z) (placed (n + k) rest))) (counted n (items_positions (placed_items n items)) (texts_in_items items) (items_placed_positions n items))
      ∙ ap (block (list kind tight (placed_items at items))) (placed_copied (at + k) (n + k) rest)

  pub items_placed_copied : (at n : ℕ) (M : ItemNodes) → copied_items at (placed_items n M) ≡ placed_items at M
  items_placed_copied at n no_item_nodes = refl
  items_placed_copied at n (item_node N M) =
      let k = length (texts_in N) in
      ap (λ z. item z (copied_items (at + length (blocks_positions (placed n N))) (placed_items (n + k) M))) (placed_copied at n N)
      ∙ ap (λ z. item (placed at N) (copied_items (at + z) (placed_items (n + k) M))) (counted n (blocks_positions (placed n N)) (texts_in N) (placed_positions n N))
      ∙ ap (item (placed at N)) (items_placed_copied (at + k) (n + k) M)

-- ---- texts

pub first_there : (front : List (List ℕ)) (t : List ℕ) (behind : List (List ℕ)) → text_at (front ++ t ∷ behind) (length front) ≡ t
first_there [] t behind = refl
first_there (f ∷ front) t behind = first_there front t behind

pub texts_there : (front texts behind : List (List ℕ)) → texts_at (front ++ (texts ++ behind)) (range_with_len (length front) (length texts)) ≡ texts
texts_there front [] behind = refl
texts_there front (t ∷ texts) behind =
    let rest = texts ++ behind in
    let all : front ++ t ∷ rest ≡ (front ++ t ∷ []) ++ rest = sym (append_assoc front (t ∷ []) rest) in
    let size : length front + 1 ≡ length (front ++ t ∷ []) = sym (length-append front (t ∷ [])) in
    ap (λ z. z ∷ texts_at (front ++ t ∷ rest) (range_with_len (length front + 1) (length texts))) (first_there front t rest)
    ∙ ap (λ z. t ∷ texts_at z (range_with_len (length front + 1) (length texts))) all
    ∙ ap (λ z. t ∷ texts_at ((front ++ t ∷ []) ++ rest) (range_with_len z (length texts))) size
    ∙ ap (λ z. t ∷ z) (texts_there (front ++ t ∷ []) texts behind)

-- ---- copies name no other texts

range_in : (n k m : ℕ) → n + k ≤ m → CellsIn m (range_with_len n k)
range_in n zero m h = tt
range_in n (suc k) m h = (omega (arith, h), range_in (n + 1) k m (omega (arith, h)))

rows_in : (n m : ℕ) (rows : List (List ℕ)) → n + length (flat_map (λ row. row) rows) ≤ m → AllByRecursion (CellsIn m) (copied_rows n rows)
rows_in n m [] h = tt
rows_in n m (row ∷ rows) h =
    let e = length-append row (flat_map (λ row. row) rows) in
    (range_in n (length row) m (omega (arith, h, e)), rows_in (n + length row) m rows (omega (arith, h, e)))

mutual
  block_in : (n m : ℕ) (b : Block) → n + length (block_positions b) ≤ m → BlockIn m (copied_block n b)
  block_in n m (paragraph text task) h = omega (arith, h)
  block_in n m (heading level text) h = omega (arith, h)
  block_in n m thematic_break h = tt
  block_in n m (code_block lang meta body) h = tt
  block_in n m (html_block lines) h = tt
  block_in n m (block_quote bs) h = blocks_in n m bs h
  block_in n m (list kind tight is) h = items_in n m is h
  block_in n m (table aligns head rows) h =
      let e = length-append head (flat_map (λ row. row) rows) in
      (range_in n (length head) m (omega (arith, h, e)), rows_in (n + length head) m rows (omega (arith, h, e)))

  pub blocks_in : (n m : ℕ) (bs : Blocks) → n + length (blocks_positions bs) ≤ m → BlocksIn m (copied_blocks n bs)
  blocks_in n m no_blocks h = tt
  blocks_in n m (block b bs) h =
      let e = length-append (block_positions b) (blocks_positions bs) in
      (block_in n m b (omega (arith, h, e)), blocks_in (n + length (block_positions b)) m bs (omega (arith, h, e)))

  pub items_in : (n m : ℕ) (is : Items) → n + length (items_positions is) ≤ m → ItemsIn m (copied_items n is)
  items_in n m no_items h = tt
  items_in n m (item bs is) h =
      let e = length-append (blocks_positions bs) (items_positions is) in
      (blocks_in n m bs (omega (arith, h, e)), items_in (n + length (blocks_positions bs)) m is (omega (arith, h, e)))

-- ---- one copy more

pub texts_more : (old new T : List (List ℕ)) (ps qs : List ℕ) → new ≡ old ++ texts_at T ps → new ++ texts_at T qs ≡ old ++ texts_at T (ps ++ qs)
texts_more old new T ps qs h = ap (λ z. z ++ texts_at T qs) h ∙ append_assoc old (texts_at T ps) (texts_at T qs) ∙ ap (λ z. old ++ z) (sym (map-append (text_at T) ps qs))

pub size_more : (old new T : List (List ℕ)) (ps : List ℕ) → new ≡ old ++ texts_at T ps → length new ≡ length old + length ps
size_more old new T ps h = ap length h ∙ length-append old (texts_at T ps) ∙ ap (λ z. length old + z) (map_length (text_at T) ps)
