-- Texts with positions one after the other, in document order: copies of them are the same, and they are the first ones that there are.
use Rattle.std.proofs.Common.{◌≡◌, ℕ, zero, suc, ◌+◌, ◌<◌, ◌≤◌, List, [], ◌∷◌, ◌++◌, length, drop, refl, sym, ◌∙◌, ap, subst, append_assoc, arith, length-append}
use Rattle.std.specs.List.{AllByRecursion, flat_map, range_with_len}
use Rattle.std.specs.Prelude.{take}
use Rattle.blockspec.specs.BlockTree.{Block, paragraph, heading, thematic_break, code_block, html_block, block_quote, list, table, Blocks, no_blocks, block, Items, no_items, item}
use Rattle.mdblock.specs.Copies.{IsBehind, block_positions, blocks_positions, items_positions, copied_rows, copied_block, copied_blocks, copied_items, text_at, texts_at}
use Rattle.mdblock.proofs.CopyLaws.{first_there}

pub behind_both : (at mid end : ℕ) (ps qs : List ℕ) → IsBehind at ps mid → IsBehind mid qs end → IsBehind at (ps ++ qs) end
behind_both at mid end [] qs w v = subst (λ z. IsBehind z qs end) w v
behind_both at mid end (p ∷ ps) qs w v = (w.0, behind_both (at + 1) mid end ps qs w.1 v)

-- both parts of such a row
pub behind_front : (at end : ℕ) (ps qs : List ℕ) → IsBehind at (ps ++ qs) end → IsBehind at ps (at + length ps)
behind_front at end [] qs w = omega arith
behind_front at end (p ∷ ps) qs w =
    let e : (at + 1) + length ps ≡ at + suc (length ps) = omega arith in
    (w.0, subst (IsBehind (at + 1) ps) e (behind_front (at + 1) end ps qs w.1))

behind_rest : (at end : ℕ) (ps qs : List ℕ) → IsBehind at (ps ++ qs) end → IsBehind (at + length ps) qs end
behind_rest at end [] qs w = let e : at ≡ at + 0 = omega arith in subst (λ z. IsBehind z qs end) e w
behind_rest at end (p ∷ ps) qs w =
    let e : (at + 1) + length ps ≡ at + suc (length ps) = omega arith in
    subst (λ z. IsBehind z qs end) e (behind_rest (at + 1) end ps qs w.1)

pub behind_is : (at end : ℕ) (ps : List ℕ) → IsBehind at ps end → end ≡ at + length ps
behind_is at end [] w = omega (arith, w)
behind_is at end (p ∷ ps) w = let e = behind_is (at + 1) end ps w.1 in omega (arith, e)

-- they are below that number
pub all_below : (at end : ℕ) (ps : List ℕ) → IsBehind at ps end → AllByRecursion (λ p. p < end) ps
all_below at end [] w = tt
all_below at end (p ∷ ps) w = let is = w.0 in let e = behind_is (at + 1) end ps w.1 in (omega (arith, is, e), all_below (at + 1) end ps w.1)

-- a row of numbers is one
pub range_behind : (n k : ℕ) → IsBehind n (range_with_len n k) (n + k)
range_behind n zero = omega arith
range_behind n (suc k) = let e : (n + 1) + k ≡ n + suc k = omega arith in (refl, subst (IsBehind (n + 1) (range_with_len (n + 1) k)) e (range_behind (n + 1) k))

-- ---- copies

cells_in_order : (at end : ℕ) (ps : List ℕ) → IsBehind at ps end → range_with_len at (length ps) ≡ ps
cells_in_order at end [] w = refl
cells_in_order at end (p ∷ ps) w = ap (λ z. at ∷ z) (cells_in_order (at + 1) end ps w.1) ∙ ap (λ z. z ∷ ps) (sym w.0)

rows_in_order : (at end : ℕ) (rows : List (List ℕ)) → IsBehind at (flat_map (λ row. row) rows) end → copied_rows at rows ≡ rows
rows_in_order at end [] w = refl
rows_in_order at end (row ∷ rows) w =
    let all = flat_map (λ row. row) rows in
    ap (λ z. z ∷ copied_rows (at + length row) rows) (cells_in_order at (at + length row) row (behind_front at end row all w))
    ∙ ap (λ z. row ∷ z) (rows_in_order (at + length row) end rows (behind_rest at end row all w))

mutual
  block_in_order : (at end : ℕ) (b : Block) → IsBehind at (block_positions b) end → copied_block at b ≡ b
  block_in_order at end (paragraph text task) w = ap (λ z. paragraph z task) (sym w.0)
  block_in_order at end (heading level text) w = ap (heading level) (sym w.0)
  block_in_order at end thematic_break w = refl
  block_in_order at end (code_block lang meta body) w = refl
  block_in_order at end (html_block lines) w = refl
  block_in_order at end (block_quote bs) w = ap block_quote (blocks_in_order at end bs w)
  block_in_order at end (list kind tight is) w = ap (list kind tight) (items_in_order at end is w)
  block_in_order at end (table aligns head rows) w =
      let all = flat_map (λ row. row) rows in
      ap (λ z. table aligns z (copied_rows (at + length head) rows)) (cells_in_order at (at + length head) head (behind_front at end head all w))
      ∙ ap (table aligns head) (rows_in_order (at + length head) end rows (behind_rest at end head all w))

  blocks_in_order : (at end : ℕ) (bs : Blocks) → IsBehind at (blocks_positions bs) end → copied_blocks at bs ≡ bs
  blocks_in_order at end no_blocks w = refl
  blocks_in_order at end (block b bs) w =
      let n = at + length (block_positions b) in
      ap (λ z. block z (copied_blocks n bs)) (block_in_order at n b (behind_front at end (block_positions b) (blocks_positions bs) w))
      ∙ ap (block b) (blocks_in_order n end bs (behind_rest at end (block_positions b) (blocks_positions bs) w))

  pub items_in_order : (at end : ℕ) (is : Items) → IsBehind at (items_positions is) end → copied_items at is ≡ is
  items_in_order at end no_items w = refl
  items_in_order at end (item bs is) w =
      let n = at + length (blocks_positions bs) in
      ap (λ z. item z (copied_items n is)) (blocks_in_order at n bs (behind_front at end (blocks_positions bs) (items_positions is) w))
      ∙ ap (item bs) (items_in_order n end is (behind_rest at end (blocks_positions bs) (items_positions is) w))

-- ---- texts

pub texts_behind : (front texts : List (List ℕ)) (end : ℕ) (ps : List ℕ) → IsBehind (length front) ps end → length ps ≤ length texts → texts_at (front ++ texts) ps ≡ take (length ps) texts
texts_behind front texts end [] w h = refl
texts_behind front [] end (p ∷ ps) w h = absurd (omega (arith, h))
texts_behind front (t ∷ texts) end (p ∷ ps) w h =
    let all : front ++ t ∷ texts ≡ (front ++ t ∷ []) ++ texts = sym (append_assoc front (t ∷ []) texts) in
    let size : length front + 1 ≡ length (front ++ t ∷ []) = sym (length-append front (t ∷ [])) in
    ap (λ z. text_at (front ++ t ∷ texts) z ∷ texts_at (front ++ t ∷ texts) ps) w.0
    ∙ ap (λ z. z ∷ texts_at (front ++ t ∷ texts) ps) (first_there front t texts)
    ∙ ap (λ z. t ∷ texts_at z ps) all
    ∙ ap (λ z. t ∷ z) (texts_behind (front ++ t ∷ []) texts end ps (subst (λ z. IsBehind z ps end) size w.1) (omega (arith, h)))

pub texts_in_order : (texts : List (List ℕ)) (end : ℕ) (ps : List ℕ) → IsBehind 0 ps end → end ≤ length texts → texts_at texts ps ≡ take end texts
texts_in_order texts end ps w h =
    let e = behind_is 0 end ps w in
    let size : length ps ≡ end = omega (arith, e) in
    let low : length ps ≤ length texts = omega (arith, e, h) in
    texts_behind [] texts end ps w low ∙ ap (λ z. take z texts) size

-- ---- one more

pub behind_more : {A : Type 0} (W : ℕ → Type 0) (xs : List A) (n next mid : ℕ) (x : A) (ps : List ℕ) (of : List A → List ℕ) → drop n xs ≡ x ∷ drop (n + 1) xs →
    of (x ∷ drop (n + 1) xs) ≡ ps ++ of (drop (n + 1) xs) → ((end : ℕ) → IsBehind next (of (drop n xs)) end → W end) → IsBehind next ps mid →
    (end : ℕ) → IsBehind mid (of (drop (n + 1) xs)) end → W end
behind_more W xs n next mid x ps of cut is was w end v =
    was end (subst (λ z. IsBehind next (of z) end) (sym cut) (subst (λ z. IsBehind next z end) (sym is) (behind_both next mid end ps (of (drop (n + 1) xs)) w v)))
