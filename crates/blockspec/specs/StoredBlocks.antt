-- How the logic stores a tree of blocks: for each node a tag and what it holds, then what is inside it, then what comes after it.
use Rattle.std.specs.Prelude.{◌≡◌, ℕ, List, [], ◌∷◌, refl, cond, ◌==◌, Bool, true, false, Option, Some, None}
use Rattle.std.proofs.Common.{ap, ◌∙◌}
use Rattle.std.specs.Coded.{Coded, code_by, coded×, coded_ℕ, coded_list}
use Rattle.mdscan.specs.declared.delimiter_rows.Align.{Align}
use Rattle.mdscan.specs.declared.delimiter_rows.Align.TheVariants.{Plain, Left, Center, Right}
use Rattle.blockspec.specs.BlockTree.{ListKind, bullet, ordered, Block, paragraph, heading, thematic_break, code_block, html_block, block_quote, list, table, Blocks, no_blocks, block, Items, no_items, item}

-- a tag, two texts or lists of numbers, and rows of numbers
abbrev pub Mark : Type 0
Mark = ℕ × (List ℕ × (List ℕ × List (List ℕ)))

abbrev node : ℕ → List ℕ → List ℕ → List (List ℕ) → Mark
node tag xs ys rows = (tag, (xs, (ys, rows)))

abbrev align_number : Align → ℕ
align_number Plain = 0
align_number Left = 1
align_number Center = 2
align_number Right = 3

abbrev align_from : ℕ → Align
align_from n = cond (n == 0) Plain (cond (n == 1) Left (cond (n == 2) Center Right))

abbrev numbers : List Align → List ℕ
numbers [] = []
numbers (a ∷ rest) = align_number a ∷ numbers rest

abbrev aligns_from : List ℕ → List Align
aligns_from [] = []
aligns_from (n ∷ ns) = align_from n ∷ aligns_from ns

align_from_number : (a : Align) → align_from (align_number a) ≡ a
align_from_number Plain = refl
align_from_number Left = refl
align_from_number Center = refl
align_from_number Right = refl

aligns_numbers : (rest : List Align) → aligns_from (numbers rest) ≡ rest
aligns_numbers [] = refl
aligns_numbers (a ∷ rest) = ap (λ b. b ∷ aligns_from (numbers rest)) (align_from_number a) ∙ ap (λ bs. a ∷ bs) (aligns_numbers rest)

abbrev task_number : Option Bool → ℕ
task_number None = 0
task_number (Some false) = 1
task_number (Some true) = 2

abbrev task_from : ℕ → Option Bool
task_from n = cond (n == 0) None (cond (n == 1) (Some false) (Some true))

task_from_number : (t : Option Bool) → task_from (task_number t) ≡ t
task_from_number None = refl
task_from_number (Some false) = refl
task_from_number (Some true) = refl

abbrev bit : Bool → ℕ
bit false = 0
bit true = 1

bit_number : (b : Bool) → bit b == 1 ≡ b
bit_number false = refl
bit_number true = refl

abbrev kind_numbers : ListKind → List ℕ
kind_numbers (bullet m) = m ∷ []
kind_numbers (ordered d s) = d ∷ s ∷ []

abbrev kind_from : List ℕ → ListKind
kind_from [] = bullet 0
kind_from (m ∷ []) = bullet m
kind_from (d ∷ s ∷ rest) = ordered d s

kind_from_numbers : (k : ListKind) → kind_from (kind_numbers k) ≡ k
kind_from_numbers (bullet m) = refl
kind_from_numbers (ordered d s) = refl

abbrev mutual
  stored : Blocks → List Mark → List Mark
  stored no_blocks ms = node 0 [] [] [] ∷ ms
  stored (block (paragraph at task) bs) ms = node 1 (at ∷ []) (task_number task ∷ []) [] ∷ stored bs ms
  stored (block (heading level at) bs) ms = node 2 (level ∷ []) (at ∷ []) [] ∷ stored bs ms
  stored (block thematic_break bs) ms = node 3 [] [] [] ∷ stored bs ms
  stored (block (code_block lang meta body) bs) ms = node 4 lang meta (body ∷ []) ∷ stored bs ms
  stored (block (html_block lines) bs) ms = node 5 lines [] [] ∷ stored bs ms
  stored (block (block_quote inner) bs) ms = node 6 [] [] [] ∷ stored inner (stored bs ms)
  stored (block (list kind tight is) bs) ms = node 7 (kind_numbers kind) (bit tight ∷ []) [] ∷ stored_items is (stored bs ms)
  stored (block (table aligns head rows) bs) ms = node 8 (numbers aligns) head rows ∷ stored bs ms

  stored_items : Items → List Mark → List Mark
  stored_items no_items ms = node 9 [] [] [] ∷ ms
  stored_items (item bs is) ms = node 10 [] [] [] ∷ stored bs (stored_items is ms)

-- the trees that were read back so far, the leftmost first
pub data Part : Type 0 where
  blocks_part : Blocks → Part
  items_part : Items → Part

abbrev before : Block → List Part → List Part
before b [] = []
before b (blocks_part bs ∷ rest) = blocks_part (block b bs) ∷ rest
before b (items_part is ∷ rest) = []

abbrev in_quote : List Part → List Part
in_quote [] = []
in_quote (items_part is ∷ rest) = []
in_quote (blocks_part inner ∷ rest) = before (block_quote inner) rest

abbrev in_list : ListKind → Bool → List Part → List Part
in_list kind tight [] = []
in_list kind tight (blocks_part bs ∷ rest) = []
in_list kind tight (items_part is ∷ rest) = before (list kind tight is) rest

abbrev with_item : Blocks → List Part → List Part
with_item bs [] = []
with_item bs (blocks_part other ∷ rest) = []
with_item bs (items_part is ∷ rest) = items_part (item bs is) ∷ rest

abbrev in_item : List Part → List Part
in_item [] = []
in_item (items_part is ∷ rest) = []
in_item (blocks_part bs ∷ rest) = with_item bs rest

abbrev head_of : List ℕ → ℕ
head_of [] = 0
head_of (x ∷ xs) = x

abbrev first_row : List (List ℕ) → List ℕ
first_row [] = []
first_row (row ∷ rows) = row

abbrev made : ℕ → List ℕ → List ℕ → List (List ℕ) → List Part → List Part
made tag xs ys rows ps =
    cond (tag == 0) (blocks_part no_blocks ∷ ps)
    (cond (tag == 1) (before (paragraph (head_of xs) (task_from (head_of ys))) ps)
    (cond (tag == 2) (before (heading (head_of xs) (head_of ys)) ps)
    (cond (tag == 3) (before thematic_break ps)
    (cond (tag == 4) (before (code_block xs ys (first_row rows)) ps)
    (cond (tag == 5) (before (html_block xs) ps)
    (cond (tag == 6) (in_quote ps)
    (cond (tag == 7) (in_list (kind_from xs) (head_of ys == 1) ps)
    (cond (tag == 8) (before (table (aligns_from xs) ys rows) ps)
    (cond (tag == 9) (items_part no_items ∷ ps) (in_item ps))))))))))

abbrev restored : List Mark → List Part
restored [] = []
restored (m ∷ ms) = made m.0 m.1.0 m.1.1.0 m.1.1.1 (restored ms)

abbrev first : List Part → Blocks
first [] = no_blocks
first (items_part is ∷ rest) = no_blocks
first (blocks_part bs ∷ rest) = bs

mutual
  pub restored_stored : (bs : Blocks) (ms : List Mark) → restored (stored bs ms) ≡ blocks_part bs ∷ restored ms
  restored_stored no_blocks ms = refl
  restored_stored (block (paragraph at task) bs) ms =
      ap (before (paragraph at (task_from (task_number task)))) (restored_stored bs ms)
      ∙ ap (λ t. blocks_part (block (paragraph at t) bs) ∷ restored ms) (task_from_number task)
  restored_stored (block (heading level at) bs) ms = ap (before (heading level at)) (restored_stored bs ms)
  restored_stored (block thematic_break bs) ms = ap (before thematic_break) (restored_stored bs ms)
  restored_stored (block (code_block lang meta body) bs) ms = ap (before (code_block lang meta body)) (restored_stored bs ms)
  restored_stored (block (html_block lines) bs) ms = ap (before (html_block lines)) (restored_stored bs ms)
  restored_stored (block (block_quote inner) bs) ms =
      ap in_quote (restored_stored inner (stored bs ms)) ∙ ap (before (block_quote inner)) (restored_stored bs ms)
  restored_stored (block (list kind tight is) bs) ms =
      ap (in_list (kind_from (kind_numbers kind)) (bit tight == 1)) (items_stored is (stored bs ms))
      ∙ ap (before (list (kind_from (kind_numbers kind)) (bit tight == 1) is)) (restored_stored bs ms)
      ∙ ap (λ k. blocks_part (block (list k (bit tight == 1) is) bs) ∷ restored ms) (kind_from_numbers kind)
      ∙ ap (λ t. blocks_part (block (list kind t is) bs) ∷ restored ms) (bit_number tight)
  restored_stored (block (table aligns head rows) bs) ms =
      ap (before (table (aligns_from (numbers aligns)) head rows)) (restored_stored bs ms)
      ∙ ap (λ a. blocks_part (block (table a head rows) bs) ∷ restored ms) (aligns_numbers aligns)

  pub items_stored : (is : Items) (ms : List Mark) → restored (stored_items is ms) ≡ items_part is ∷ restored ms
  items_stored no_items ms = refl
  items_stored (item bs is) ms = ap in_item (restored_stored bs (stored_items is ms)) ∙ ap (with_item bs) (items_stored is ms)

abbrev pub blocks_code : Coded Blocks
blocks_code =
    code_by (List Mark) (coded_list (coded× coded_ℕ (coded× (coded_list coded_ℕ) (coded× (coded_list coded_ℕ) (coded_list (coded_list coded_ℕ))))))
    (λ bs. stored bs []) (λ ms. first (restored ms)) (λ bs. ap first (restored_stored bs []))
