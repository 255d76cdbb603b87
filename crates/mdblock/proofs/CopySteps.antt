-- Copies of blocks and items one after the other, each with its texts.
use Rattle.std.proofs.Common.{◌≡◌, ℕ, suc, ◌+◌, ◌<◌, ◌≤◌, List, [], ◌∷◌, ◌++◌, length, drop, refl, sym, ◌∙◌, ap, subst, arith}
use Rattle.std.proofs.lemmas.List.{drop_all}
use Rattle.std.proofs.Math.ListN.{get_or}
use Rattle.std.proofs.Math.Seq.{drop-cons}
use Rattle.blockspec.specs.BlockTree.{Block, Blocks, no_blocks, block, Items, no_items, item}
use Rattle.mdblock.specs.BlockView.{block_view, blocks_view, item_view, items_view}
use Rattle.mdblock.specs.Copies.{block_positions, blocks_positions, items_positions, copied_block, copied_blocks, copied_items, texts_at}
use Rattle.mdblock.specs.Positions.{ItemsIn}
use Rattle.mdblock.specs.held.TreesBehind.{blocks_before, placed_before}
use Rattle.mdblock.specs.declared.blocks.Block as b
use Rattle.mdblock.specs.declared.blocks.Item as i
use Rattle.mdblock.proofs.CopyLaws.{items_in, size_more, texts_more}
use Rattle.mdblock.proofs.Views.{pushed_blocks, pushed_items}

pub next_first : {A : Type 0} (xs : List A) (n : ℕ) (x : A) → n < length xs → x ≡ get_or xs n x → drop n xs ≡ x ∷ drop (n + 1) xs
next_first xs n x lt is =
    let e : suc n ≡ n + 1 = omega arith in
    drop-cons xs n x lt ∙ ap (λ z. z ∷ drop (suc n) xs) (sym is) ∙ ap (λ z. x ∷ drop z xs) e

block_assoc : (front : Blocks) (x : Block) (rest : Blocks) → blocks_before (blocks_before front (block x no_blocks)) rest ≡ blocks_before front (block x rest)
block_assoc no_blocks x rest = refl
block_assoc (block y front) x rest = ap (block y) (block_assoc front x rest)

item_assoc : (front : Items) (x : Blocks) (rest : Items) → placed_before (placed_before front (item x no_items)) rest ≡ placed_before front (item x rest)
item_assoc no_items x rest = refl
item_assoc (item y front) x rest = ap (item y) (item_assoc front x rest)

pub no_blocks_behind : (front : Blocks) → blocks_before front no_blocks ≡ front
no_blocks_behind no_blocks = refl
no_blocks_behind (block x front) = ap (block x) (no_blocks_behind front)

pub no_items_behind : (front : Items) → placed_before front no_items ≡ front
no_items_behind no_items = refl
no_items_behind (item x front) = ap (item x) (no_items_behind front)

-- once all are copied
pub all_blocks_copied : (copies all : List b.Block) (n many : ℕ) (whole : Blocks) → length all ≤ n →
    blocks_before (blocks_view copies) (copied_blocks many (blocks_view (drop n all))) ≡ whole → blocks_view copies ≡ whole
all_blocks_copied copies all n many whole past was =
    sym (no_blocks_behind (blocks_view copies)) ∙ ap (λ z. blocks_before (blocks_view copies) (copied_blocks many (blocks_view z))) (sym (drop_all n all past))
    ∙ was

pub all_items_copied : (copies all : List i.Item) (n many : ℕ) (whole : Items) → length all ≤ n →
    placed_before (items_view copies) (copied_items many (items_view (drop n all))) ≡ whole → items_view copies ≡ whole
all_items_copied copies all n many whole past was =
    sym (no_items_behind (items_view copies)) ∙ ap (λ z. placed_before (items_view copies) (copied_items many (items_view z))) (sym (drop_all n all past)) ∙ was

-- how many texts stand before the next copy
pub more_before : (before : ℕ) (old new T : List (List ℕ)) (ps : List ℕ) → new ≡ old ++ texts_at T ps → before + length new ≡ (before + length old) + length ps
more_before before old new T ps is = let e = size_more old new T ps is in omega (arith, e)

pub block_copied : (copies made : List b.Block) (all : List b.Block) (copy x : b.Block) (n before : ℕ) (old new T : List (List ℕ)) (whole : Blocks) → n < length all → x ≡ get_or all n x →
    made ≡ copies ++ copy ∷ [] → block_view copy ≡ copied_block (before + length old) (block_view x) → new ≡ old ++ texts_at T (block_positions (block_view x)) →
    blocks_before (blocks_view copies) (copied_blocks (before + length old) (blocks_view (drop n all))) ≡ whole →
    blocks_before (blocks_view made) (copied_blocks (before + length new) (blocks_view (drop (n + 1) all))) ≡ whole
block_copied copies made all copy x n before old new T whole lt is pushed copy_is new_is was =
    let R = blocks_view (drop (n + 1) all) in
    let m = before + length old in
    let k = before + length new in
    ap (λ z. blocks_before (blocks_view z) (copied_blocks k R)) pushed
    ∙ ap (λ z. blocks_before z (copied_blocks k R)) (pushed_blocks copies copy)
    ∙ block_assoc (blocks_view copies) (block_view copy) (copied_blocks k R)
    ∙ ap (λ z. blocks_before (blocks_view copies) (block z (copied_blocks k R))) copy_is
    ∙ ap (λ z. blocks_before (blocks_view copies) (block (copied_block m (block_view x)) (copied_blocks z R))) (more_before before old new T (block_positions (block_view x)) new_is)
    ∙ ap (λ z. blocks_before (blocks_view copies) (copied_blocks m (blocks_view z))) (sym (next_first all n x lt is))
    ∙ was

pub block_texts : (all : List b.Block) (x : b.Block) (n : ℕ) (old new T whole : List (List ℕ)) → n < length all → x ≡ get_or all n x → new ≡ old ++ texts_at T (block_positions (block_view x)) →
    old ++ texts_at T (blocks_positions (blocks_view (drop n all))) ≡ whole → new ++ texts_at T (blocks_positions (blocks_view (drop (n + 1) all))) ≡ whole
block_texts all x n old new T whole lt is new_is was =
    texts_more old new T (block_positions (block_view x)) (blocks_positions (blocks_view (drop (n + 1) all))) new_is
    ∙ ap (λ z. old ++ texts_at T (blocks_positions (blocks_view z))) (sym (next_first all n x lt is))
    ∙ was

pub item_placed : (copies made : List i.Item) (all : List i.Item) (copy x : i.Item) (n m k : ℕ) (whole : Items) → n < length all → x ≡ get_or all n x →
    made ≡ copies ++ copy ∷ [] → item_view copy ≡ copied_blocks m (item_view x) → k ≡ m + length (blocks_positions (item_view x)) →
    placed_before (items_view copies) (copied_items m (items_view (drop n all))) ≡ whole →
    placed_before (items_view made) (copied_items k (items_view (drop (n + 1) all))) ≡ whole
item_placed copies made all copy x n m k whole lt is pushed copy_is k_is was =
    let R = items_view (drop (n + 1) all) in
    ap (λ z. placed_before (items_view z) (copied_items k R)) pushed
    ∙ ap (λ z. placed_before z (copied_items k R)) (pushed_items copies copy)
    ∙ item_assoc (items_view copies) (item_view copy) (copied_items k R)
    ∙ ap (λ z. placed_before (items_view copies) (item z (copied_items k R))) copy_is
    ∙ ap (λ z. placed_before (items_view copies) (item (copied_blocks m (item_view x)) (copied_items z R))) k_is
    ∙ ap (λ z. placed_before (items_view copies) (copied_items m (items_view z))) (sym (next_first all n x lt is))
    ∙ was

pub item_texts : (all : List i.Item) (x : i.Item) (n : ℕ) (old new T whole : List (List ℕ)) → n < length all → x ≡ get_or all n x → new ≡ old ++ texts_at T (blocks_positions (item_view x)) →
    old ++ texts_at T (items_positions (items_view (drop n all))) ≡ whole → new ++ texts_at T (items_positions (items_view (drop (n + 1) all))) ≡ whole
item_texts all x n old new T whole lt is new_is was =
    texts_more old new T (blocks_positions (item_view x)) (items_positions (items_view (drop (n + 1) all))) new_is
    ∙ ap (λ z. old ++ texts_at T (items_positions (items_view z))) (sym (next_first all n x lt is))
    ∙ was

items_both : (n : ℕ) (xs ys : List i.Item) → ItemsIn n (items_view xs) → ItemsIn n (items_view ys) → ItemsIn n (items_view (xs ++ ys))
items_both n [] ys v w = w
items_both n (x ∷ xs) ys v w = (v.0, items_both n xs ys v.1 w)

-- copies of two parts name none but the texts that were copied
pub copies_within : (one two both : List i.Item) (is js : Items) (first then T U : List (List ℕ)) (m : ℕ) → both ≡ one ++ two → items_view one ≡ copied_items 0 is → items_view two ≡ copied_items (length first) js →
    first ≡ texts_at T (items_positions is) → then ≡ first ++ texts_at U (items_positions js) → m ≡ length then → ItemsIn m (items_view both)
copies_within one two both is js first then T U m both_is one_is two_is first_is then_is m_is =
    let a = size_more [] first T (items_positions is) first_is in
    let b = size_more first then U (items_positions js) then_is in
    subst (λ z. ItemsIn m (items_view z)) (sym both_is)
    (items_both m one two (subst (ItemsIn m) (sym one_is) (items_in 0 m is (omega (arith, a, b, m_is)))) (subst (ItemsIn m) (sym two_is) (items_in (length first) m js (omega (arith, b, m_is)))))
