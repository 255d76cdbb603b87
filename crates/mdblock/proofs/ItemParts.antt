-- Parts of items, as they are seen; and the items that a list's later items are told by.
use Rattle.std.proofs.Common.{◌||◌, map, ◌≡◌, ℕ, zero, suc, ◌-◌, Bool, List, [], ◌∷◌, ◌++◌, drop, length, refl, ◌∙◌, ap, arith, length-append}
use Rattle.std.specs.List.{list_any}
use Rattle.std.specs.Prelude.{take}
use Rattle.mdblock.specs.FoundLists.{join_mark}
use Rattle.mdblock.specs.declared.units.Join as declared
use Rattle.blockspec.specs.BlockTree.{paragraph, heading, thematic_break, code_block, html_block, block_quote, list, table, Blocks, no_blocks, block, Items, item}
use Rattle.blockspec.specs.ItemMarks.{ItemMark}
use Rattle.mdblock.specs.BlockView.{item_view, items_view}
use Rattle.mdblock.specs.Spliced.{as_first_list, first_kind, list_of_kind, take_items, drop_items, mark_at}
use Rattle.mdblock.specs.held.TreesBehind.{placed_before}
use Rattle.mdblock.specs.declared.blocks.Item as i

pub items_taken : (n : ℕ) (is : List i.Item) → items_view (take n is) ≡ take_items n (items_view is)
items_taken zero is = refl
items_taken (suc n) [] = refl
items_taken (suc n) (x ∷ is) = ap (item (item_view x)) (items_taken n is)

pub items_dropped : (n : ℕ) (is : List i.Item) → items_view (drop n is) ≡ drop_items n (items_view is)
items_dropped zero is = refl
items_dropped (suc n) [] = refl
items_dropped (suc n) (x ∷ is) = items_dropped n is

pub items_together : (xs ys : List i.Item) → items_view (xs ++ ys) ≡ placed_before (items_view xs) (items_view ys)
items_together [] ys = refl
items_together (x ∷ xs) ys = ap (item (item_view x)) (items_together xs ys)

pub mark_there : (front : List ItemMark) (mark : ItemMark) (behind : List ItemMark) → mark_at (front ++ mark ∷ behind) (length front) ≡ mark
mark_there [] mark behind = refl
mark_there (m ∷ front) mark behind = mark_there front mark behind

pub last_mark : (front : List ItemMark) (mark : ItemMark) → mark_at (front ++ mark ∷ []) (length (front ++ mark ∷ []) - 1) ≡ mark
last_mark front mark =
    let n : length (front ++ mark ∷ []) - 1 ≡ length front = (let p = length-append front (mark ∷ []) in omega (arith, p)) in
    ap (λ z. mark_at (front ++ mark ∷ []) z) n ∙ mark_there front mark []

-- whether one makes its list loose
pub loose_mapped : (js : List declared.Join) → list_any (λ (j : declared.Join). j.loose) js ≡ list_any (λ (mark : ItemMark). mark.loose) (map join_mark js)
loose_mapped [] = refl
loose_mapped (j ∷ js) = ap (λ z. j.loose || z) (loose_mapped js)

-- items as a list of the kind of the one that stands first
pub kind_list : (tight : Bool) (is : Items) (bs : Blocks) → list_of_kind tight is (first_kind bs) ≡ as_first_list tight is bs
kind_list tight is no_blocks = refl
kind_list tight is (block (paragraph text task) rest) = refl
kind_list tight is (block (heading level text) rest) = refl
kind_list tight is (block thematic_break rest) = refl
kind_list tight is (block (code_block lang meta body) rest) = refl
kind_list tight is (block (html_block lines) rest) = refl
kind_list tight is (block (block_quote inner) rest) = refl
kind_list tight is (block (list kind was items) rest) = refl
kind_list tight is (block (table aligns head rows) rest) = refl
