-- The unit of a list that goes on with the later items of another.
use Rattle.std.proofs.Common.{◌≡◌, ℕ, suc, ◌+◌, Bool, List, [], ◌++◌, drop, length, ◌≤◌, sym, ◌∙◌, ap, arith, length-append}
use Rattle.std.proofs.Math.Seq.{take-append_seam, drop-append_seam}
use Rattle.std.proofs.lemmas.List.{append-nil}
use Rattle.std.specs.List.{range_with_len}
use Rattle.std.specs.Prelude.{take}
use Rattle.mdleaf.specs.DefinedLinks.{LinkDefinition}
use Rattle.blockspec.specs.BlockTree.{ListKind, list, Blocks, no_blocks, block, Items}
use Rattle.blockspec.specs.Lists.{items_before}
use Rattle.blockspec.specs.NodeTree.{ItemNodes, no_nodes, list_node, texts_in, texts_in_items, definitions_in, definitions_in_items, placed, placed_items, unit_of}
use Rattle.blockspec.specs.UnitTree.{UnitTree}
use Rattle.blockspec.specs.TopBlocks.{ListItem, nodes_of_items}
use Rattle.blockspec.proofs.UnitsMeet.{texts_together, definitions_together, list_definitions, list_texts}
use Rattle.mdblock.specs.Copies.{copied_items, items_positions, texts_at}
use Rattle.mdblock.specs.Spliced.{drop_items, front_unit, spliced_unit}
use Rattle.mdblock.specs.held.TreesBehind.{placed_before}
use Rattle.mdblock.proofs.CopyLaws.{items_placed_copied, items_placed_positions, range_length, texts_there}
use Rattle.mdblock.proofs.PlacedNodes.{placed_items_before}
use Rattle.mdblock.proofs.SingleItems.{IsSingle, AreSingle, all_taken, front_dropped}

-- a list alone
abbrev pub list_unit : ListKind → (tight : Bool) → ItemNodes → UnitTree
list_unit kind tight items = unit_of (list_node kind tight items no_nodes)

abbrev pub texts_of : ItemNodes → ℕ
texts_of items = length (texts_in_items items)

abbrev pub definitions_of : ItemNodes → ℕ
definitions_of items = length (definitions_in_items items)

abbrev unit_tree : Blocks → List LinkDefinition → List (List ℕ) → UnitTree
unit_tree blocks definitions texts = record { blocks = blocks; definitions = definitions; texts = texts }

pub same_unit : (b c : Blocks) (d f : List LinkDefinition) (t u : List (List ℕ)) → b ≡ c → d ≡ f → t ≡ u → unit_tree b d t ≡ unit_tree c f u
same_unit b c d f t u hb hd ht = ap (λ z. unit_tree z d t) hb ∙ ap (λ z. unit_tree c z t) hd ∙ ap (unit_tree c f) ht

-- copies of both parts
abbrev pub both_items : (kept later : Items) → Items
both_items kept later = placed_before (copied_items 0 kept) (copied_items (length (items_positions kept)) later)

pub items_spliced : (n : ℕ) (N P : ItemNodes) → both_items (placed_items 0 N) (placed_items n P) ≡ placed_items 0 (items_before N P)
items_spliced n N P =
    let kept = placed_items 0 N in
    let later = placed_items n P in
    let size : length (items_positions kept) ≡ 0 + texts_of N = ap length (items_placed_positions 0 N) ∙ range_length 0 (texts_of N) ∙ (let z : texts_of N ≡ 0 + texts_of N = omega arith in z) in
    ap (λ z. placed_before z (copied_items (length (items_positions kept)) later)) (items_placed_copied 0 0 N)
    ∙ ap (λ z. placed_before kept (copied_items z later)) size
    ∙ ap (placed_before kept) (items_placed_copied (0 + texts_of N) n P)
    ∙ sym (placed_items_before 0 N P)

pub texts_first : (N : ItemNodes) (texts : List (List ℕ)) → texts_at (texts_in_items N ++ texts) (items_positions (placed_items 0 N)) ≡ texts_in_items N
texts_first N texts = ap (texts_at (texts_in_items N ++ texts)) (items_placed_positions 0 N) ∙ texts_there [] (texts_in_items N) texts

pub texts_kept : (N M : ItemNodes) → texts_at (texts_in_items (items_before N M) ++ []) (items_positions (placed_items 0 N)) ≡ texts_in_items N
texts_kept N M =
    ap (λ z. texts_at z (items_positions (placed_items 0 N))) (append-nil (texts_in_items (items_before N M)) ∙ texts_together N M) ∙ texts_first N (texts_in_items M)

texts_later : (O P : ItemNodes) → texts_at (texts_in_items (items_before O P) ++ []) (items_positions (placed_items (0 + texts_of O) P)) ≡ texts_in_items P
texts_later O P =
    let at : 0 + texts_of O ≡ texts_of O = omega arith in
    ap (λ z. texts_at z (items_positions (placed_items (0 + texts_of O) P))) (append-nil (texts_in_items (items_before O P)) ∙ texts_together O P)
    ∙ ap (texts_at (texts_in_items O ++ texts_in_items P)) (items_placed_positions (0 + texts_of O) P)
    ∙ ap (λ z. texts_at (texts_in_items O ++ texts_in_items P) (range_with_len z (texts_of P))) at
    ∙ ap (λ z. texts_at (texts_in_items O ++ z) (range_with_len (texts_of O) (texts_of P))) (sym (append-nil (texts_in_items P)))
    ∙ texts_there (texts_in_items O) (texts_in_items P) []

pub definitions_kept : (N M : ItemNodes) → take (definitions_of N) (definitions_in_items (items_before N M) ++ []) ≡ definitions_in_items N
definitions_kept N M =
    ap (take (definitions_of N)) (append-nil (definitions_in_items (items_before N M)) ∙ definitions_together N M)
    ∙ take-append_seam (definitions_in_items N) (definitions_in_items M)

definitions_later : (O P : ItemNodes) → drop (definitions_of O) (definitions_in_items (items_before O P) ++ []) ≡ definitions_in_items P
definitions_later O P =
    ap (drop (definitions_of O)) (append-nil (definitions_in_items (items_before O P)) ∙ definitions_together O P)
    ∙ drop-append_seam (definitions_in_items O) (definitions_in_items P)

-- the items of one list, and behind them those of another behind its own first ones
pub unit_of_both : (tight : Bool) (kind other : ListKind) (t u : Bool) (first : ListItem) (later : List ListItem) (defined : List LinkDefinition) (texts : List (List ℕ)) (old_first : ListItem) (old_later : List ListItem) (P : ItemNodes) →
    IsSingle first.nodes → AreSingle later → IsSingle old_first.nodes → AreSingle old_later →
    (let N = nodes_of_items first later in
    let O = nodes_of_items old_first old_later in
    spliced_unit tight (suc (length later)) (suc (length old_later)) (definitions_of N) (definitions_of O) (front_unit kind t N defined texts) (list_unit other u (items_before O P))
    ≡ list_unit kind tight (items_before N P))
unfolding placed placed_items texts_in texts_in_items definitions_in definitions_in_items
unit_of_both tight kind other t u first later defined texts old_first old_later P a b c d =
    let N = nodes_of_items first later in
    let O = nodes_of_items old_first old_later in
    let T = texts_in_items N ++ texts in
    let U = texts_in_items (items_before O P) ++ [] in
    let both = placed_items 0 (items_before O P) in
    let left = drop_items (suc (length old_later)) both in
    let kept = all_taken 0 first later a b in
    let rest = front_dropped 0 old_first old_later P c d in
    same_unit _ _ _ _ _ _
    (ap (λ z. block (list kind tight z) no_blocks)
    (ap (λ z. both_items z left) kept ∙ ap (λ z. both_items (placed_items 0 N) z) rest ∙ items_spliced (0 + texts_of O) N P))
    (ap (λ z. z ++ drop (definitions_of O) (definitions_in_items (items_before O P) ++ [])) (take-append_seam (definitions_in_items N) defined)
    ∙ ap (λ z. definitions_in_items N ++ z) (definitions_later O P)
    ∙ sym (append-nil (definitions_in_items (items_before N P)) ∙ definitions_together N P))
    (ap (λ z. texts_at T (items_positions z) ++ texts_at U (items_positions left)) kept
    ∙ ap (λ z. texts_at T (items_positions (placed_items 0 N)) ++ texts_at U (items_positions z)) rest
    ∙ ap (λ z. z ++ texts_at U (items_positions (placed_items (0 + texts_of O) P))) (texts_first N texts)
    ∙ ap (λ z. texts_in_items N ++ z) (texts_later O P)
    ∙ sym (append-nil (texts_in_items (items_before N P)) ∙ texts_together N P))

-- its last texts are those of the other behind its own first items
pub list_texts_behind : (kind : ListKind) (t : Bool) (O P : ItemNodes) → drop (texts_of O) (list_unit kind t (items_before O P)).texts ≡ texts_in_items P
list_texts_behind kind t O P =
    ap (drop (texts_of O)) (list_texts kind t (items_before O P) ∙ texts_together O P) ∙ drop-append_seam (texts_in_items O) (texts_in_items P)

pub list_texts_both : (kind : ListKind) (t : Bool) (N P : ItemNodes) → (list_unit kind t (items_before N P)).texts ≡ texts_in_items N ++ texts_in_items P
list_texts_both kind t N P = list_texts kind t (items_before N P) ∙ texts_together N P

-- ---- they have no more texts and definitions than there are in front and in the old list

pub few_texts : (kind other : ListKind) (t u : Bool) (N O P : ItemNodes) (defined : List LinkDefinition) (texts : List (List ℕ)) (front old : UnitTree) (most : ℕ) →
    front ≡ front_unit kind t N defined texts → old ≡ list_unit other u (items_before O P) → length front.texts + length old.texts ≤ most → texts_of (items_before N P) ≤ most
few_texts kind other t u N O P defined texts front old most front_is old_is few =
    let a : texts_of (items_before N P) ≡ texts_of N + texts_of P = ap length (texts_together N P) ∙ length-append (texts_in_items N) (texts_in_items P) in
    let b : length front.texts ≡ texts_of N + length texts = ap (λ (v : UnitTree). length v.texts) front_is ∙ length-append (texts_in_items N) texts in
    let c : length old.texts ≡ texts_of O + texts_of P =
    ap (λ (v : UnitTree). length v.texts) old_is ∙ ap length (list_texts_both other u O P) ∙ length-append (texts_in_items O) (texts_in_items P) in
    omega (arith, a, b, c, few)

pub few_definitions : (kind other : ListKind) (t u : Bool) (N O P : ItemNodes) (defined : List LinkDefinition) (texts : List (List ℕ)) (front old : UnitTree) (most : ℕ) →
    front ≡ front_unit kind t N defined texts → old ≡ list_unit other u (items_before O P) → length front.definitions + length old.definitions ≤ most →
    definitions_of (items_before N P) ≤ most
few_definitions kind other t u N O P defined texts front old most front_is old_is few =
    let a : definitions_of (items_before N P) ≡ definitions_of N + definitions_of P = ap length (definitions_together N P) ∙ length-append (definitions_in_items N) (definitions_in_items P) in
    let b : length front.definitions ≡ definitions_of N + length defined = ap (λ (v : UnitTree). length v.definitions) front_is ∙ length-append (definitions_in_items N) defined in
    let c : length old.definitions ≡ definitions_of O + definitions_of P =
    ap (λ (v : UnitTree). length v.definitions) old_is
    ∙ ap length (list_definitions other u (items_before O P) ∙ definitions_together O P)
    ∙ length-append (definitions_in_items O) (definitions_in_items P) in
    omega (arith, a, b, c, few)
