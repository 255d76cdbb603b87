-- The front of a list in the place of an old list's first items: where it fits, nothing behind it has to change but the lines of later items.
use Rattle.std.proofs.Common.{◌≡◌, ℕ, zero, suc, ◌+◌, ◌-◌, ◌≤◌, ◌<◌, Bool, List, [], ◌∷◌, ◌++◌, Some, drop, length, map, refl, sym, ◌∙◌, ap, append_assoc, subst, arith, length-append}
use Rattle.std.proofs.lemmas.List.{drop-map, map-append, take-append-drop, take-map, take_all, length-drop, length-take-le}
use Rattle.std.proofs.lemmas.List.Edits.{map_over_more}
use Rattle.std.proofs.Math.ListN.{get_or, set}
use Rattle.std.specs.Prelude.{min, take, ◌^◌}
use Rattle.blockspec.specs.BlockTree.{no_blocks, block, Items, no_items, item}
use Rattle.blockspec.specs.ItemMarks.{ItemMark}
use Rattle.blockspec.specs.UnitTree.{UnitTree}
use Rattle.mdblock.specs.BlockView.{block_view, blocks_view, items_view}
use Rattle.mdblock.specs.Copies.{IsBehind, copied_items, items_positions, texts_at}
use Rattle.mdblock.specs.FoundLists.{FoundList, join_mark}
use Rattle.mdblock.specs.Insets.{FitsInto, HasItems, IsAlone, PutsInto, items_between, parts_between, put_blocks}
use Rattle.mdblock.specs.Positions.{BlocksIn, ItemsIn}
use Rattle.mdblock.specs.Spliced.{as_first_list, drop_items, first_items, list_of_kind, mark_at, mark_further, spliced_list, spliced_marks, take_items, tight_list}
use Rattle.mdblock.specs.held.TreesBehind.{placed_before}
use Rattle.mdblock.specs.declared.blocks.Block as b
use Rattle.mdblock.specs.declared.blocks.Item as i
use Rattle.mdblock.specs.declared.units.Join as declared
use Rattle.mdblock.proofs.CopyLaws.{items_in}
use Rattle.mdblock.proofs.FoundParts.{found_of, same_found}
use Rattle.mdblock.proofs.ItemParts.{items_dropped, items_taken, items_together, kind_list}
use Rattle.mdblock.proofs.TextOrder.{behind_is, items_in_order, texts_behind, texts_in_order}

pub has_items : (n : ℕ) (is : List i.Item) → HasItems n (items_view is) → n ≤ length is
has_items zero is w = omega arith
has_items (suc n) [] w = absurd w
has_items (suc n) (x ∷ is) w = let h = has_items n is w in omega (arith, h)

-- texts with positions from one on up to the last are all texts from that position on
texts_from : (texts : List (List ℕ)) (n : ℕ) (ps : List ℕ) → n ≤ length texts → IsBehind n ps (length texts) → texts_at texts ps ≡ drop n texts
texts_from texts n ps low w =
    let front = take n texts in
    let back = drop n texts in
    let all : front ++ back ≡ texts = take-append-drop n texts in
    let size : length front ≡ n = length-take-le n texts low in
    let e = behind_is n (length texts) ps w in
    let both : length front + length back ≡ length texts = sym (length-append front back) ∙ ap length all in
    let many : length ps ≡ length back = omega (arith, size, e, both) in
    ap (λ z. texts_at z ps) (sym all)
    ∙ texts_behind front back (length texts) ps (subst (λ z. IsBehind z ps (length texts)) (sym size) w) (omega (arith, many))
    ∙ ap (λ z. take z back) many
    ∙ take_all (length back) back (omega arith)

-- the list with the front in place
abbrev pub put_list : (front old : FoundList) (k : ℕ) → FoundList
put_list front old k =
    let from = mark_at old.marks k in
    let marks = front.marks ++ map (mark_further from (mark_at front.marks k)) (drop (k + 1) old.marks) in
    found_of old.parted marks front.begin (min (front.lines + (old.lines - from.line - 1)) (2 ^ 64 - 1))
    (put_blocks (tight_list old.parted marks) (k + 1) front.unit.blocks old.unit.blocks)
    old.unit.definitions
    (take from.texts front.unit.texts ++ drop from.texts old.unit.texts)

pub put_is : (front old : FoundList) (k : ℕ) → FitsInto front old k → spliced_list front old k ≡ put_list front old k
put_is front old k w =
    let p = w.puts in
    let F = first_items front.unit.blocks in
    let O = first_items old.unit.blocks in
    let from = mark_at old.marks k in
    let n = from.texts in
    let m = length front.marks in
    let last : m - 1 ≡ k = (let c = w.even.count in omega (arith, c)) in
    let to : mark_at front.marks (m - 1) ≡ mark_at front.marks k = ap (mark_at front.marks) last in
    let marks : spliced_marks front.marks old.marks k ≡ front.marks ++ map (mark_further from (mark_at front.marks k)) (drop (k + 1) old.marks) =
    ap (λ z. front.marks ++ map (mark_further from z) (drop (k + 1) old.marks)) to in
    let T = tight_list old.parted (front.marks ++ map (mark_further from (mark_at front.marks k)) (drop (k + 1) old.marks)) in
    let K = take_items (k + 1) F in
    let L = drop_items (k + 1) O in
    let taken : take_items m F ≡ K = ap (λ z. take_items z F) w.even.count in
    let start = behind_is 0 n (items_positions K) p.first in
    let size : length (items_positions K) ≡ n = omega (arith, start) in
    let end = behind_is n (length old.unit.texts) (items_positions L) p.later in
    let low : n ≤ length old.unit.texts = omega (arith, end) in
    let both : placed_before (copied_items 0 (take_items m F)) (copied_items (length (items_positions (take_items m F))) L) ≡ placed_before K L =
    ap (λ z. placed_before (copied_items 0 z) (copied_items (length (items_positions z)) L)) taken
    ∙ ap (λ z. placed_before z (copied_items (length (items_positions K)) L)) (items_in_order 0 n K p.first)
    ∙ ap (λ z. placed_before K (copied_items z L)) size
    ∙ ap (placed_before K) (items_in_order n (length old.unit.texts) L p.later) in
    same_found front.begin old.parted old.parted _ _ _ _ _ _ _ _ _ _ refl marks refl
    (ap (λ z. as_first_list (tight_list old.parted z) (placed_before (copied_items 0 (take_items m F)) (copied_items (length (items_positions (take_items m F))) L)) front.unit.blocks) marks
    ∙ ap (λ z. as_first_list T z front.unit.blocks) both)
    (ap (λ (z : ItemMark). take z.definitions front.unit.definitions ++ drop from.definitions old.unit.definitions) to
    ∙ ap (λ z. take z front.unit.definitions ++ drop from.definitions old.unit.definitions) w.even.defined
    ∙ ap (λ z. drop z old.unit.definitions) w.even.old_defined)
    (ap (λ z. texts_at front.unit.texts (items_positions z) ++ texts_at old.unit.texts (items_positions L)) taken
    ∙ ap (λ z. z ++ texts_at old.unit.texts (items_positions L)) (texts_in_order front.unit.texts n (items_positions K) p.first p.enough)
    ∙ ap (λ z. take n front.unit.texts ++ z) (texts_from old.unit.texts n (items_positions L) low p.later))

-- ---- what is put names no other texts

items_before_in : (n : ℕ) (xs ys : Items) → ItemsIn n xs → ItemsIn n ys → ItemsIn n (placed_before xs ys)
items_before_in n no_items ys v w = w
items_before_in n (item bs xs) ys v w = (v.0, items_before_in n xs ys v.1 w)

pub put_within : (front old : UnitTree) (items texts : ℕ) (tight : Bool) → PutsInto front old items texts → BlocksIn (length old.texts) (put_blocks tight items front.blocks old.blocks)
put_within front old items texts tight p =
    let m = length old.texts in
    let K = take_items items (first_items front.blocks) in
    let L = drop_items items (first_items old.blocks) in
    let start = behind_is 0 texts (items_positions K) p.first in
    let end = behind_is texts m (items_positions L) p.later in
    let kept : ItemsIn m K = subst (ItemsIn m) (items_in_order 0 texts K p.first) (items_in 0 m K (omega (arith, start, end))) in
    let behind : ItemsIn m L = subst (ItemsIn m) (items_in_order texts m L p.later) (items_in texts m L (omega (arith, end))) in
    let both = placed_before K L in
    let is : list_of_kind tight both (Some p.lists.kind) ≡ put_blocks tight items front.blocks old.blocks =
    ap (list_of_kind tight both) (sym p.lists.is_list) ∙ kind_list tight both front.blocks in
    subst (BlocksIn m) is (items_before_in m K L kept behind, tt)

pub texts_within : (front old : UnitTree) (items texts : ℕ) → PutsInto front old items texts → texts ≤ length old.texts
texts_within front old items texts p = let end = behind_is texts (length old.texts) (items_positions (drop_items items (first_items old.blocks))) p.later in omega (arith, end)

-- ---- a block that stands alone

pub popped_alone : (old new : List b.Block) (x : b.Block) → IsAlone (blocks_view old) → old ≡ new ++ x ∷ [] →
    (new ≡ []) × (first_items (block (block_view x) no_blocks) ≡ first_items (blocks_view old))
popped_alone old [] x w is = (refl, ap (λ z. first_items (blocks_view z)) (sym is))
popped_alone old (n ∷ []) x w is = let v = subst (λ z. IsAlone (blocks_view z)) is w in absurd v
popped_alone old (n ∷ m ∷ new) x w is = let v = subst (λ z. IsAlone (blocks_view z)) is w in absurd v

-- ---- parts that are put in place

pub items_parted : (start end : ℕ) (parts olds : List i.Item) → items_view (parts_between start end parts olds) ≡ items_between start end (items_view parts) (items_view olds)
items_parted start end parts olds =
    items_together (take start olds) (take (end - start) parts ++ drop end olds)
    ∙ ap (λ z. placed_before z (items_view (take (end - start) parts ++ drop end olds))) (items_taken start olds)
    ∙ ap (placed_before (take_items start (items_view olds)))
    (items_together (take (end - start) parts) (drop end olds)
    ∙ ap (λ z. placed_before z (items_view (drop end olds))) (items_taken (end - start) parts)
    ∙ ap (placed_before (take_items (end - start) (items_view parts))) (items_dropped end olds))

pub parts_mapped : {A B : Type 0} (f : A → B) (start end : ℕ) (parts olds : List A) → map f (parts_between start end parts olds) ≡ parts_between start end (map f parts) (map f olds)
parts_mapped f start end parts olds =
    map-append f (take start olds) (take (end - start) parts ++ drop end olds)
    ∙ ap (λ z. z ++ map f (take (end - start) parts ++ drop end olds)) (sym (take-map f start olds))
    ∙ ap (λ z. take start (map f olds) ++ z)
    (map-append f (take (end - start) parts) (drop end olds)
    ∙ ap (λ z. z ++ map f (drop end olds)) (sym (take-map f (end - start) parts))
    ∙ ap (λ z. take (end - start) (map f parts) ++ z) (sym (drop-map f end olds)))

pub parts_length : {A : Type 0} (start end : ℕ) (parts olds : List A) → start ≤ end → end ≤ length olds → end - start ≤ length parts → length (parts_between start end parts olds) ≡ length olds
parts_length start end parts olds ordered room enough =
    let a = length-append (take start olds) (take (end - start) parts ++ drop end olds) in
    let b = length-append (take (end - start) parts) (drop end olds) in
    let c = length-take-le start olds (omega (arith, ordered, room)) in
    let d = length-take-le (end - start) parts enough in
    let e = length-drop end olds in
    omega (arith, a, b, c, d, e, room, ordered)

pub first_parts : {A : Type 0} (n : ℕ) (parts olds : List A) → n ≡ length parts → parts_between 0 n parts olds ≡ parts ++ drop (length parts) olds
first_parts n parts olds is =
    let all : length parts ≤ n - 0 = omega (arith, is) in
    ap (λ z. z ++ drop n olds) (take_all (n - 0) parts all) ∙ ap (λ z. parts ++ drop z olds) is

pub parts_behind : {A : Type 0} (start end : ℕ) (parts olds : List A) → start ≤ length olds → end ≡ start + length parts →
    parts_between start end parts olds ≡ (take start olds ++ parts) ++ drop (length (take start olds ++ parts)) olds
parts_behind start end parts olds room is =
    let all : length parts ≤ end - start = omega (arith, is) in
    let a = length-append (take start olds) parts in
    let b = length-take-le start olds room in
    let size : end ≡ length (take start olds ++ parts) = omega (arith, is, a, b) in
    ap (λ z. take start olds ++ (z ++ drop end olds)) (take_all (end - start) parts all)
    ∙ sym (append_assoc (take start olds) parts (drop end olds))
    ∙ ap (λ z. (take start olds ++ parts) ++ drop z olds) size

pub mark_in_front : (front behind : List ItemMark) (k : ℕ) → k < length front → mark_at (front ++ behind) k ≡ mark_at front k
mark_in_front [] behind k h = absurd (omega (arith, h))
mark_in_front (m ∷ front) behind zero h = refl
mark_in_front (m ∷ front) behind (suc k) h = mark_in_front front behind k (omega (arith, h))

-- ---- joins that move where they lie

mark_set : (js : List declared.Join) (i : ℕ) (y : declared.Join) → map join_mark (set js i y) ≡ set (map join_mark js) i (join_mark y)
mark_set [] i y = refl
mark_set (j ∷ js) zero y = refl
mark_set (j ∷ js) (suc i) y = ap (λ z. join_mark j ∷ z) (mark_set js i y)

mark_read : (js : List declared.Join) (i : ℕ) (d : declared.Join) (e : ItemMark) → i < length js → join_mark (get_or js i d) ≡ get_or (map join_mark js) i e
mark_read [] i d e h = absurd (omega (arith, h))
mark_read (j ∷ js) zero d e h = refl
mark_read (j ∷ js) (suc i) d e h = mark_read js i d e (omega (arith, h))

pub joins_moved : (move : ItemMark → ItemMark) (js : List declared.Join) (xs : List ItemMark) (i : ℕ) (d y : declared.Join) → i < length js → length js ≡ length xs → map join_mark js ≡ map move (take i xs) ++ drop i xs →
    join_mark y ≡ move (join_mark (get_or js i d)) → map join_mark (set js i y) ≡ map move (take (i + 1) xs) ++ drop (i + 1) xs
joins_moved move js xs i d y room size so_far is =
    mark_set js i y
    ∙ ap (set (map join_mark js) i) is
    ∙ map_over_more move xs (map join_mark js) i (join_mark (get_or js i d)) (omega (arith, room, size)) so_far (mark_read js i d (join_mark (get_or js i d)) room)
