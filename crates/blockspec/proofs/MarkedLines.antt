-- Where the later items of a list begin: their lines ascend, so each tells which of them it is, and what stands before it.
use Rattle.std.proofs.Common.{◌≡◌, ℕ, suc, ◌+◌, ◌-◌, ◌≤◌, Bool, true, false, List, [], ◌∷◌, ◌++◌, length, map, refl, sym, ◌∙◌, ap, subst, append_assoc, arith}
use Rattle.std.proofs.lemmas.List.{append-nil, map-append}
use Rattle.std.specs.List.{flat_map}
use Rattle.std.specs.Prelude.{Contains}
use Rattle.mdtext.specs.EntityTable.{EntityTable}
use Rattle.blockspec.specs.BlockLine.{BlockLine}
use Rattle.blockspec.specs.BlockTree.{ListKind}
use Rattle.blockspec.specs.BlockUnits.{found_units}
use Rattle.blockspec.specs.Meetings.{joins_list, gap_after}
use Rattle.blockspec.specs.NodeTree.{texts_in_items, definitions_in_items}
use Rattle.blockspec.specs.Stretches.{cut_from, all_of}
use Rattle.blockspec.specs.UnitBegin.{units_of}
use Rattle.blockspec.proofs.BeginLaws.{begins_in}
use Rattle.blockspec.proofs.UnitReaderLaws.{IsOne}
use Rattle.blockspec.specs.ItemMarks.{ItemMark, item_marks, block_marks, list_marks, mark_behind}
use Rattle.blockspec.specs.Joins.{later_lines}
use Rattle.blockspec.specs.TopBlocks.{ListItem, TopBlock, Other, ItemList, top_group, tops_of, top_blocks, moved_item, item_behind}
use Rattle.blockspec.proofs.ItemsMeet.{blocks_are, items_meet_at}
use Rattle.blockspec.proofs.JoinLines.{AreBelow, with_number, joins_in, joins_next, joins_below, joins_only}
use Rattle.blockspec.proofs.ListsSpliced.{one_parted, marks_parted}

-- ---- ascending numbers

abbrev Ascends : ℕ → List ℕ → Type 0
Ascends k [] = Unit {0}
Ascends k (n ∷ ns) = (k ≤ n) × Ascends (suc n) ns

ascends_pushed : (k n : ℕ) (ns : List ℕ) → k ≤ n → AreBelow n ns → Ascends k ns → Ascends k (ns ++ n ∷ [])
ascends_pushed k n [] h below w = (h, tt)
ascends_pushed k n (m ∷ ns) h below w = (w.0, ascends_pushed (suc m) n ns (omega (arith, below.0)) below.1 w.1)

ascends_with : (b : Bool) (n : ℕ) (ns : List ℕ) → AreBelow n ns → Ascends 0 ns → Ascends 0 (with_number b n ns)
ascends_with true n ns below w = ascends_pushed 0 n ns (omega arith) below w
ascends_with false n ns below w = w

no_joins : (e : EntityTable) → joins_in e [] ≡ []
unfolding cut_from all_of tops_of
no_joins e = refl

joins_ascend_from : (e : EntityTable) (front ls : List BlockLine) → Ascends 0 (joins_in e front) → Ascends 0 (joins_in e (front ++ ls))
joins_ascend_from e front [] w = subst (λ z. Ascends 0 (joins_in e z)) (sym (append-nil front)) w
joins_ascend_from e front (l ∷ ls) w =
    subst (λ z. Ascends 0 (joins_in e z)) (append_assoc front (l ∷ []) ls)
    (joins_ascend_from e (front ++ l ∷ []) ls
    (subst (λ z. Ascends 0 z) (sym (joins_next e front l)) (ascends_with (joins_list front l) (length front) (joins_in e front) (joins_below e front) w)))

joins_ascend : (e : EntityTable) (ls : List BlockLine) → Ascends 0 (joins_in e ls)
joins_ascend e ls = joins_ascend_from e [] ls (subst (λ z. Ascends 0 z) (sym (no_joins e)) tt)

reached : (k n : ℕ) (xs ys : List ℕ) → Ascends k (xs ++ n ∷ ys) → k ≤ n
reached k n [] ys w = w.0
reached k n (x ∷ xs) ys w = let h = reached (suc x) n xs ys w.1 in omega (arith, h, w.0)

one_place : (k n : ℕ) (xs ys us vs : List ℕ) → Ascends k (xs ++ n ∷ ys) → xs ++ n ∷ ys ≡ us ++ n ∷ vs → length xs ≡ length us
one_place k n [] ys [] vs w e = refl
one_place k n [] ys (u ∷ us) vs w e =
    let t : ys ≡ us ++ n ∷ vs = cc in
    let h = reached (suc n) n us vs (subst (Ascends (suc n)) t w.1) in
    absurd (omega (arith, h))
one_place k n (x ∷ xs) ys [] vs w e =
    let same : x ≡ n = cc in
    let h = reached (suc x) n xs ys w.1 in
    absurd (omega (arith, h, same))
one_place k n (x ∷ xs) ys (u ∷ us) vs w e = let t : xs ++ n ∷ ys ≡ us ++ n ∷ vs = cc in ap suc (one_place (suc x) n xs ys us vs w.1 t)

-- ---- a list that is all of some lines, with a later item

pub record IsOneList (blocks : List TopBlock) : Type 0 where
  pub kind : ListKind
  pub first : ListItem
  pub later : List ListItem
  pub is : blocks ≡ ItemList kind first later ∷ []
  pub line : first.line ≡ 0

one_list : (n : ℕ) (blocks : List TopBlock) (before : List ItemMark) (mark : ItemMark) (behind : List ItemMark) → IsOne (begins_in (found_units (map top_group blocks) n)) → flat_map block_marks blocks ≡ before ++ mark ∷ behind → IsOneList blocks
unfolding found_units
one_list n [] [] mark behind one e = absurd (let x : ⊥ = cc in x)
one_list n [] (b ∷ before) mark behind one e = absurd (let x : ⊥ = cc in x)
one_list n (Other g ∷ []) [] mark behind one e = absurd (let x : ⊥ = cc in x)
one_list n (Other g ∷ []) (b ∷ before) mark behind one e = absurd (let x : ⊥ = cc in x)
one_list n (ItemList kind first later ∷ []) before mark behind one e = record { kind = kind; first = first; later = later; is = refl; line = one }
one_list n (t ∷ u ∷ ts) before mark behind one e = absurd one

abbrev line_of : ItemMark → ℕ
line_of mark = mark.line

marked_lines : (b t d : ℕ) (item : ListItem) (later : List ListItem) → b ≡ 0 → map line_of (item_marks b t d item later) ≡ map (λ (i : ListItem). i.line) later
unfolding item_marks
marked_lines b t d item [] z = refl
marked_lines b t d item (i ∷ later) z =
    let n : i.line - b ≡ i.line = omega (arith, z) in
    let t' = t + length (texts_in_items item.nodes) in
    let d' = d + length (definitions_in_items item.nodes) in
    ap (λ y. y ∷ map line_of (item_marks b t' d' i later)) n ∙ ap (λ y. i.line ∷ y) (marked_lines b t' d' i later z)

list_lines : (e : EntityTable) (ls : List BlockLine) → IsOneList (top_blocks e ls) → map line_of (list_marks e ls) ≡ joins_in e ls
list_lines e ls w =
    let marks = item_marks w.first.line 0 0 w.first w.later in
    ap (λ z. map line_of (flat_map block_marks z)) w.is
    ∙ ap (map line_of) (append-nil marks)
    ∙ marked_lines w.first.line 0 0 w.first w.later w.line
    ∙ sym (append-nil (map (λ (i : ListItem). i.line) w.later))
    ∙ sym (ap (flat_map later_lines) w.is)

there : (xs ys : List ℕ) (n : ℕ) → Contains (xs ++ n ∷ ys) n
there [] ys n = (0, omega arith, refl)
there (x ∷ xs) ys n = let w = there xs ys n in (suc w.0, omega (arith, w.1), w.2)

same_parts : {A : Type 0} (xs : List A) (x : A) (ys us : List A) (u : A) (vs : List A) → length xs ≡ length us → xs ++ x ∷ ys ≡ us ++ u ∷ vs → x ≡ u
same_parts [] x ys [] u vs n e = cc
same_parts [] x ys (v ∷ us) u vs n e = absurd (let z : ⊥ = omega (arith, n) in z)
same_parts (y ∷ xs) x ys [] u vs n e = absurd (let z : ⊥ = omega (arith, n) in z)
same_parts (y ∷ xs) x ys (v ∷ us) u vs n e = let t : xs ++ x ∷ ys ≡ us ++ u ∷ vs = cc in let m : length xs ≡ length us = omega (arith, n) in same_parts xs x ys us u vs m t

-- what is known of the lines before a later item
pub record MarkedAt (e : EntityTable) (zs : List BlockLine) (l : BlockLine) (ys : List BlockLine) (before : List ItemMark) (mark : ItemMark) : Type 0 where
  pub joins : joins_list zs l ≡ true
  pub count : length (list_marks e zs) ≡ length before
  pub is : mark_behind e zs ≡ mark

mapped_length : (ms : List ItemMark) → length (map line_of ms) ≡ length ms
mapped_length [] = refl
mapped_length (m ∷ ms) = ap suc (mapped_length ms)

-- A later item of a list that is all of some lines begins in the line that it says, and those before it are those of the lines before.
pub marked_at : (e : EntityTable) (zs : List BlockLine) (l : BlockLine) (ys : List BlockLine) (before : List ItemMark) (mark : ItemMark) (behind : List ItemMark) →
    IsOne (begins_in (units_of e (zs ++ l ∷ ys))) → list_marks e (zs ++ l ∷ ys) ≡ before ++ mark ∷ behind → mark.line ≡ length zs → MarkedAt e zs l ys before mark
marked_at e zs l ys before mark behind one marks line =
    let L = zs ++ l ∷ ys in
    let n = length zs in
    let list = one_list (length L) (top_blocks e L) before mark behind (subst (λ z. IsOne (begins_in (found_units z (length L)))) (sym (blocks_are e L)) one) marks in
    let here : joins_in e L ≡ map line_of before ++ n ∷ map line_of behind =
    sym (list_lines e L list) ∙ ap (map line_of) marks ∙ map-append line_of before (mark ∷ behind) ∙ ap (λ z. map line_of before ++ z ∷ map line_of behind) line in
    let joins = joins_only e zs l ys (subst (λ z. Contains z n) (sym here) (there (map line_of before) (map line_of behind) n)) in
    let w = items_meet_at e zs l ys joins in
    let a = one_parted e zs l ys w one in
    let parted = marks_parted e zs l ys w.kind w.first w.later w.item w.items a.line w.line a.front a.whole in
    let m = mark_behind e zs in
    let rest = item_marks 0 m.texts m.definitions (item_behind (gap_after zs) n w.item) (map (moved_item n) w.items) in
    let lines : joins_in e L ≡ map line_of (list_marks e zs) ++ n ∷ map line_of rest =
    sym (list_lines e L list) ∙ ap (map line_of) parted ∙ map-append line_of (list_marks e zs) (m ∷ rest) in
    let same = one_place 0 n (map line_of (list_marks e zs)) (map line_of rest) (map line_of before) (map line_of behind)
    (subst (Ascends 0) lines (joins_ascend e L)) (sym lines ∙ here) in
    let count : length (list_marks e zs) ≡ length before = sym (mapped_length (list_marks e zs)) ∙ same ∙ mapped_length before in
    record { joins = joins; count = count; is = same_parts (list_marks e zs) m rest before mark behind count (sym parted ∙ marks) }
