-- Items that were read behind those of an old list that stay: where they fit, they lie in the place of others, and nothing in front of them has to change.
use Rattle.std.proofs.Common.{◌≡◌, ℕ, zero, suc, ◌+◌, ◌-◌, ◌≤◌, ◌<◌, Bool, List, [], ◌∷◌, ◌++◌, Option, None, Some, append_assoc, drop, length, map, refl, sym, ◌∙◌, ap, subst, arith, length-append}
use Rattle.std.proofs.lemmas.List.{length-take-le, map-append, take_at}
use Rattle.std.proofs.Math.Seq.{take-append-add, take-take}
use Rattle.std.specs.List.{flat_map, range_with_len}
use Rattle.std.proofs.lemmas.Option.{slice_get-map}
use Rattle.std.specs.Prelude.{min, option_map, slice_get, take, unwrap_or, ◌^◌}
use Rattle.blockspec.proofs.DocumentLaws.{map_length}
use Rattle.blockspec.specs.BlockTree.{Block, paragraph, heading, thematic_break, code_block, html_block, block_quote, list, table, ListKind, Blocks, no_blocks, block, Items, no_items, item}
use Rattle.blockspec.specs.ItemMarks.{ItemMark}
use Rattle.blockspec.specs.UnitTree.{UnitTree}
use Rattle.mdblock.specs.Copies.{IsBehind, block_positions, blocks_positions, items_positions, copied_block, copied_blocks, copied_items, copied_rows, text_at, texts_at}
use Rattle.mdblock.specs.FoundLists.{FoundList}
use Rattle.mdblock.specs.Fronted.{HasOrder, IsInOrder, ListBase, base_items, base_mark, behind_base, fronted_list, fronted_marks, items_staying, texts_staying}
use Rattle.mdblock.specs.Insets.{FitsInto, FitsList, HasItems, IsAlone, ListInset, TakesIn, inset_base, inset_front, items_between, marks_in_front, parts_between, put_blocks}
use Rattle.mdblock.specs.Positions.{BlocksIn}
use Rattle.mdblock.specs.Seams.{IsOwnBase, ListSeam, seam_front, seam_inset, seam_list}
use Rattle.mdblock.specs.Spliced.{as_first_list, drop_items, first_items, first_kind, list_of_kind, mark_at, mark_further, no_mark, spliced_list, spliced_marks, take_items, tight_list}
use Rattle.mdblock.specs.held.TreesBehind.{placed_before}
use Rattle.mdblock.proofs.CopyLaws.{range_length}
use Rattle.mdblock.proofs.FoundParts.{found_of, same_found}
use Rattle.mdblock.proofs.InsetLaws.{mark_in_front, put_is, put_within, texts_within}
use Rattle.mdblock.proofs.ItemParts.{kind_list}
use Rattle.mdblock.proofs.TextOrder.{behind_front, behind_is, items_in_order, texts_in_order}

-- ---- items

pub taken_copied : (n at : ℕ) (is : Items) → take_items n (copied_items at is) ≡ copied_items at (take_items n is)
taken_copied zero at is = refl
taken_copied (suc n) at no_items = refl
taken_copied (suc n) at (item bs is) = ap (item (copied_blocks at bs)) (taken_copied n (at + length (blocks_positions bs)) is)

fr_assoc : (xs ys zs : Items) → placed_before (placed_before xs ys) zs ≡ placed_before xs (placed_before ys zs)
fr_assoc no_items ys zs = refl
fr_assoc (item bs xs) ys zs = ap (item bs) (fr_assoc xs ys zs)

fr_taken : (c m : ℕ) (olds is : Items) → HasItems c olds → c ≤ m → take_items m (placed_before (take_items c olds) is) ≡ placed_before (take_items c olds) (take_items (m - c) is)
fr_taken zero m olds is w low = let e : m ≡ m - 0 = omega arith in ap (λ z. take_items z is) e
fr_taken (suc c) m no_items is w low = absurd w
fr_taken (suc c) zero (item x olds) is w low = absurd (omega (arith, low))
fr_taken (suc c) (suc m) (item x olds) is w low =
    let e : m - c ≡ suc m - suc c = omega arith in
    ap (item x) (fr_taken c m olds is w (omega (arith, low)) ∙ ap (λ z. placed_before (take_items c olds) (take_items z is)) e)

fr_fewer : (c m : ℕ) (is : Items) → c ≤ m → HasItems m is → HasItems c is
fr_fewer zero m is low w = tt
fr_fewer (suc c) zero is low w = absurd (omega (arith, low))
fr_fewer (suc c) (suc m) no_items low w = absurd w
fr_fewer (suc c) (suc m) (item x is) low w = fr_fewer c m is (omega (arith, low)) w

fr_rest : (c m : ℕ) (olds is : Items) → HasItems c olds → c ≤ m → HasItems m (placed_before (take_items c olds) is) → HasItems (m - c) is
fr_rest zero m olds is w low v = let e : m ≡ m - 0 = omega arith in subst (λ z. HasItems z is) e v
fr_rest (suc c) m no_items is w low v = absurd w
fr_rest (suc c) zero (item x olds) is w low v = absurd (omega (arith, low))
fr_rest (suc c) (suc m) (item x olds) is w low v =
    let e : m - c ≡ suc m - suc c = omega arith in
    subst (λ z. HasItems z is) e (fr_rest c m olds is w (omega (arith, low)) v)

fr_copied : (n at : ℕ) (is : Items) → HasItems n is → HasItems n (copied_items at is)
fr_copied zero at is w = tt
fr_copied (suc n) at no_items w = absurd w
fr_copied (suc n) at (item bs is) w = fr_copied n (at + length (blocks_positions bs)) is w

-- ---- positions

fr_both : (xs ys : Items) → items_positions (placed_before xs ys) ≡ items_positions xs ++ items_positions ys
fr_both no_items ys = refl
fr_both (item bs xs) ys = ap (λ z. blocks_positions bs ++ z) (fr_both xs ys) ∙ sym (append_assoc (blocks_positions bs) (items_positions xs) (items_positions ys))

fr_cut : (n : ℕ) (is : Items) → items_positions is ≡ items_positions (take_items n is) ++ items_positions (drop_items n is)
fr_cut zero is = refl
fr_cut (suc n) no_items = refl
fr_cut (suc n) (item bs is) =
    ap (λ z. blocks_positions bs ++ z) (fr_cut n is) ∙ sym (append_assoc (blocks_positions bs) (items_positions (take_items n is)) (items_positions (drop_items n is)))

-- ---- a list that stands first

fr_listed : (tight : Bool) (is : Items) (bs : Blocks) (kind : ListKind) (was : Bool) (olds : Items) → bs ≡ block (list kind was olds) no_blocks → first_items (as_first_list tight is bs) ≡ is
fr_listed tight is bs kind was olds alone = ap (λ z. first_items (as_first_list tight is z)) alone

-- ---- what lies where

-- how many items stay, and those that are put behind them, with their texts
abbrev pub staying : ListInset → FoundList → ℕ
staying i old = items_staying (inset_base i old)

abbrev pub placed_items : ListInset → Items
placed_items i = copied_items i.before (first_items i.part.unit.blocks)

abbrev pub placed_texts : ListInset → List (List ℕ)
placed_texts i = texts_at i.part.unit.texts (items_positions (first_items i.part.unit.blocks))

pub record Placing (i : ListInset) (old : FoundList) : Type 0 where
  pub takes : TakesIn old.unit (placed_items i) (placed_texts i) (staying i old) (i.join + 1) i.before (mark_at old.marks i.join).texts
  pub items : take_items (i.join + 1) (first_items (inset_front i old).unit.blocks)
      ≡ placed_before (take_items (staying i old) (first_items old.unit.blocks)) (take_items (i.join + 1 - staying i old) (placed_items i))
  pub texts : take (mark_at old.marks i.join).texts (inset_front i old).unit.texts ≡ take i.before old.unit.texts ++ take ((mark_at old.marks i.join).texts - i.before) (placed_texts i)
  pub marks : (inset_front i old).marks ≡ marks_in_front i.stay old.marks i.part.marks
  pub room : length (marks_in_front i.stay old.marks i.part.marks) ≡ i.join + 1
  pub first : IsBehind 0 (items_positions (take_items (staying i old) (first_items old.unit.blocks))) i.before

none_placed : (part : FoundList) (join : ℕ) (old : FoundList) → FitsInto part old join → Placing (record { stay = None; before = 0; part = part; join = join }) old
none_placed part join old w =
    let p = w.puts in
    let l = p.lists in
    let n = (mark_at old.marks join).texts in
    let I = first_items part.unit.blocks in
    let K = take_items (join + 1) I in
    let P = items_positions K in
    let Q = items_positions (drop_items (join + 1) I) in
    let T = part.unit.texts in
    let all : join + 1 ≡ join + 1 - 0 = omega arith in
    let rest : n ≡ n - 0 = omega arith in
    let start = behind_is 0 n P p.first in
    let many = map_length (text_at T) P in
    let size : length (texts_at T P) ≡ n = omega (arith, start, many) in
    let both : texts_at T (items_positions I) ≡ texts_at T P ++ texts_at T Q = ap (texts_at T) (fr_cut (join + 1) I) ∙ map-append (text_at T) P Q in
    let count = ap length both ∙ length-append (texts_at T P) (texts_at T Q) in
    let low = texts_within part.unit old.unit (join + 1) n p in
    record {
      takes = record {
        alone = subst IsAlone (sym l.alone) tt;
        ordered = omega arith;
        there = subst (λ z. HasItems (join + 1) (first_items z)) (sym l.alone) l.old_some;
        some = subst (λ z. HasItems z (copied_items 0 I)) all (fr_copied (join + 1) 0 I l.some);
        later = omega arith;
        room = low;
        enough = omega (arith, count, size);
      };
      items = sym (ap (λ z. take_items z (copied_items 0 I)) (sym all) ∙ taken_copied (join + 1) 0 I ∙ items_in_order 0 n K p.first);
      texts =
          sym (texts_in_order T n P p.first p.enough)
          ∙ sym (ap (take (n - 0)) both ∙ ap (λ z. take z (texts_at T P ++ texts_at T Q)) (sym rest) ∙ take_at (texts_at T P) (texts_at T Q) n size);
      marks = refl;
      room = w.even.count;
      first = refl;
    }

some_placed : (k : ℕ) (part : FoundList) (join : ℕ) (old : FoundList) → k < join → IsInOrder (Some (record { list = old; join = k })) → FitsInto (fronted_list (record { list = old; join = k }) part) old join →
    Placing (record { stay = Some k; before = (mark_at old.marks k).texts; part = part; join = join }) old
some_placed k part join old below order w =
    let b : ListBase = record { list = old; join = k } in
    let p = w.puts in
    let l = p.lists in
    let n = (mark_at old.marks join).texts in
    let a = (mark_at old.marks k).texts in
    let c = k + 1 in
    let front = fronted_list b part in
    let O = first_items old.unit.blocks in
    let olds = base_items b in
    let I = first_items part.unit.blocks in
    let C = copied_items a I in
    let T = part.unit.texts in
    let low : c ≤ join + 1 = omega (arith, below) in
    let there : HasItems (join + 1) O = subst (λ z. HasItems (join + 1) (first_items z)) (sym l.alone) l.old_some in
    let has : HasItems c O = fr_fewer c (join + 1) O low there in
    let start = behind_is 0 a (items_positions olds) order in
    let before : length (items_positions olds) ≡ a = omega (arith, start) in
    let is : first_items front.unit.blocks ≡ placed_before olds C =
    fr_listed (tight_list part.parted front.marks) (placed_before (copied_items 0 olds) (copied_items (length (items_positions olds)) I)) old.unit.blocks _ _ _ l.alone
    ∙ ap (λ z. placed_before z (copied_items (length (items_positions olds)) I)) (items_in_order 0 a olds order)
    ∙ ap (λ z. placed_before olds (copied_items z I)) before in
    let items : take_items (join + 1) (first_items front.unit.blocks) ≡ placed_before olds (take_items (join + 1 - c) C) = ap (take_items (join + 1)) is ∙ fr_taken c (join + 1) O C has low in
    let end = behind_is 0 n (items_positions (take_items (join + 1) (first_items front.unit.blocks))) p.first in
    let cut = ap length (ap items_positions items ∙ fr_both olds (take_items (join + 1 - c) C)) ∙ length-append (items_positions olds) (items_positions (take_items (join + 1 - c) C)) in
    let later : a ≤ n = omega (arith, end, cut, before) in
    let room : n ≤ length old.unit.texts = texts_within front.unit old.unit (join + 1) n p in
    let A = texts_at old.unit.texts (items_positions olds) in
    let B = texts_at T (items_positions I) in
    let first : A ≡ take a old.unit.texts = texts_in_order old.unit.texts a (items_positions olds) order (omega (arith, later, room)) in
    let size : length A ≡ a = map_length (text_at old.unit.texts) (items_positions olds) ∙ before in
    let count = length-append A B in
    let enough = p.enough in
    let split : length A + (n - a) ≡ n = omega (arith, size, later) in
    record {
      takes = record {
        alone = subst IsAlone (sym l.alone) tt;
        ordered = low;
        there = there;
        some = fr_rest c (join + 1) O C has low (subst (HasItems (join + 1)) is l.some);
        later = later;
        room = room;
        enough = omega (arith, enough, count, size);
      };
      items = items;
      texts = ap (λ z. take z (A ++ B)) (sym split) ∙ take-append-add A B (n - a) ∙ ap (λ z. z ++ take (n - a) B) first;
      marks = refl;
      room = w.even.count;
      first = order;
    }

placing_at : (stay : Option ℕ) (before : ℕ) (part : FoundList) (join : ℕ) (old : FoundList) → FitsList (record { stay = stay; before = before; part = part; join = join }) old →
    Placing (record { stay = stay; before = before; part = part; join = join }) old
placing_at None before part join old w =
    subst (λ z. Placing (record { stay = None; before = z; part = part; join = join }) old) (sym w.before) (none_placed part join old w.fits)
placing_at (Some k) before part join old w =
    subst (λ z. Placing (record { stay = Some k; before = z; part = part; join = join }) old) (sym w.before) (some_placed k part join old w.below w.order w.fits)

pub placing : (i : ListInset) (old : FoundList) → FitsList i old → Placing i old
placing i old w = placing_at i.stay i.before i.part i.join old w

-- ---- the list with the items in place

abbrev pub placed_marks : ListInset → FoundList → List ItemMark
placed_marks i old =
    let front = marks_in_front i.stay old.marks i.part.marks in
    front ++ map (mark_further (mark_at old.marks i.join) (mark_at front i.join)) (drop (i.join + 1) old.marks)

abbrev pub placed_list : ListInset → FoundList → FoundList
placed_list i old =
    let front = inset_front i old in
    let from = mark_at old.marks i.join in
    let marks = placed_marks i old in
    found_of old.parted marks front.begin (min (front.lines + (old.lines - from.line - 1)) (2 ^ 64 - 1))
    (list_of_kind (tight_list old.parted marks) (items_between (staying i old) (i.join + 1) (placed_items i) (first_items old.unit.blocks)) (first_kind front.unit.blocks))
    old.unit.definitions
    (parts_between i.before from.texts (placed_texts i) old.unit.texts)

pub placed_blocks : (i : ListInset) (old : FoundList) (tight : Bool) → FitsList i old → put_blocks tight (i.join + 1) (inset_front i old).unit.blocks old.unit.blocks
    ≡ list_of_kind tight (items_between (staying i old) (i.join + 1) (placed_items i) (first_items old.unit.blocks)) (first_kind (inset_front i old).unit.blocks)
placed_blocks i old tight w =
    let front = inset_front i old in
    let O = first_items old.unit.blocks in
    let c = staying i old in
    let L = drop_items (i.join + 1) O in
    let K = take_items c O in
    let M = take_items (i.join + 1 - c) (placed_items i) in
    let q = placing i old w in
    ap (λ z. as_first_list tight (placed_before z L) front.unit.blocks) q.items
    ∙ ap (λ z. as_first_list tight z front.unit.blocks) (fr_assoc K M L)
    ∙ sym (kind_list tight (placed_before K (placed_before M L)) front.unit.blocks)

pub placed_within : (i : ListInset) (old : FoundList) (tight : Bool) → FitsList i old →
    BlocksIn (length old.unit.texts) (list_of_kind tight (items_between (staying i old) (i.join + 1) (placed_items i) (first_items old.unit.blocks)) (first_kind (inset_front i old).unit.blocks))
placed_within i old tight w =
    subst (BlocksIn (length old.unit.texts)) (placed_blocks i old tight w) (put_within (inset_front i old).unit old.unit (i.join + 1) (mark_at old.marks i.join).texts tight w.fits.puts)

pub placed_is : (i : ListInset) (old : FoundList) → FitsList i old → spliced_list (inset_front i old) old i.join ≡ placed_list i old
placed_is i old w =
    let q = placing i old w in
    let front = inset_front i old in
    let from = mark_at old.marks i.join in
    let n = from.texts in
    let marks : front.marks ++ map (mark_further from (mark_at front.marks i.join)) (drop (i.join + 1) old.marks) ≡ placed_marks i old =
    ap (λ z. z ++ map (mark_further from (mark_at z i.join)) (drop (i.join + 1) old.marks)) q.marks in
    put_is front old i.join w.fits
    ∙ same_found front.begin old.parted old.parted _ (placed_marks i old) _ _ _ _ _ _ _ _ refl marks refl
    (ap (λ z. put_blocks (tight_list old.parted z) (i.join + 1) front.unit.blocks old.unit.blocks) marks ∙ placed_blocks i old (tight_list old.parted (placed_marks i old)) w)
    refl
    (ap (λ z. z ++ drop n old.unit.texts) q.texts ∙ append_assoc (take i.before old.unit.texts) (take (n - i.before) (placed_texts i)) (drop n old.unit.texts))

-- ---- a base that is the list itself

fr_own : (b : ListBase) (part old : FoundList) → b.list.unit ≡ old.unit → b.list.marks ≡ old.marks → fronted_list b part ≡ fronted_list (record { list = old; join = b.join }) part
fr_own b part old unit marks =
    ap (λ (u : UnitTree). fronted_list (record { list = record { begin = b.list.begin; lines = b.list.lines; unit = u; marks = b.list.marks; parted = b.list.parted }; join = b.join }) part) unit
    ∙ ap (λ (ms : List ItemMark). fronted_list (record { list = record { begin = old.begin; lines = old.lines; unit = old.unit; marks = ms; parted = old.parted }; join = b.join }) part) marks

abbrev inset_of : Option ListBase → (part : FoundList) → (join : ℕ) → ListInset
inset_of base part join = record { stay = option_map (λ (b : ListBase). b.join) base; before = texts_staying base; part = part; join = join }

pub own_front : (base : Option ListBase) (part old : FoundList) (join : ℕ) → IsOwnBase base old join → behind_base base part ≡ inset_front (inset_of base part join) old
own_front None part old join w = refl
own_front (Some b) part old join w = fr_own b part old w.0 w.1

-- What was read behind a list's own items can be put into it where it fits.
pub own_fits : (base : Option ListBase) (part old : FoundList) (join : ℕ) → IsOwnBase base old join → IsInOrder base → FitsInto (behind_base base part) old join → FitsList (inset_of base part join) old
own_fits None part old join w order fits = record { fits = fits; before = refl; order = tt; below = tt }
own_fits (Some b) part old join w order fits =
    record {
      fits = subst (λ z. FitsInto z old join) (fr_own b part old w.0 w.1) fits;
      before = ap (λ ms. (mark_at ms b.join).texts) w.1;
      order = subst (λ (ms : List ItemMark). IsBehind 0 (items_positions (take_items (b.join + 1) (first_items old.unit.blocks))) (mark_at ms b.join).texts) w.1
          (subst (λ (u : UnitTree). IsBehind 0 (items_positions (take_items (b.join + 1) (first_items u.blocks))) (mark_at b.list.marks b.join).texts) w.0 order);
      below = w.2;
    }

pub seam_fits : (s : ListSeam) → IsOwnBase s.base s.old s.join → IsInOrder s.base → FitsInto (seam_front s) s.old s.join → FitsList (seam_inset s) s.old
seam_fits s own order fits = own_fits s.base s.part s.old s.join own order fits

-- ---- later items behind those of a base

mark_taken : (marks : List ItemMark) (n k : ℕ) → k < n → mark_at (take n marks) k ≡ mark_at marks k
mark_taken marks zero k h = absurd (omega (arith, h))
mark_taken [] (suc n) k h = refl
mark_taken (m ∷ marks) (suc n) zero h = refl
mark_taken (m ∷ marks) (suc n) (suc k) h = mark_taken marks n k (omega (arith, h))

mark_later : (front marks : List ItemMark) (k m : ℕ) → k ≡ length front + m → mark_at (front ++ marks) k ≡ mark_at marks m
mark_later [] marks k m h = let e : k ≡ m = omega (arith, h) in ap (mark_at marks) e
mark_later (f ∷ front) marks zero m h = absurd (omega (arith, h))
mark_later (f ∷ front) marks (suc k) m h = mark_later front marks k m (omega (arith, h))

module _ (b : ListBase) (within : b.join < length b.list.marks) (marks : List ItemMark) where
  taken : length (take (b.join + 1) b.list.marks) ≡ b.join + 1
  taken = length-take-le (b.join + 1) b.list.marks (omega (arith, within))

  pub fronted_length : length (fronted_marks b marks) ≡ b.join + 1 + length marks
  fronted_length =
      let e = length-append (take (b.join + 1) b.list.marks) (map (mark_further no_mark (base_mark b)) marks) in
      let m = map_length (mark_further no_mark (base_mark b)) marks in
      let t = taken in
      omega (arith, e, m, t)

  pub fronted_first : (k : ℕ) → k ≤ b.join → mark_at (fronted_marks b marks) k ≡ mark_at b.list.marks k
  fronted_first k low =
      let t = taken in
      mark_in_front (take (b.join + 1) b.list.marks) (map (mark_further no_mark (base_mark b)) marks) k (omega (arith, t, low))
      ∙ mark_taken b.list.marks (b.join + 1) k (omega (arith, low))

  pub fronted_later : (k m : ℕ) → k ≡ b.join + 1 + m → mark_at (fronted_marks b marks) k ≡ unwrap_or (option_map (mark_further no_mark (base_mark b)) (slice_get marks m)) no_mark
  fronted_later k m is =
      let t = taken in
      mark_later (take (b.join + 1) b.list.marks) (map (mark_further no_mark (base_mark b)) marks) k m (omega (arith, t, is))
      ∙ ap (λ o. unwrap_or o no_mark) (slice_get-map (mark_further no_mark (base_mark b)) marks m)

-- ---- texts and items of what was read, where its texts lie in order

fr_rows : (at : ℕ) (rows : List (List ℕ)) → length (flat_map (λ row. row) (copied_rows at rows)) ≡ length (flat_map (λ row. row) rows)
fr_rows at [] = refl
fr_rows at (row ∷ rows) =
    let a = length-append (range_with_len at (length row)) (flat_map (λ r. r) (copied_rows (at + length row) rows)) in
    let b = length-append row (flat_map (λ r. r) rows) in
    let c = range_length at (length row) in
    let d = fr_rows (at + length row) rows in
    omega (arith, a, b, c, d)

mutual
  fr_block : (at : ℕ) (b : Block) → length (block_positions (copied_block at b)) ≡ length (block_positions b)
  fr_block at (paragraph text task) = refl
  fr_block at (heading level text) = refl
  fr_block at thematic_break = refl
  fr_block at (code_block lang meta body) = refl
  fr_block at (html_block lines) = refl
  fr_block at (block_quote bs) = fr_blocks at bs
  fr_block at (list kind tight is) = positions_copied at is
  fr_block at (table aligns head rows) =
      let a = length-append (range_with_len at (length head)) (flat_map (λ r. r) (copied_rows (at + length head) rows)) in
      let b = length-append head (flat_map (λ r. r) rows) in
      let c = range_length at (length head) in
      let d = fr_rows (at + length head) rows in
      omega (arith, a, b, c, d)

  fr_blocks : (at : ℕ) (bs : Blocks) → length (blocks_positions (copied_blocks at bs)) ≡ length (blocks_positions bs)
  fr_blocks at no_blocks = refl
  fr_blocks at (block b bs) =
      let n = at + length (block_positions b) in
      let a = length-append (block_positions (copied_block at b)) (blocks_positions (copied_blocks n bs)) in
      let c = length-append (block_positions b) (blocks_positions bs) in
      let d = fr_block at b in
      let e = fr_blocks n bs in
      omega (arith, a, c, d, e)

  pub positions_copied : (at : ℕ) (is : Items) → length (items_positions (copied_items at is)) ≡ length (items_positions is)
  positions_copied at no_items = refl
  positions_copied at (item bs is) =
      let n = at + length (blocks_positions bs) in
      let a = length-append (blocks_positions (copied_blocks at bs)) (items_positions (copied_items n is)) in
      let c = length-append (blocks_positions bs) (items_positions is) in
      let d = fr_blocks at bs in
      let e = positions_copied n is in
      omega (arith, a, c, d, e)

module _ (i : ListInset) (old : FoundList) (w : FitsList i old) (o : HasOrder i.part) where
  abbrev n : ℕ
  n = (mark_at old.marks i.join).texts

  abbrev c : ℕ
  c = staying i old

  abbrev O : Items
  O = first_items old.unit.blocks

  abbrev I : Items
  I = first_items i.part.unit.blocks

  abbrev K : Items
  K = take_items (i.join + 1 - c) I

  many : length (items_positions K) ≡ n - i.before
  many =
      let front = inset_front i old in
      let start = behind_is 0 n (items_positions (take_items (i.join + 1) (first_items front.unit.blocks))) w.fits.puts.first in
      let X = take_items c O in
      let Y = take_items (i.join + 1 - c) (placed_items i) in
      let both = ap length (ap items_positions (placing i old w).items ∙ fr_both X Y) ∙ length-append (items_positions X) (items_positions Y) in
      let first = behind_is 0 i.before (items_positions X) (placing i old w).first in
      let copied = ap (λ z. length (items_positions z)) (taken_copied (i.join + 1 - c) i.before I) ∙ positions_copied i.before K in
      omega (arith, start, both, first, copied)

  all : length (items_positions I) ≡ length (items_positions K) + length (items_positions (drop_items (i.join + 1 - c) I))
  all = ap length (fr_cut (i.join + 1 - c) I) ∙ length-append (items_positions K) (items_positions (drop_items (i.join + 1 - c) I))

  within : n - i.before ≤ o.end
  within = let e = behind_is 0 o.end (items_positions I) o.first in let a = all in let m = many in omega (arith, e, a, m)

  -- the texts of its items are its first ones
  pub items_first : IsBehind 0 (items_positions K) (n - i.before)
  items_first =
      let rest = items_positions (drop_items (i.join + 1 - c) I) in
      let m = many in
      let e : 0 + length (items_positions K) ≡ n - i.before = omega (arith, m) in
      subst (IsBehind 0 (items_positions K)) e (behind_front 0 o.end (items_positions K) rest (subst (λ z. IsBehind 0 z o.end) (fr_cut (i.join + 1 - c) I) o.first))

  pub texts_there : n - i.before ≤ length i.part.unit.texts
  texts_there = let h = within in let t = o.there in omega (arith, h, t)

  taken_texts : take (n - i.before) (placed_texts i) ≡ take (n - i.before) i.part.unit.texts
  taken_texts =
      ap (take (n - i.before)) (texts_in_order i.part.unit.texts o.end (items_positions I) o.first o.there) ∙ take-take (n - i.before) o.end i.part.unit.texts within

  pub whole_texts : (spliced_list (inset_front i old) old i.join).unit.texts ≡ parts_between i.before n i.part.unit.texts old.unit.texts
  whole_texts = ap (λ (z : FoundList). z.unit.texts) (placed_is i old w) ∙ ap (λ z. take i.before old.unit.texts ++ (z ++ drop n old.unit.texts)) taken_texts

  pub whole_blocks : (spliced_list (inset_front i old) old i.join).unit.blocks
      ≡ as_first_list (tight_list old.parted (spliced_marks (inset_front i old).marks old.marks i.join)) (placed_before (take_items c O) (placed_before (copied_items i.before K) (drop_items (i.join + 1) O)))
      (inset_front i old).unit.blocks
  whole_blocks =
      let front = inset_front i old in
      let P = put_is front old i.join w.fits in
      let L = drop_items (i.join + 1) O in
      let X = take_items c O in
      let T = tight_list old.parted (spliced_marks front.marks old.marks i.join) in
      ap (λ (z : FoundList). z.unit.blocks) P
      ∙ ap (λ z. put_blocks (tight_list old.parted z) (i.join + 1) front.unit.blocks old.unit.blocks) (sym (ap (λ (z : FoundList). z.marks) P))
      ∙ ap (λ z. as_first_list T (placed_before z L) front.unit.blocks) (placing i old w).items
      ∙ ap (λ z. as_first_list T z front.unit.blocks) (fr_assoc X (take_items (i.join + 1 - c) (placed_items i)) L)
      ∙ ap (λ z. as_first_list T (placed_before X (placed_before z L)) front.unit.blocks) (taken_copied (i.join + 1 - c) i.before I)

-- ---- the same of what is not put together yet, where its base is the old list

pub same_staying : (base : Option ListBase) (old : FoundList) → items_staying (option_map (λ k. record { list = old; join = k }) (option_map (λ (b : ListBase). b.join) base)) ≡ items_staying base
same_staying None old = refl
same_staying (Some b) old = refl

module _ (s : ListSeam) (own : IsOwnBase s.base s.old s.join) (order : IsInOrder s.base) (into : FitsInto (seam_front s) s.old s.join) (o : HasOrder s.part) where
  abbrev i : ListInset
  i = seam_inset s

  -- how many items stay, and how many texts, and where those behind the join go on
  abbrev at : ℕ
  at = texts_staying s.base

  abbrev end : ℕ
  end = (mark_at s.old.marks s.join).texts

  abbrev olds : Items
  olds = first_items s.old.unit.blocks

  -- the items that were read before the one of the join
  abbrev read : Items
  read = take_items (s.join + 1 - items_staying s.base) (first_items s.part.unit.blocks)

  fits : FitsList (seam_inset s) s.old
  fits = seam_fits s own order into

  front_is : seam_front s ≡ inset_front (seam_inset s) s.old
  front_is = own_front s.base s.part s.old s.join own

  stay_is : staying (seam_inset s) s.old ≡ items_staying s.base
  stay_is = same_staying s.base s.old

  pub seam_room : TakesIn s.old.unit (placed_items (seam_inset s)) (placed_texts (seam_inset s)) (items_staying s.base) (s.join + 1) at end
  seam_room = subst (λ z. TakesIn s.old.unit (placed_items (seam_inset s)) (placed_texts (seam_inset s)) z (s.join + 1) at end) stay_is (placing (seam_inset s) s.old fits).takes

  pub seam_first : IsBehind 0 (items_positions (take_items (items_staying s.base) olds)) at
  seam_first = subst (λ z. IsBehind 0 (items_positions (take_items z olds)) at) stay_is (placing (seam_inset s) s.old fits).first

  pub seam_read : IsBehind 0 (items_positions read) (end - at)
  seam_read = subst (λ z. IsBehind 0 (items_positions (take_items (s.join + 1 - z) (first_items s.part.unit.blocks))) (end - at)) stay_is (items_first (seam_inset s) s.old fits o)

  pub seam_enough : end - at ≤ length s.part.unit.texts
  seam_enough = texts_there (seam_inset s) s.old fits o

  pub seam_texts : (seam_list s).unit.texts ≡ parts_between at end s.part.unit.texts s.old.unit.texts
  seam_texts = ap (λ z. (spliced_list z s.old s.join).unit.texts) front_is ∙ whole_texts (seam_inset s) s.old fits o

  pub seam_blocks : (seam_list s).unit.blocks
      ≡ as_first_list (tight_list s.old.parted (spliced_marks (seam_front s).marks s.old.marks s.join))
      (placed_before (take_items (items_staying s.base) olds) (placed_before (copied_items at read) (drop_items (s.join + 1) olds))) (seam_front s).unit.blocks
  seam_blocks =
      let part = first_items s.part.unit.blocks in
      ap (λ z. (spliced_list z s.old s.join).unit.blocks) front_is
      ∙ whole_blocks (seam_inset s) s.old fits o
      ∙ ap (λ z. as_first_list (tight_list s.old.parted (spliced_marks z.marks s.old.marks s.join))
      (placed_before (take_items (staying (seam_inset s) s.old) olds) (placed_before (copied_items at (take_items (s.join + 1 - staying (seam_inset s) s.old) part)) (drop_items (s.join + 1) olds))) z.unit.blocks) (sym front_is)
      ∙ ap (λ z. as_first_list (tight_list s.old.parted (spliced_marks (seam_front s).marks s.old.marks s.join))
      (placed_before (take_items z olds) (placed_before (copied_items at (take_items (s.join + 1 - z) part)) (drop_items (s.join + 1) olds))) (seam_front s).unit.blocks) stay_is
