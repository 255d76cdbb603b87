-- Where the lists of a document may be parted, unit by unit: the lines of each unit alone tell it.
use Rattle.std.proofs.Common.{◌≡◌, ℕ, ◌+◌, ◌-◌, ◌<◌, ◌≤◌, inl, inr, Bool, true, false, ◌||◌, List, [], ◌∷◌, ◌++◌, length, map, take, drop, refl, sym, ◌∙◌, ap, subst, append_assoc, arith, length-append}
use Rattle.std.specs.Prelude.{Contains, nat_eq}
use Rattle.std.specs.List.{All, flat_map, list_any}
use Rattle.std.proofs.lemmas.Bool.{eqb-true}
use Rattle.std.proofs.lemmas.Bool.Decides.{nat_tests}
use Rattle.std.proofs.lemmas.List.{append-nil, length-take, length-take-le, map-append, take-append-drop}
use Rattle.std.proofs.lemmas.List.Elements.{All-weaker}
use Rattle.std.proofs.lemmas.List.Folds.{list_any-append, list_any_none}
use Rattle.std.proofs.lemmas.Map.Views.{Contains-from_any}
use Rattle.std.proofs.Math.Seq.{take-length, drop-length}
use Rattle.mdtext.specs.EntityTable.{EntityTable}
use Rattle.blockspec.specs.BlockLine.{BlockLine, document_line}
use Rattle.blockspec.specs.BlockUnits.{begins, found_units, units}
use Rattle.blockspec.specs.Meetings.{joins_list}
use Rattle.blockspec.specs.NodeTree.{texts_in_items, definitions_in_items}
use Rattle.blockspec.specs.UnitBegin.{begins_unit, units_of}
use Rattle.blockspec.specs.UnitTree.{FoundUnit}
use Rattle.blockspec.proofs.BeginLaws.{document_only}
use Rattle.blockspec.proofs.DocumentLaws.{document_units, map_length}
use Rattle.blockspec.proofs.UnitReaderLaws.{IsOne}
use Rattle.blockspec.specs.ItemMarks.{ItemMark, item_marks, block_marks, list_marks}
use Rattle.blockspec.specs.Joins.{joins, later_lines}
use Rattle.blockspec.specs.TopBlocks.{ListItem, TopBlock, Other, ItemList, top_group, top_blocks}
use Rattle.blockspec.proofs.ItemsMeet.{blocks_are}
use Rattle.blockspec.proofs.JoinCuts.{joins_cut, no_join, first_no_join}
use Rattle.blockspec.proofs.JoinLines.{with_number, joins_in, joins_next}
use Rattle.mdsource.specs.MetInside.{first_line}
use Rattle.mdsource.specs.UnitItems.{own_lines, own_joins}
use Rattle.mdsource.proofs.NearLines.{any_equal}
use Rattle.mdsource.proofs.PartedLists.{HasMember, has_member, joins_within, no_joins}
use Rattle.mdsource.proofs.UnitCuts.{next_cut, split_behind, unit_alone, unit_ends, units_parted}
use Rattle.mdsource.specs.UnitTiles.{front_of}
use Rattle.mdsource.proofs.Cuts.{IsCut, begins_before_end, begins_in}

-- ---- a document in two parts

abbrev further : ℕ → List ℕ → List ℕ
further n ns = map (λ k. k + n) ns

numbers_further : (t : Bool) (m n total : ℕ) (xs ys : List ℕ) → total ≡ m + n → with_number t total (xs ++ further n ys) ≡ xs ++ further n (with_number t m ys)
numbers_further true m n total xs ys h =
    append_assoc xs (further n ys) (total ∷ [])
    ∙ ap (λ z. xs ++ (further n ys ++ z ∷ [])) h
    ∙ ap (λ z. xs ++ z) (sym (map-append (λ k. k + n) ys (m ∷ [])))
numbers_further false m n total xs ys h = refl

one_line : (e : EntityTable) (l : BlockLine) → joins_in e (l ∷ []) ≡ []
one_line e l = joins_next e [] l ∙ ap (λ z. with_number z 0 (joins_in e [])) (first_no_join l) ∙ no_joins e

module _ (e : EntityTable) (xs : List BlockLine) (l : BlockLine) (b : begins_unit xs l ≡ true) where
  begun_first : joins_in e (xs ++ l ∷ []) ≡ joins_in e xs ++ further (length xs) (joins_in e (l ∷ []))
  begun_first =
      joins_next e xs l
      ∙ ap (λ z. with_number z (length xs) (joins_in e xs)) (no_join xs l b)
      ∙ sym (append-nil (joins_in e xs))
      ∙ ap (λ z. joins_in e xs ++ further (length xs) z) (sym (one_line e l))

  begun_next : (zs : List BlockLine) (y : BlockLine) → joins_in e (xs ++ l ∷ zs) ≡ joins_in e xs ++ further (length xs) (joins_in e (l ∷ zs))
      → joins_in e (xs ++ l ∷ (zs ++ y ∷ [])) ≡ joins_in e xs ++ further (length xs) (joins_in e (l ∷ (zs ++ y ∷ [])))
  begun_next zs y h =
      let n = length xs in
      let size : length (xs ++ l ∷ zs) ≡ length (l ∷ zs) + n = (let p = length-append xs (l ∷ zs) in omega (arith, p)) in
      ap (joins_in e) (sym (append_assoc xs (l ∷ zs) (y ∷ [])))
      ∙ joins_next e (xs ++ l ∷ zs) y
      ∙ ap (λ z. with_number z (length (xs ++ l ∷ zs)) (joins_in e (xs ++ l ∷ zs))) (joins_cut xs l zs y b)
      ∙ ap (λ z. with_number (joins_list (l ∷ zs) y) (length (xs ++ l ∷ zs)) z) h
      ∙ numbers_further (joins_list (l ∷ zs) y) (length (l ∷ zs)) n (length (xs ++ l ∷ zs)) (joins_in e xs) (joins_in e (l ∷ zs)) size
      ∙ ap (λ z. joins_in e xs ++ further n z) (sym (joins_next e (l ∷ zs) y))

  begun_all : (zs ys : List BlockLine) → joins_in e (xs ++ l ∷ zs) ≡ joins_in e xs ++ further (length xs) (joins_in e (l ∷ zs))
      → joins_in e (xs ++ l ∷ (zs ++ ys)) ≡ joins_in e xs ++ further (length xs) (joins_in e (l ∷ (zs ++ ys)))
  begun_all zs [] h =
      subst (λ z. joins_in e (xs ++ l ∷ z) ≡ joins_in e xs ++ further (length xs) (joins_in e (l ∷ z))) (sym (append-nil zs)) h
  begun_all zs (y ∷ ys) h =
      subst (λ z. joins_in e (xs ++ l ∷ z) ≡ joins_in e xs ++ further (length xs) (joins_in e (l ∷ z))) (append_assoc zs (y ∷ []) ys)
      (begun_all (zs ++ y ∷ []) ys (begun_next zs y h))

-- Where a line begins a unit, the lines at which lists may be parted are those of the lines before it, and those of the lines from it on, so many lines further on.
pub joins_meet : (e : EntityTable) (xs : List BlockLine) (l : BlockLine) (ys : List BlockLine) → begins_unit xs l ≡ true →
    joins_in e (xs ++ l ∷ ys) ≡ joins_in e xs ++ map (λ k. k + length xs) (joins_in e (l ∷ ys))
joins_meet e xs l ys b = begun_all e xs l b [] ys (begun_first e xs l b)

none_further : (ns : List ℕ) → further 0 ns ≡ ns
none_further [] = refl
none_further (n ∷ ns) = let same : n + 0 ≡ n = omega arith in ap (λ z. z ∷ further 0 ns) same ∙ ap (λ z. n ∷ z) (none_further ns)

joins_inside : (e : EntityTable) (lines : List (List ℕ)) (n : ℕ) → Contains (begins e lines) n → joins e lines ≡ joins e (take n lines) ++ further n (joins e (drop n lines))
joins_inside e lines n w = go (has_member lines n small)
  where
    small : n < length lines
    small = begins_before_end e lines n w

    size : length (take n lines) ≡ n
    size = length-take-le n lines (omega (arith, small))

    go : HasMember lines n → joins e lines ≡ joins e (take n lines) ++ further n (joins e (drop n lines))
    go m =
        let front = take n lines in
        let xs = map document_line front in
        let whole : front ++ m.line ∷ m.later ≡ lines = ap (λ z. front ++ z) (sym m.is) ∙ take-append-drop n lines in
        let is = document_only e front m.line m.later
        (subst (λ z. Contains (begins e z) (length front)) (sym whole) (subst (λ z. Contains (begins e lines) z) (sym size) w)) in
        ap (joins e) (sym whole)
        ∙ ap (joins_in e) (map-append document_line front (m.line ∷ m.later))
        ∙ joins_meet e xs (document_line m.line) (map document_line m.later) is
        ∙ ap (λ z. joins e front ++ further z (joins e (m.line ∷ m.later))) (map_length document_line front ∙ size)
        ∙ ap (λ z. joins e front ++ further n (joins e z)) (sym m.is)

-- The same of a document wherever it may be cut.
pub joins_parted : (e : EntityTable) (lines : List (List ℕ)) (n : ℕ) → IsCut e lines n → joins e lines ≡ joins e (take n lines) ++ map (λ k. k + n) (joins e (drop n lines))
joins_parted e lines n (inl h) =
    sym (none_further (joins e lines))
    ∙ ap (λ z. z ++ further 0 (joins e lines)) (sym (no_joins e))
    ∙ ap (λ z. joins e (take z lines) ++ further z (joins e (drop z lines))) (sym h)
joins_parted e lines n (inr (inl h)) =
    sym (append-nil (joins e lines))
    ∙ ap (λ z. joins e lines ++ further (length lines) z) (sym (no_joins e))
    ∙ ap (λ z. joins e z ++ further (length lines) (joins e [])) (sym (take-length lines))
    ∙ ap (λ z. joins e (take (length lines) lines) ++ further (length lines) (joins e z)) (sym (drop-length lines))
    ∙ ap (λ z. joins e (take z lines) ++ further z (joins e (drop z lines))) (sym h)
joins_parted e lines n (inr (inr w)) = joins_inside e lines n w

-- ---- a unit alone

abbrev line_of : ItemMark → ℕ
line_of mark = mark.line

marked_lines : (t d : ℕ) (item : ListItem) (later : List ListItem) → map line_of (item_marks 0 t d item later) ≡ map (λ (i : ListItem). i.line) later
unfolding item_marks
marked_lines t d item [] = refl
marked_lines t d item (i ∷ later) =
    let n : i.line - 0 ≡ i.line = omega arith in
    let texts = t + length (texts_in_items item.nodes) in
    let definitions = d + length (definitions_in_items item.nodes) in
    ap (λ z. z ∷ map line_of (item_marks 0 texts definitions i later)) n ∙ ap (λ z. i.line ∷ z) (marked_lines texts definitions i later)

marks_are_joins : (n : ℕ) (blocks : List TopBlock) → IsOne (begins_in (found_units (map top_group blocks) n)) → map line_of (flat_map block_marks blocks) ≡ flat_map later_lines blocks
unfolding found_units
marks_are_joins n [] one = refl
marks_are_joins n (Other g ∷ []) one = refl
marks_are_joins n (ItemList kind first later ∷ []) one =
    ap (map line_of) (append-nil (item_marks first.line 0 0 first later))
    ∙ ap (λ z. map line_of (item_marks z 0 0 first later)) one
    ∙ marked_lines 0 0 first later
    ∙ sym (append-nil (map (λ (i : ListItem). i.line) later))
marks_are_joins n (t ∷ u ∷ ts) one = absurd one

-- The later items of lines that give one unit begin where a list of these lines may be parted.
one_unit : (e : EntityTable) (ls : List BlockLine) → IsOne (begins_in (units_of e ls)) → map line_of (list_marks e ls) ≡ joins_in e ls
one_unit e ls one = marks_are_joins (length ls) (top_blocks e ls) (subst (λ z. IsOne (begins_in (found_units z (length ls)))) (sym (blocks_are e ls)) one)

pub unit_marks : (e : EntityTable) (lines : List (List ℕ)) (before : List FoundUnit) (one : FoundUnit) (back : List FoundUnit) → units e lines ≡ before ++ one ∷ back →
    own_joins e lines one ≡ joins e (own_lines lines one)
unit_marks e lines before one back is =
    let ls = map document_line (own_lines lines one) in
    one_unit e ls (subst (λ us. IsOne (begins_in us)) (sym (unit_alone e lines before one back is) ∙ document_units e (own_lines lines one)) refl)

-- ---- a line of a unit

same_test : (line b j : ℕ) → b ≤ line → nat_eq line (j + b) ≡ nat_eq (line - b) j
same_test line b j h = go (nat_eq line (j + b)) refl
  where
    go : (t : Bool) → nat_eq line (j + b) ≡ t → t ≡ nat_eq (line - b) j
    go true k = let is : line ≡ j + b = grind (arith, nat_tests, k) in let same : line - b ≡ j = omega (arith, is) in grind (arith, nat_tests, same)
    go false k = other (nat_eq (line - b) j) refl k
      where
        other : (t : Bool) → nat_eq (line - b) j ≡ t → nat_eq line (j + b) ≡ false → false ≡ t
        other true k n = absurd (let is : line - b ≡ j = grind (arith, nat_tests, k) in let same : line ≡ j + b = omega (arith, is, h) in grind (arith, nat_tests, n, same))
        other false k n = refl

any_further : (line b : ℕ) (js : List ℕ) → b ≤ line → list_any (nat_eq line) (further b js) ≡ list_any (nat_eq (line - b)) js
any_further line b [] h = refl
any_further line b (j ∷ js) h =
    ap (λ z. z || list_any (nat_eq line) (further b js)) (same_test line b j h) ∙ ap (λ z. nat_eq (line - b) j || z) (any_further line b js h)

none_below : (line : ℕ) (js : List ℕ) → All (λ j. j < line) js → list_any (nat_eq line) js ≡ false
none_below line js h = list_any_none (nat_eq line) js (All-weaker (λ j. j < line) (λ j. nat_eq line j ≡ false) (λ j k. grind (arith, nat_tests, k)) js h)

none_above : (line k : ℕ) (js : List ℕ) → line < k → list_any (nat_eq line) (further k js) ≡ false
none_above line k [] h = refl
none_above line k (j ∷ js) h =
    let other : nat_eq line (j + k) ≡ false = (let far : line < j + k = omega (arith, h) in grind (arith, nat_tests, far)) in
    ap (λ z. z || list_any (nat_eq line) (further k js)) other ∙ none_above line k js h

or_none : (t : Bool) → (t || false) ≡ t
or_none true = refl
or_none false = refl

-- A list may be parted at a line of a unit exactly where a later item of that unit begins in it.
pub unit_tells : (e : EntityTable) (lines : List (List ℕ)) (before : List FoundUnit) (one : FoundUnit) (back : List FoundUnit) → units e lines ≡ before ++ one ∷ back →
    (line : ℕ) → one.begin ≤ line → line < one.begin + one.lines → list_any (nat_eq line) (joins e lines) ≡ list_any (nat_eq (line - one.begin)) (own_joins e lines one)
unit_tells e lines before one back is line low high =
    ap (list_any (nat_eq line)) (joins_parted e lines k in_lines)
    ∙ list_any-append (nat_eq line) (joins e (take k lines)) (further k (joins e (drop k lines)))
    ∙ ap (λ z. list_any (nat_eq line) (joins e (take k lines)) || z) (none_above line k (joins e (drop k lines)) high)
    ∙ or_none (list_any (nat_eq line) (joins e (take k lines)))
    ∙ ap (list_any (nat_eq line)) (joins_parted e (take k lines) b in_front)
    ∙ list_any-append (nat_eq line) (joins e (take b (take k lines))) (further b (joins e (own_lines lines one)))
    ∙ ap (λ z. z || list_any (nat_eq line) (further b (joins e (own_lines lines one)))) (none_below line (joins e (take b (take k lines))) front_low)
    ∙ any_further line b (joins e (own_lines lines one)) low
    ∙ ap (list_any (nat_eq (line - b))) (sym (unit_marks e lines before one back is))
  where
    b : ℕ
    b = one.begin

    k : ℕ
    k = one.begin + one.lines

    end : k ≡ first_line (length lines) back
    end = unit_ends e lines before one back is

    split : units e lines ≡ (before ++ one ∷ []) ++ back
    split = split_behind e lines before one back is

    in_lines : IsCut e lines k
    in_lines = subst (IsCut e lines) (sym end) (next_cut e lines (before ++ one ∷ []) back split)

    in_front : IsCut e (take k lines) b
    in_front = next_cut e (take k lines) before (one ∷ []) (ap (λ n. units e (take n lines)) end ∙ (units_parted e lines (before ++ one ∷ []) back split).0)

    front_low : All (λ j. j < line) (joins e (take b (take k lines)))
    front_low =
        let size = length-take b (take k lines) in
        All-weaker (λ j. j < length (take b (take k lines))) (λ j. j < line) (λ j h. grind (arith, size, h, low)) (joins e (take b (take k lines))) (joins_within e (take b (take k lines)))

-- ---- a line in front of all units

no_blocks : (n : ℕ) (blocks : List TopBlock) → found_units (map top_group blocks) n ≡ [] → flat_map later_lines blocks ≡ []
unfolding found_units
no_blocks n [] h = refl
no_blocks n (t ∷ ts) h = absurd (let x : ⊥ = cc in x)

no_units_no_joins : (e : EntityTable) (lines : List (List ℕ)) → units e lines ≡ [] → joins e lines ≡ []
no_units_no_joins e lines h =
    let ls = map document_line lines in
    no_blocks (length ls) (top_blocks e ls) (ap (λ z. found_units z (length ls)) (blocks_are e ls) ∙ sym (document_units e lines) ∙ h)

front_is : (n : ℕ) (us : List FoundUnit) → front_of n us ≡ first_line n us
front_is n [] = refl
front_is n (u ∷ us) = refl

-- No list may be parted in front of the first unit.
pub front_tells : (e : EntityTable) (lines : List (List ℕ)) (line : ℕ) → line < front_of (length lines) (units e lines) → list_any (nat_eq line) (joins e lines) ≡ false
front_tells e lines line small =
    let k = first_line (length lines) (units e lines) in
    let front = no_units_no_joins e (take k lines) (units_parted e lines [] (units e lines) refl).0 in
    let is = front_is (length lines) (units e lines) in
    ap (list_any (nat_eq line)) (joins_parted e lines k (next_cut e lines [] (units e lines) refl) ∙ ap (λ z. z ++ further k (joins e (drop k lines))) front)
    ∙ none_above line k (joins e (drop k lines)) (omega (arith, small, is))

-- ---- the same of members

pub unit_has : (e : EntityTable) (lines : List (List ℕ)) (before : List FoundUnit) (one : FoundUnit) (back : List FoundUnit) → units e lines ≡ before ++ one ∷ back →
    (line : ℕ) → one.begin ≤ line → line < one.begin + one.lines →
    (Contains (joins e lines) line → Contains (own_joins e lines one) (line - one.begin)) × (Contains (own_joins e lines one) (line - one.begin) → Contains (joins e lines) line)
unit_has e lines before one back is line low high =
    let told = unit_tells e lines before one back is line low high in (
      λ w. Contains-from_any eqb-true (line - one.begin) (own_joins e lines one) (sym told ∙ any_equal line (joins e lines) w),
      λ w. Contains-from_any eqb-true line (joins e lines) (told ∙ any_equal (line - one.begin) (own_joins e lines one) w),
    )
