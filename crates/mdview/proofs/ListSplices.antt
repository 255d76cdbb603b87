-- The units that stand for the lines of an edited text: some in front and behind stay, and those between give way to those that were read.
use Rattle.std.proofs.Common.{◌≡◌, ℕ, ◌+◌, ◌-◌, ◌≤◌, inl, inr, List, [], ◌∷◌, ◌++◌, length, map, take, drop, refl, ap, ◌∙◌, sym, subst, arith}
use Rattle.std.specs.Prelude.{sum_by}
use Rattle.std.specs.List.{take-map, drop-map}
use Rattle.std.proofs.lemmas.List.{drop-drop, drop-take, length-drop, length-take-le, map-append, take-append-drop, take-take}
use Rattle.std.proofs.lemmas.List.Folds.{fold-map}
use Rattle.std.proofs.lemmas.List.Sums.{sum_by-append, sum_by-take-drop}
use Rattle.mdtext.specs.EntityTable.{EntityTable}
use Rattle.blockspec.specs.BlockUnits.{units}
use Rattle.blockspec.specs.UnitBegin.{shift_found}
use Rattle.blockspec.specs.UnitTree.{FoundUnit, UnitTree}
use Rattle.mdblock.specs.FoundLists.{FoundList}
use Rattle.mdsource.specs.Spliced.{IsSpliced}
use Rattle.mdsource.specs.Stretch.{Places, from_line, meeting_line, old_line, units_before, units_removed}
use Rattle.mdsource.specs.UnitTiles.{front_of, lines_of, tile_of}
use Rattle.mdsource.proofs.Cuts.{begins_before_end, units_cut}
use Rattle.mdsource.proofs.Splices.{IsEdit, MeetsBehind, from_above, meets, meets_behind}
use Rattle.mdsource.proofs.TileSplices.{behind_tiles, front_read, front_tiles, tiles_shifted, tiles_spliced}
use Rattle.mdsource.proofs.UnitTiles.{units_end}
use Rattle.mdview.specs.HeldBlocks.{unit_lines}
use Rattle.mdview.specs.HeldLists.{StandForUnits, list_lines}
use Rattle.mdview.proofs.ListsStand.{all_lines, stand_joined, stand_parts, stand_same, stand_within}

abbrev pub list_tile : FoundList → ℕ × UnitTree
list_tile f = (f.lines, f.unit)

-- ---- how many lines units without their places have

abbrev tile_lines : List (ℕ × UnitTree) → ℕ
tile_lines ts = sum_by (λ (t : ℕ × UnitTree). t.0) ts

lines_of_lists : (fs : List FoundList) → tile_lines (map list_tile fs) ≡ all_lines fs
lines_of_lists fs = fold-map (λ n (t : ℕ × UnitTree). n + t.0) list_tile 0 fs

lines_of_units : (us : List FoundUnit) → tile_lines (map tile_of us) ≡ sum_by (λ k. k) (lines_of us)
lines_of_units us = fold-map (λ n (t : ℕ × UnitTree). n + t.0) tile_of 0 us ∙ sym (fold-map (λ n (k : ℕ). n + k) (λ (f : FoundUnit). f.lines) 0 us)

-- with those in front they are all lines
tiles_end : (e : EntityTable) (lines : List (List ℕ)) → front_of (length lines) (units e lines) + tile_lines (map tile_of (units e lines)) ≡ length lines
tiles_end e lines = ap (λ n. front_of (length lines) (units e lines) + n) (lines_of_units (units e lines)) ∙ units_end e lines

-- ---- an edit

module _ (e : EntityTable) (old new : List (List ℕ)) (p : Places) (w : IsEdit e old new p) (s : IsSpliced e old new p) where
  abbrev from : ℕ
  from = from_line p

  abbrev to : ℕ
  to = meeting_line p

  abbrev ls : List (List ℕ)
  ls = drop (from_line p) (take (meeting_line p) new)

  abbrev front_lines : ℕ
  front_lines = tile_lines (map tile_of (units e (take (from_line p) old)))

  abbrev read_lines : ℕ
  read_lines = tile_lines (map tile_of (units e (drop (from_line p) (take (meeting_line p) new))))

  abbrev back_lines : ℕ
  back_lines = tile_lines (map tile_of (units e (drop (meeting_line p) new)))

  to_within : to ≤ length new
  to_within = by (meets_behind e old new p w)
    where
      by : MeetsBehind e old new p → to ≤ length new
      by (inl h) = omega (arith, h)
      by (inr h) = let below = begins_before_end e new (meeting_line p) h.1 in omega (arith, below)

  above_size : length (take to new) ≡ to
  above_size = length-take-le to new to_within

  -- those up to the meeting line and those behind it
  up_to : front_of (length new) (units e new) + tile_lines (map tile_of (units e (take to new))) ≡ to
  up_to =
      let all = tiles_end e (take to new) in
      let front = front_read e old new p w in
      let size = above_size in
      let same = ap (λ n. front_of n (units e (take (meeting_line p) new))) above_size in
      omega (arith, all, front, size, same)

  two_parts : tile_lines (map tile_of (units e new)) ≡ tile_lines (map tile_of (units e (take to new))) + back_lines
  two_parts =
      ap (λ us. tile_lines (map tile_of us)) (units_cut e new to (meets e old new p w).in_new)
      ∙ ap tile_lines (map-append tile_of (units e (take to new)) (map (shift_found to) (units e (drop to new))) ∙ ap (λ z. map tile_of (units e (take to new)) ++ z) (tiles_shifted to (units e (drop to new))))
      ∙ sum_by-append (λ (t : ℕ × UnitTree). t.0) (map tile_of (units e (take to new))) (map tile_of (units e (drop to new)))

  three_parts : tile_lines (map tile_of (units e new)) ≡ (front_lines + read_lines) + back_lines
  three_parts =
      let a = map tile_of (units e (take from old)) in
      let n = map tile_of (units e ls) in
      let c = map tile_of (units e (drop to new)) in
      let spliced : map tile_of (units e new) ≡ (a ++ n) ++ c =
      tiles_spliced e old new p s ∙ ap (λ z. (z ++ n) ++ drop (units_before p + units_removed p) (map tile_of (units e old))) (front_tiles e old new p s)
      ∙ ap (λ z. (a ++ n) ++ z) (behind_tiles e old new p s ∙ ap (λ z. map tile_of (units e z)) (sym s.same)) in
      ap tile_lines spliced ∙ sum_by-append (λ (t : ℕ × UnitTree). t.0) (a ++ n) c ∙ ap (λ k. k + tile_lines c) (sum_by-append (λ (t : ℕ × UnitTree). t.0) a n)

  read_size : length ls ≡ to - from
  read_size = let a = length-drop from (take to new) in let b = above_size in omega (arith, a, b)

  -- so many lines stand before the units that are read, by those in front and by where reading begins
  read_begins : front_of (length new) (units e new) + front_lines ≡ from + front_of (length ls) (units e ls)
  read_begins =
      let a = up_to in
      let b = two_parts in
      let c = three_parts in
      let d = tiles_end e ls in
      let n = read_size in
      let order = s.order in
      omega (arith, a, b, c, d, n, order)

  read_ends : (front_of (length new) (units e new) + front_lines) + read_lines ≡ to
  read_ends = let a = up_to in let b = two_parts in let c = three_parts in omega (arith, a, b, c)

  back_size : to + back_lines ≡ length new
  back_size =
      let a = up_to in
      let b = two_parts in
      let all = tiles_end e new in
      omega (arith, a, b, all)

  same_front : take from new ≡ take from old
  same_front = let above = from_above e old new p w in sym (take-take from p.at new above) ∙ ap (take from) w.front ∙ take-take from p.at old above

  -- ---- those in front

  no_lists : (fs : List FoundList) (lines : List (List ℕ)) → map list_tile fs ≡ [] → StandForUnits e fs lines
  no_lists [] lines none = tt
  no_lists (f ∷ fs) lines none = cc

  front_stands : (fs : List FoundList) (was head : ℕ) → was ≡ front_of (length old) (units e old) → head ≡ front_of (length new) (units e new)
      → map list_tile fs ≡ map tile_of (units e (take from old)) → StandForUnits e fs (drop was old) → StandForUnits e fs (drop head new)
  front_stands fs was head was_is head_is tiles h = by (units e (take from old)) refl
    where
      by : (front : List FoundUnit) → units e (take from old) ≡ front → StandForUnits e fs (drop head new)
      by [] is = no_lists fs (drop head new) (tiles ∙ ap (map tile_of) is)
      by (u ∷ us) is =
          let parts : (text : List (List ℕ)) (to : ℕ) → List FoundUnit = λ text to. map (shift_found from) (units e (drop from (take to text))) in
          let before : was ≡ u.begin = was_is ∙ ap (front_of (length old)) (s.olds ∙ ap (λ z. z ++ parts old (old_line p to) ++ map (shift_found (old_line p to)) (units e (drop (old_line p to) old))) is) in
          let behind : head ≡ u.begin = head_is ∙ ap (front_of (length new)) (s.news ∙ ap (λ z. z ++ parts new to ++ map (shift_found to) (units e (drop to new))) is) in
          let above = from_above e old new p w in
          let fits = w.fits in
          let size = length-take-le from old (omega (arith, above, fits)) in
          let ends = tiles_end e (take from old) in
          let front = ap (front_of (length (take from old))) is in
          let many : all_lines fs ≡ tile_lines (map tile_of (units e (take from old))) = sym (lines_of_lists fs) ∙ ap tile_lines tiles in
          let all : was + all_lines fs ≡ from = omega (arith, before, size, ends, front, many) in
          let moved : head ≡ was = behind ∙ sym before in
          let own : (text : List (List ℕ)) → take (all_lines fs) (drop was text) ≡ drop was (take from text) =
          λ text. sym (drop-take was (all_lines fs) text) ∙ ap (λ n. drop was (take n text)) all in
          let same : take (all_lines fs) (drop was old) ≡ take (all_lines fs) (drop head new) =
          own old ∙ ap (drop was) (sym same_front) ∙ sym (own new) ∙ ap (λ n. take (all_lines fs) (drop n new)) (sym moved) in
          stand_same e fs (drop was old) (drop head new) same h

  -- ---- those that were read

  read_stands : (gs : List FoundList) (begin : ℕ) → begin ≡ from + front_of (length ls) (units e ls) → map list_tile gs ≡ map tile_of (units e ls) → StandForUnits e gs (unit_lines e ls)
      → StandForUnits e gs (drop begin new)
  read_stands gs begin is tiles h =
      let front = front_of (length ls) (units e ls) in
      let many : all_lines gs ≡ read_lines = sym (lines_of_lists gs) ∙ ap tile_lines tiles in
      let d = tiles_end e ls in
      let n = read_size in
      let order = s.order in
      let all : begin + all_lines gs ≡ to = omega (arith, is, many, d, n, order) in
      let own : unit_lines e ls ≡ take (all_lines gs) (drop begin new) =
      drop-drop front from (take to new) ∙ ap (λ k. drop k (take to new)) (sym is) ∙ ap (λ k. drop begin (take k new)) (sym all) ∙ drop-take begin (all_lines gs) new in
      stand_within e gs (all_lines gs) (drop begin new) (omega arith) (subst (StandForUnits e gs) own h)

  -- ---- those behind

  back_place : (was : ℕ) (fs : List FoundList) (next : ℕ) → was ≡ front_of (length old) (units e old) → map list_tile fs ≡ map tile_of (units e old) → next ≡ units_before p + units_removed p
      → was + all_lines (take next fs) ≡ old_line p to
  back_place was fs next was_is tiles next_is =
      let olds = tiles_end e old in
      let many : all_lines fs ≡ tile_lines (map tile_of (units e old)) = sym (lines_of_lists fs) ∙ ap tile_lines tiles in
      let parts = sum_by-take-drop list_lines fs next in
      let last : all_lines (drop next fs) ≡ back_lines =
      sym (lines_of_lists (drop next fs)) ∙ ap tile_lines (sym (drop-map list_tile next fs) ∙ ap (drop next) tiles ∙ ap (λ k. drop k (map tile_of (units e old))) next_is
      ∙ behind_tiles e old new p s ∙ ap (λ z. map tile_of (units e z)) (sym s.same)) in
      let back = back_size in
      let sizes = w.sizes in
      let fits = w.fits in
      let behind = (meets e old new p w).behind in
      omega (arith, was_is, olds, many, parts, last, back, sizes, fits, behind)

  pub stand_spliced : (was head first next : ℕ) (fs gs : List FoundList) → was ≡ front_of (length old) (units e old) → head ≡ front_of (length new) (units e new)
      → first ≡ units_before p → next ≡ units_before p + units_removed p → map list_tile fs ≡ map tile_of (units e old) → map list_tile gs ≡ map tile_of (units e (drop (from_line p) (take (meeting_line p) new)))
      → StandForUnits e fs (drop was old) → StandForUnits e gs (unit_lines e (drop (from_line p) (take (meeting_line p) new))) → StandForUnits e (take first fs ++ gs ++ drop next fs) (drop head new)
  stand_spliced was head first next fs gs was_is head_is first_is next_is tiles read h k =
      stand_joined e (take first fs ++ gs) (drop next fs) (drop head new)
      (stand_joined e (take first fs) gs (drop head new) front (subst (StandForUnits e gs) (sym (drop-drop (all_lines (take first fs)) head new)) middle))
      (subst (StandForUnits e (drop next fs)) (sym place) back)
    where
      front_is : map list_tile (take first fs) ≡ map tile_of (units e (take from old))
      front_is =
          sym (take-map list_tile first fs) ∙ ap (take first) tiles ∙ ap (λ n. take n (map tile_of (units e old))) first_is ∙ front_tiles e old new p s

      front_many : all_lines (take first fs) ≡ front_lines
      front_many = sym (lines_of_lists (take first fs)) ∙ ap tile_lines front_is

      read_many : all_lines gs ≡ read_lines
      read_many = sym (lines_of_lists gs) ∙ ap tile_lines read

      front : StandForUnits e (take first fs) (drop head new)
      front =
          front_stands (take first fs) was head was_is head_is front_is
          (stand_parts e (take first fs) (drop first fs) (drop was old) (subst (λ xs. StandForUnits e xs (drop was old)) (sym (take-append-drop first fs)) h)).0

      middle : StandForUnits e gs (drop (head + all_lines (take first fs)) new)
      middle =
          let a = read_begins in
          read_stands gs (head + all_lines (take first fs)) (omega (arith, a, head_is, front_many)) read k

      back : StandForUnits e (drop next fs) (drop to new)
      back =
          subst (StandForUnits e (drop next fs)) (drop-drop (all_lines (take next fs)) was old ∙ ap (λ n. drop n old) (back_place was fs next was_is tiles next_is) ∙ sym s.same)
          (stand_parts e (take next fs) (drop next fs) (drop was old) (subst (λ xs. StandForUnits e xs (drop was old)) (sym (take-append-drop next fs)) h)).1

      place : drop (all_lines (take first fs ++ gs)) (drop head new) ≡ drop to new
      place =
          let a = read_ends in
          let both = sum_by-append list_lines (take first fs) gs in
          let all : head + all_lines (take first fs ++ gs) ≡ to = omega (arith, a, both, head_is, front_many, read_many) in
          drop-drop (all_lines (take first fs ++ gs)) head new ∙ ap (λ n. drop n new) all
