-- What a reader holds, with the later items of an old list behind it, is the last unit of the lines of both.
use Rattle.std.proofs.Common.{◌≡◌, ℕ, zero, suc, ◌+◌, ◌-◌, ◌≤◌, ◌<◌, Bool, true, false, List, [], ◌∷◌, ◌++◌, drop, length, map, Option, Some, None, refl, sym, ◌∙◌, ap, subst, append_assoc, arith}
use Rattle.std.proofs.lemmas.List.{drop-append-le, drop-map, map-append}
use Rattle.std.specs.List.{flat_map}
use Rattle.std.specs.Prelude.{if◌then◌else◌}
use Rattle.mdtext.specs.EntityTable.{EntityTable}
use Rattle.blockspec.specs.BlockLine.{BlockLine, document_line, without_last}
use Rattle.blockspec.specs.BlockUnits.{units}
use Rattle.blockspec.specs.Meetings.{joins_list}
use Rattle.blockspec.specs.UnitBegin.{begins_unit, units_of, shift_found}
use Rattle.blockspec.specs.UnitReader.{lines_held}
use Rattle.blockspec.specs.UnitTree.{FoundUnit}
use Rattle.blockspec.proofs.BeginLaws.{begins_in}
use Rattle.blockspec.proofs.DocumentLaws.{document_units, units_meet}
use Rattle.blockspec.proofs.HandedLaws.{front_units, front_lines, front_is, held_next, held_one, lines_before_held}
use Rattle.blockspec.proofs.LimitLaws.{for_next_line}
use Rattle.blockspec.proofs.UnitReaderLaws.{shift_none, shift_twice}
use Rattle.blockspec.specs.ItemMarks.{ItemMark, join_of}
use Rattle.blockspec.specs.Joins.{block_joins, is_joined}
use Rattle.blockspec.specs.TopBlocks.{top_blocks}
use Rattle.blockspec.proofs.JoinCuts.{no_join}
use Rattle.blockspec.proofs.LastJoins.{held_joins, joined_next}
use Rattle.blockspec.proofs.MarkLines.{marks_join}
use Rattle.blockspec.proofs.UnitsMeet.{units_meet_inside}
use Rattle.mdblock.specs.FoundLists.{FoundList, StandsForUnit, found_unit}
use Rattle.mdblock.specs.Seams.{IsSpliced, SplicedAt}
use Rattle.mdblock.specs.Spliced.{IsFrontOf, mark_at, spliced_list}
use Rattle.mdblock.specs.held.ReaderState.{ReaderState, UnitSoFar, held_joined}
use Rattle.mdblock.specs.held.Reads.{HoldsUnit, Reads, handed, open_begin}
use Rattle.mdblock.proofs.HeldMarks.{begin_held, held_rest, lines_mapped, open_is, with_line}
use Rattle.mdblock.proofs.SplicedLists.{AreFew, StandsForLines, ListJoined, list_joined}
use Rattle.mdblock.proofs.SplicedMarks.{most}

-- ---- the units of some lines and of what comes behind the ones that are held

pub front_and_behind : (e : EntityTable) (xs ls more : List BlockLine) →
    units_of e (xs ++ (ls ++ more)) ≡ front_units e xs ls ++ map (shift_found (front_lines xs ls)) (units_of e (lines_held xs ls ++ more))
unfolding lines_held front_units front_lines
front_and_behind e xs [] more = sym (shift_none (units_of e (xs ++ more)))
front_and_behind e xs (l ∷ ls) more = go (begins_unit xs l) refl (front_and_behind e (l ∷ []) ls more) (front_and_behind e (xs ++ l ∷ []) ls more)
  where
    n : ℕ
    n = length xs

    go : (b : Bool) → begins_unit xs l ≡ b →
        units_of e (l ∷ (ls ++ more)) ≡ front_units e (l ∷ []) ls ++ map (shift_found (front_lines (l ∷ []) ls)) (units_of e (lines_held (l ∷ []) ls ++ more)) →
        units_of e ((xs ++ l ∷ []) ++ (ls ++ more)) ≡ front_units e (xs ++ l ∷ []) ls ++ map (shift_found (front_lines (xs ++ l ∷ []) ls)) (units_of e (lines_held (xs ++ l ∷ []) ls ++ more)) →
        units_of e (xs ++ l ∷ (ls ++ more))
        ≡ (if b then units_of e xs ++ map (shift_found n) (front_units e (l ∷ []) ls) else front_units e (xs ++ l ∷ []) ls)
        ++ map (shift_found (if b then n + front_lines (l ∷ []) ls else front_lines (xs ++ l ∷ []) ls)) (units_of e ((if b then lines_held (l ∷ []) ls else lines_held (xs ++ l ∷ []) ls) ++ more))
    go true b new old =
        let F = front_units e (l ∷ []) ls in
        let k = front_lines (l ∷ []) ls in
        let U = units_of e (lines_held (l ∷ []) ls ++ more) in
        units_meet e xs l (ls ++ more) b
        ∙ ap (λ z. units_of e xs ++ map (shift_found n) z) new
        ∙ ap (λ z. units_of e xs ++ z) (map-append (shift_found n) F (map (shift_found k) U))
        ∙ ap (λ z. units_of e xs ++ (map (shift_found n) F ++ z)) (shift_twice n k U)
        ∙ sym (append_assoc (units_of e xs) (map (shift_found n) F) (map (shift_found (n + k)) U))
    go false b new old = ap (units_of e) (sym (for_next_line xs l (ls ++ more))) ∙ old

-- ---- the lines that are held where the last one begins a later item

-- those before it, and those with it
pub record HeldJoin (xs : List BlockLine) (l : BlockLine) : Type 0 where
  pub joins : joins_list (lines_held [] xs) l ≡ true
  pub held : lines_held [] (xs ++ l ∷ []) ≡ lines_held [] xs ++ l ∷ []

pub begins_none : (xs : List BlockLine) (l : BlockLine) → joins_list xs l ≡ true → begins_unit xs l ≡ false
begins_none xs l j = go (begins_unit xs l) refl
  where
    go : (b : Bool) → begins_unit xs l ≡ b → b ≡ false
    go false b = refl
    go true b = absurd (let other : joins_list xs l ≡ false = no_join xs l b in let x : true ≡ false = sym j ∙ other in let y : ⊥ = cc in y)

pub held_join : (xs : List BlockLine) (l : BlockLine) → joins_list xs l ≡ true → HeldJoin xs l
held_join xs l j =
    let H = lines_held [] xs in
    let joins : joins_list H l ≡ true = held_joins [] xs l ∙ j in
    record { joins = joins; held = held_next [] xs l ∙ ap (λ z. if z then l ∷ [] else H ++ l ∷ []) (begins_none H l joins) }

-- ---- what stands for lines of a document

pub to_lines : (e : EntityTable) (f : FoundList) (lines : List (List ℕ)) (ls : List BlockLine) → map document_line lines ≡ ls → StandsForUnit e f lines → StandsForLines e f ls
unfolding StandsForUnit
to_lines e f lines ls is w = subst (StandsForLines e f) is (sym (document_units e lines) ∙ w.0, w.1, w.2)

pub of_lines : (e : EntityTable) (f : FoundList) (lines : List (List ℕ)) (ls : List BlockLine) → map document_line lines ≡ ls → StandsForLines e f ls → StandsForUnit e f lines
unfolding StandsForUnit
of_lines e f lines ls is w = let v = subst (StandsForLines e f) (sym is) w in (document_units e lines ∙ v.0, v.1, v.2)

pub if_joined : (limit : ℕ) (e : EntityTable) (reading : ReaderState) (ls : List (List ℕ)) → held_joined reading.held ≡ true → Reads limit e reading ls → is_joined e ls ≡ true
unfolding Reads
if_joined limit e reading ls j r = go reading.held j r.4
  where
    go : (held : Option UnitSoFar) → held_joined held ≡ true → HoldsUnit e held ls → is_joined e ls ≡ true
    go None j w = absurd w
    go (Some held) j w = sym w.1 ∙ j

-- an old list is cut at each of its later items
pub record MarkCut (marks : List ItemMark) (k : ℕ) : Type 0 where
  pub before : List ItemMark
  pub behind : List ItemMark
  pub is : marks ≡ before ++ mark_at marks k ∷ behind
  pub size : length before ≡ k

pub mark_cut : (marks : List ItemMark) (k : ℕ) → k < length marks → MarkCut marks k
mark_cut [] k h = absurd (omega (arith, h))
mark_cut (m ∷ marks) zero h = record { before = []; behind = marks; is = refl; size = refl }
mark_cut (m ∷ marks) (suc k) h =
    let c = mark_cut marks k (omega (arith, h)) in
    record { before = m ∷ c.before; behind = c.behind; is = ap (λ z. m ∷ z) c.is; size = ap suc c.size }

-- ---- where the last unit begins

full_begin : (k : ℕ) (us : List FoundUnit) (v : FoundUnit) (vs : List FoundUnit) → begin_held k (begins_in (us ++ v ∷ vs)) ≡ Some k
full_begin k [] v vs = refl
full_begin k (u ∷ us) v vs = refl

pub begin_at : (e : EntityTable) (xs : List (List ℕ)) (l : List ℕ) → (let X = map document_line xs in let L = document_line l in HeldJoin X L → open_begin e (xs ++ l ∷ []) ≡ Some (front_lines [] (X ++ L ∷ [])))
begin_at e xs l h =
    let X = map document_line xs in
    let L = document_line l in
    let H = lines_held [] X in
    let k = front_lines [] (X ++ L ∷ []) in
    let w = units_meet_inside e H L [] h.joins in
    open_is e (xs ++ l ∷ [])
    ∙ ap (λ z. begin_held (front_lines [] z) (begins_in (units_of e (lines_held [] z)))) (with_line xs l)
    ∙ ap (λ z. begin_held k (begins_in (units_of e z))) h.held
    ∙ ap (λ z. begin_held k (begins_in z)) w.both
    ∙ full_begin k w.us w.whole (map (shift_found (length H)) w.vs)

-- ---- the lines from there on

pub with_lines : (xs : List (List ℕ)) (l : List ℕ) (ys : List (List ℕ)) → map document_line (xs ++ l ∷ ys) ≡ (map document_line xs ++ document_line l ∷ []) ++ map document_line ys
with_lines xs l ys = map-append document_line xs (l ∷ ys) ∙ sym (append_assoc (map document_line xs) (document_line l ∷ []) (map document_line ys))

held_from : (xs : List (List ℕ)) (l : List ℕ) (ys : List (List ℕ)) →
    (let X = map document_line xs in
    let L = document_line l in
    HeldJoin X L → map document_line (drop (front_lines [] (X ++ L ∷ [])) (xs ++ l ∷ ys)) ≡ lines_held [] X ++ L ∷ map document_line ys)
held_from xs l ys h =
    let X = map document_line xs in
    let L = document_line l in
    let all = X ++ L ∷ [] in
    let Y = map document_line ys in
    let k = front_lines [] all in
    let size = lines_before_held [] all in
    let room : k ≤ length all = omega (arith, size) in
    sym (drop-map document_line k (xs ++ l ∷ ys))
    ∙ ap (drop k) (with_lines xs l ys)
    ∙ drop-append-le k all Y room
    ∙ ap (λ z. z ++ Y) (sym (held_rest [] all) ∙ h.held)
    ∙ append_assoc (lines_held [] X) (L ∷ []) Y

-- ---- all units

handed_are : (e : EntityTable) (xs : List (List ℕ)) (l : List ℕ) → handed e (xs ++ l ∷ []) ≡ front_units e [] (map document_line xs ++ document_line l ∷ [])
handed_are e xs l =
    ap without_last (document_units e (xs ++ l ∷ []) ∙ ap (units_of e) (with_line xs l)) ∙ front_is e (map document_line xs ++ document_line l ∷ [])

units_are : (e : EntityTable) (xs : List (List ℕ)) (l : List ℕ) (ys : List (List ℕ)) (f : FoundList) →
    (let X = map document_line xs in
    let L = document_line l in
    HeldJoin X L → f.begin ≡ front_lines [] (X ++ L ∷ []) → units_of e (lines_held [] X ++ L ∷ map document_line ys) ≡ record { begin = 0; lines = f.lines; unit = f.unit } ∷ [] →
    units e (xs ++ l ∷ ys) ≡ handed e (xs ++ l ∷ []) ++ found_unit f ∷ [])
units_are e xs l ys f h begin one =
    let X = map document_line xs in
    let L = document_line l in
    let all = X ++ L ∷ [] in
    let Y = map document_line ys in
    let k = front_lines [] all in
    let F = front_units e [] all in
    let at : 0 + k ≡ f.begin = (let z : 0 + k ≡ k = omega arith in z) ∙ sym begin in
    document_units e (xs ++ l ∷ ys)
    ∙ ap (units_of e) (with_lines xs l ys)
    ∙ front_and_behind e [] all Y
    ∙ ap (λ z. F ++ map (shift_found k) (units_of e (z ++ Y))) h.held
    ∙ ap (λ z. F ++ map (shift_found k) (units_of e z)) (append_assoc (lines_held [] X) (L ∷ []) Y)
    ∙ ap (λ z. F ++ map (shift_found k) z) one
    ∙ ap (λ z. F ++ record { begin = z; lines = f.lines; unit = f.unit } ∷ []) at
    ∙ ap (λ z. z ++ found_unit f ∷ []) (sym (handed_are e xs l))

-- ---- the answer

told : (e : EntityTable) (front old : FoundList) (k : ℕ) (xs : List (List ℕ)) (l : List ℕ) (ys : List (List ℕ)) →
    (let X = map document_line xs in
    let L = document_line l in
    HeldJoin X L → front.begin ≡ front_lines [] (X ++ L ∷ []) → ListJoined e front old k (lines_held [] X ++ L ∷ map document_line ys) → SplicedAt e (spliced_list front old k) old k xs l ys)
told e front old k xs l ys h begin w =
    let f = spliced_list front old k in
    let ls = lines_held [] (map document_line xs) ++ document_line l ∷ map document_line ys in
    let from : map document_line (drop f.begin (xs ++ l ∷ ys)) ≡ ls = ap (λ z. map document_line (drop z (xs ++ l ∷ ys))) begin ∙ held_from xs l ys h in
    record {
      begin = begin_at e xs l h ∙ ap (λ z. Some z) (sym begin);
      units = units_are e xs l ys f h begin w.stands.0;
      joins = ap (map join_of) w.stands.1 ∙ marks_join (top_blocks e ls) ∙ ap (λ z. flat_map block_joins (top_blocks e z)) (sym from);
      stands = of_lines e f (drop f.begin (xs ++ l ∷ ys)) ls from w.stands;
      kept = w.kept;
      texts = w.texts;
    }

-- A front, and an old list from a later item on that begins in the same line, make one list of the lines of both.
pub spliced_behind : (e : EntityTable) (front old : FoundList) (k : ℕ) (xs : List (List ℕ)) (l : List ℕ) (zs ys : List (List ℕ)) → is_joined e (xs ++ l ∷ []) ≡ true → IsFrontOf e front xs l → k < length old.marks →
    StandsForUnit e old (zs ++ l ∷ ys) → (mark_at old.marks k).line ≡ length zs → front.lines + (old.lines - (mark_at old.marks k).line - 1) ≤ most → AreFew front.unit old.unit →
    SplicedAt e (spliced_list front old k) old k xs l ys
spliced_behind e front old k xs l zs ys joined w small stands line fits few =
    let X = map document_line xs in
    let L = document_line l in
    let Z = map document_line zs in
    let Y = map document_line ys in
    let h = held_join X L (sym (joined_next e xs l) ∙ joined) in
    let cut = mark_cut old.marks k small in
    let begins : Some front.begin ≡ Some (front_lines [] (X ++ L ∷ [])) = sym w.0 ∙ begin_at e xs l h in
    let begin : front.begin ≡ front_lines [] (X ++ L ∷ []) = cc in
    told e front old k xs l ys h begin
    (list_joined e (lines_held [] X) Z L Y front old k h.joins (held_one e X)
    w.1 w.2 w.3
    (to_lines e old (zs ++ l ∷ ys) (Z ++ L ∷ Y) (map-append document_line zs (l ∷ ys)) stands)
    cut.before cut.behind cut.is cut.size (line ∙ sym (lines_mapped zs)) fits few)

-- What a reader holds, and an old list from a later item on, make one list of the lines of both.
pub spliced_at : (reading : ReaderState) (front old : FoundList) (k : ℕ) → held_joined reading.held ≡ true → k < length old.marks → reading.fed + (old.lines - (mark_at old.marks k).line - 1) ≤ most →
    front.lines ≤ reading.fed → ((limit : ℕ) (e : EntityTable) (xs : List (List ℕ)) (l : List ℕ) → Reads limit e reading (xs ++ l ∷ []) → IsFrontOf e front xs l) → AreFew front.unit old.unit →
    IsSpliced reading old k (spliced_list front old k)
spliced_at reading front old k joined small fits lines in_front few limit e xs l zs ys m =
    let lines_fit : front.lines + (old.lines - (mark_at old.marks k).line - 1) ≤ most = omega (arith, fits, lines) in
    spliced_behind e front old k xs l zs ys (if_joined limit e reading (xs ++ l ∷ []) joined m.0) (in_front limit e xs l m.0) small m.1 m.2 lines_fit few
