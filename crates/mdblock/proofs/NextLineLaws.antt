-- One line more for a reader: what it hands out, and what it stands for then.
use Rattle.std.proofs.Common.{◌≡◌, ℕ, suc, ◌+◌, ◌-◌, Bool, true, false, not, ◌&&◌, List, [], ◌∷◌, ◌++◌, length, map, Option, Some, None, refl, sym, ◌∙◌, ap, subst, arith}
use Rattle.std.proofs.lemmas.List.{map-append, append-nil, drop-map, length-append}
use Rattle.std.specs.Option.{option_map, option_to_list}
use Rattle.std.specs.Prelude.{if◌then◌else◌, IfSome, drop, unwrap_or}
use Rattle.mdtext.specs.EntityTable.{EntityTable}
use Rattle.blockspec.specs.BlockLine.{BlockLine, document_line, without_last}
use Rattle.blockspec.specs.BlankLines.{is_blank_line}
use Rattle.blockspec.specs.BlockKinds.{Free, Paragraph}
use Rattle.blockspec.specs.BlockStart.{start, start_where, begun}
use Rattle.blockspec.specs.BlockUnits.{groups, found_units, units}
use Rattle.blockspec.specs.LineSummary.{Summary, summary, Last, nothing_yet, ended_block, open_leaf, open_container, no_summary, last_in, last_tip, summary_gap, last_groups, ended_last, begin_after, last_after, line_added, summary_of, closed, is_apart_after, mark_of, begins_after}
use Rattle.blockspec.specs.Lists.{Group, nodes_of}
use Rattle.blockspec.specs.Nesting.{deep_within, first_too_deep}
use Rattle.blockspec.specs.NodeTree.{unit_of}
use Rattle.blockspec.specs.SummaryDepth.{sinks_first, sinks_at, sinks}
use Rattle.blockspec.specs.UnitBegin.{list_mark, same_mark, begins_unit, units_of, shift_found}
use Rattle.blockspec.specs.UnitReader.{read_behind, lines_held}
use Rattle.blockspec.specs.UnitTree.{FoundUnit}
use Rattle.blockspec.proofs.BeginLaws.{begins_in, begins_next}
use Rattle.blockspec.proofs.DocumentLaws.{document_units}
use Rattle.blockspec.proofs.HandedLaws.{IsFirst, IsBehind, begun_first, front_units, front_lines, front_and_held, lines_before_held, held_next, lines_next, front_next, held_behind, held_one, front_is, deep_behind_held, held_summary_next}
use Rattle.blockspec.proofs.OpenLeafLaws.{drops_last}
use Rattle.blockspec.proofs.ReaderLaws.{summary_closed, summary_begins}
use Rattle.blockspec.proofs.UnitReaderLaws.{IsOne}
use Rattle.blockspec.specs.ItemMarks.{ItemMark, is_parted, list_marks, marks_next}
use Rattle.blockspec.specs.TopBlocks.{top_blocks}
use Rattle.blockspec.specs.SummaryJoins.{joins_after}
use Rattle.blockspec.proofs.LastJoins.{joined_behind_held}
use Rattle.blockspec.proofs.LastParted.{summary_parted}
use Rattle.mdblock.specs.FoundLists.{FoundList, AreJoinsOf, StandsForUnit, found_unit, join_mark}
use Rattle.mdblock.specs.held.Continuations.{begins_block, begins_item}
use Rattle.mdblock.specs.held.LevelSteps.{BeginsBehind}
use Rattle.mdblock.specs.held.HeldLevel.{IsShut, HoldsSummary, StandsFor, StandsForLast, HasGathered, GivesUnit, Fits, IsLazyRight, behind_over, found_between, list_between, is_shut}
use Rattle.mdblock.specs.held.HeldNodes.{handed_groups, handed_last, handed_nodes, closed_nodes}
use Rattle.mdblock.specs.held.LinesAdded.{ContinuesLast, ContinuesLevel, IsAdded, IsFollowed, AddsLine, SinksLine}
use Rattle.mdblock.specs.held.ReaderState.{ReaderState, unit_so_far}
use Rattle.mdblock.specs.held.Reads.{Reads, BeginsUnit, HandsOn, SinksBehind, handed, held_marks, mark_after, open_begin}
use Rattle.mdblock.specs.held.Reads.{last_of}
use Rattle.mdblock.specs.declared.gathering.Gathering.{Gathering}
use Rattle.mdblock.specs.declared.open_blocks.Continuation.{Continuation}
use Rattle.mdblock.specs.declared.open_blocks.Continuation.TheVariants as continuation
use Rattle.mdblock.specs.declared.open_blocks.OpenBlock.{OpenBlock}
use Rattle.mdblock.specs.declared.open_blocks.OpenBlock as open_block
use Rattle.mdblock.specs.declared.readers.OpenUnit.{OpenUnit}
use Rattle.mdblock.proofs.CloseLaws.{not_both}
use Rattle.mdblock.proofs.ContinuationLaws.{shut_outside}
use Rattle.mdblock.proofs.FitLaws.{first_sinks, sinks_is, begins_apart, held_lines_fit}
use Rattle.mdblock.proofs.HeldMarks.{begin_held, begin_is, if_mapped, held_rest, open_is, last_behind, lines_mapped, with_line, marks_read, joins_between}
use Rattle.mdblock.proofs.LevelLines.{apart_sinks}

-- ---- the last unit

-- one unit has all lines from its first one on
pub only_unit : (gs : List Group) (n : ℕ) (v : FoundUnit) → found_units gs n ≡ v ∷ [] → v ≡ record { begin = v.begin; lines = n - v.begin; unit = unit_of (nodes_of gs) }
unfolding found_units nodes_of
only_unit [] n v e = absurd (let x : ⊥ = cc in x)
only_unit (g ∷ []) n v e = let s : record { begin = g.begin; lines = n - g.begin; unit = unit_of (nodes_of (g ∷ [])) } ≡ v = cc in subst (λ (z : FoundUnit). z ≡ record { begin = z.begin; lines = n - z.begin; unit = unit_of (nodes_of (g ∷ [])) }) s refl
only_unit (g ∷ h ∷ gs) n v e = absurd (let x : ⊥ = cc in x)

-- all units, where one at most is held behind others
abbrev WithLast : (f : ℕ → FoundUnit) → List FoundUnit → List FoundUnit
WithLast f us = without_last us ++ option_to_list (option_map f (last_of (begins_in us)))

with_last : (f : ℕ → FoundUnit) (front us : List FoundUnit) (k : ℕ) → IsOne (begins_in us) → IsBehind front us →
    ((v : FoundUnit) → us ≡ v ∷ [] → shift_found k v ≡ f k) →
    front ++ map (shift_found k) us ≡ WithLast f (front ++ map (shift_found k) us)
with_last f [] [] k one behind same = refl
with_last f (u ∷ front) [] k one behind same = absurd behind
with_last f front (v ∷ []) k one behind same =
    let x = shift_found k v in
    let at : x.begin ≡ k = omega (arith, one) in
    let last : last_of (begins_in (front ++ x ∷ [])) ≡ Some k =
    ap last_of (map-append (λ (u : FoundUnit). u.begin) front (x ∷ [])) ∙ last_behind (begins_in front) x.begin ∙ ap (λ z. Some z) at in
    ap (λ z. front ++ z ∷ []) (same v refl)
    ∙ ap (λ z. z ++ f k ∷ []) (sym (drops_last front x))
    ∙ ap (λ z. without_last (front ++ x ∷ []) ++ option_to_list (option_map f z)) (sym last)
with_last f front (v ∷ w ∷ us) k one behind same = absurd one

held_is : (e : EntityTable) (xs : List BlockLine) (v : FoundUnit) → units_of e (lines_held [] xs) ≡ v ∷ [] → v.begin ≡ 0 →
    shift_found (front_lines [] xs) v ≡ found_between e (summary_of e (lines_held [] xs)) (length xs) (front_lines [] xs)
held_is e xs v is zero_begin =
    let H = lines_held [] xs in
    let k = front_lines [] xs in
    let s = summary_of e H in
    let made = only_unit (groups e H) (length H) v is in
    let n = lines_before_held [] xs in
    let begin_is : v.begin + k ≡ k = omega (arith, zero_begin) in
    let lines_are : length H - v.begin ≡ length xs - k = omega (arith, zero_begin, n) in
    ap (λ z. record { begin = z; lines = v.lines; unit = v.unit }) begin_is
    ∙ ap (λ (z : FoundUnit). record { begin = k; lines = z.lines; unit = z.unit }) made
    ∙ ap (λ z. record { begin = k; lines = z; unit = unit_of (nodes_of (groups e H)) }) lines_are
    ∙ ap (λ z. record { begin = k; lines = length xs - k; unit = unit_of (nodes_of z) }) (summary_closed e H)

-- what is held is the unit of the last lines alone
begun_one : (k : ℕ) (us : List FoundUnit) (P : ℕ → Type 0) → IsOne (begins_in us) → ((v : FoundUnit) → us ≡ v ∷ [] → v.begin ≡ 0 → P k) → IfSome (begin_held k (begins_in us)) P
begun_one k [] P one p = tt
begun_one k (v ∷ []) P one p = p v refl one
begun_one k (v ∷ w ∷ us) P one p = absurd one

pub stands_between : (e : EntityTable) (ls : List (List ℕ)) (marks : List ItemMark) → marks ≡ list_marks e (lines_held [] (map document_line ls)) →
    IfSome (option_map (list_between e (summary_of e (lines_held [] (map document_line ls))) marks (length ls)) (open_begin e ls)) (λ f. StandsForUnit e f (drop f.begin ls))
unfolding StandsForUnit
stands_between e ls marks is =
    if_mapped (list_between e s marks (length ls)) (λ f. StandsForUnit e f (drop f.begin ls)) (open_begin e ls)
    (subst (λ z. IfSome z At) (sym (open_is e ls)) (begun_one k (units_of e H) At (held_one e xs) one))
  where
    xs : List BlockLine
    xs = map document_line ls

    k : ℕ
    k = front_lines [] xs

    H : List BlockLine
    H = lines_held [] xs

    s : Summary
    s = summary_of e H

    At : ℕ → Type 0
    At n = StandsForUnit e (list_between e s marks (length ls) n) (drop n ls)

    rest : H ≡ map document_line (drop k ls)
    rest = held_rest [] xs ∙ drop-map document_line k ls

    one : (v : FoundUnit) → units_of e H ≡ v ∷ [] → v.begin ≡ 0 → At k
    one v all zero =
        let made = only_unit (groups e H) (length H) v all in
        let n = lines_before_held [] xs in
        let m = lines_mapped ls in
        let size : length H - v.begin ≡ length ls - k = omega (arith, zero, n, m) in
        let unit : v ≡ record { begin = 0; lines = length ls - k; unit = unit_of (closed_nodes e false s) } =
        made
        ∙ ap (λ z. record { begin = z; lines = length H - v.begin; unit = unit_of (nodes_of (groups e H)) }) zero
        ∙ ap (λ z. record { begin = 0; lines = z; unit = unit_of (nodes_of (groups e H)) }) size
        ∙ ap (λ z. record { begin = 0; lines = length ls - k; unit = unit_of (nodes_of z) }) (summary_closed e H) in (
          document_units e (drop k ls) ∙ ap (units_of e) (sym rest) ∙ all ∙ ap (λ z. z ∷ []) unit,
          is ∙ ap (list_marks e) rest,
          sym (summary_parted e H) ∙ ap (λ z. is_parted (top_blocks e z)) rest,
        )

begin_zero : (us : List FoundUnit) (v : FoundUnit) → us ≡ v ∷ [] → IsOne (begins_in us) → v.begin ≡ 0
begin_zero us v is one = subst (λ z. IsOne (begins_in z)) is one

units_last_of : (e : EntityTable) (xs : List BlockLine) → units_of e xs ≡ WithLast (found_between e (summary_of e (lines_held [] xs)) (length xs)) (units_of e xs)
units_last_of e xs =
    let f = found_between e (summary_of e (lines_held [] xs)) (length xs) in
    let U = units_of e (lines_held [] xs) in
    let all = front_and_held e [] xs in
    all
    ∙ with_last f (front_units e [] xs) U (front_lines [] xs) (held_one e xs) (held_behind e [] xs) (λ v is. held_is e xs v is (begin_zero U v is (held_one e xs)))
    ∙ ap (WithLast f) (sym all)

-- What was handed out and the unit that is held are all.
pub units_last : (e : EntityTable) (ls : List (List ℕ)) →
    units e ls ≡ handed e ls ++ option_to_list (option_map (found_between e (summary_of e (lines_held [] (map document_line ls))) (length ls)) (open_begin e ls))
units_last e ls =
    let xs = map document_line ls in
    let d = document_units e ls in
    let n : length xs ≡ length ls = lines_mapped ls in
    d
    ∙ units_last_of e xs
    ∙ ap (λ z. WithLast (found_between e (summary_of e (lines_held [] xs)) z) (units_of e xs)) n
    ∙ ap (WithLast (found_between e (summary_of e (lines_held [] xs)) (length ls))) (sym d)

-- ---- one line more

begin_next : (e : EntityTable) (xs : List BlockLine) (l : BlockLine) →
    last_of (begins_in (units_of e (xs ++ l ∷ []))) ≡ (if begins_unit (lines_held [] xs) l then Some (length xs) else last_of (begins_in (units_of e xs)))
begin_next e xs l =
    begin_is e (xs ++ l ∷ [])
    ∙ ap (λ z. begin_held z (begins_in (units_of e (lines_held [] (xs ++ l ∷ []))))) (lines_next [] xs l)
    ∙ ap (λ z. begin_held (if begins_unit H l then 0 + length xs else front_lines [] xs) (begins_in (units_of e z))) (held_next [] xs l)
    ∙ go (begins_unit H l) refl
  where
    H : List BlockLine
    H = lines_held [] xs

    first : IsFirst (begins_in (units_of e (l ∷ []))) → (ns : List ℕ) → ns ≡ begins_in (units_of e (l ∷ [])) → begin_held (0 + length xs) ns ≡ Some (length xs)
    first w [] is = absurd (subst IsFirst (sym is) w)
    first w (n ∷ ns) is = let z : 0 + length xs ≡ length xs = omega arith in ap (λ x. Some x) z

    go : (b : Bool) → begins_unit H l ≡ b →
        begin_held (if b then 0 + length xs else front_lines [] xs) (begins_in (units_of e (if b then l ∷ [] else H ++ l ∷ [])))
        ≡ (if b then Some (length xs) else last_of (begins_in (units_of e xs)))
    go true b = first (begun_first e H l b) (begins_in (units_of e (l ∷ []))) refl
    go false b =
        ap (begin_held (front_lines [] xs)) (begins_next e H l ∙ ap (λ z. if z then begins_in (units_of e H) ++ length H ∷ [] else begins_in (units_of e H)) b)
        ∙ sym (begin_is e xs)

open_next : (e : EntityTable) (ls : List (List ℕ)) (l : List ℕ) →
    open_begin e (ls ++ l ∷ []) ≡ (if begins_after (summary_of e (lines_held [] (map document_line ls))) (document_line l) then Some (length ls) else open_begin e ls)
open_next e ls l =
    let xs = map document_line ls in
    let x = document_line l in
    ap (λ z. last_of (begins_in z)) (document_units e (ls ++ l ∷ []) ∙ ap (units_of e) (with_line ls l))
    ∙ begin_next e xs x
    ∙ ap (λ z. if z then Some (length xs) else last_of (begins_in (units_of e xs))) (summary_begins e (lines_held [] xs) x)
    ∙ ap (λ z. if begins_after (summary_of e (lines_held [] xs)) x then Some z else last_of (begins_in (units_of e xs))) (lines_mapped ls)
    ∙ ap (λ z. if begins_after (summary_of e (lines_held [] xs)) x then Some (length ls) else last_of (begins_in z)) (sym (document_units e ls))

pub handed_next : (e : EntityTable) (ls : List (List ℕ)) (l : List ℕ) →
    handed e (ls ++ l ∷ []) ≡ (if begins_after (summary_of e (lines_held [] (map document_line ls))) (document_line l) then units e ls else handed e ls)
handed_next e ls l =
    let xs = map document_line ls in
    let x = document_line l in
    ap without_last (document_units e (ls ++ l ∷ []) ∙ ap (units_of e) (with_line ls l))
    ∙ front_is e (xs ++ x ∷ [])
    ∙ front_next e [] xs x
    ∙ ap (λ z. if begins_unit (lines_held [] xs) x then units_of e xs else z) (sym (front_is e xs))
    ∙ ap (λ z. if z then units_of e xs else without_last (units_of e xs)) (summary_begins e (lines_held [] xs) x)
    ∙ ap (λ z. if begins_after (summary_of e (lines_held [] xs)) x then z else without_last z) (sym (document_units e ls))

too_deep_next : (limit : ℕ) (e : EntityTable) (ls : List (List ℕ)) (l : List ℕ) → first_too_deep limit ls ≡ None →
    first_too_deep limit (ls ++ l ∷ []) ≡ (if sinks limit (summary_of e (lines_held [] (map document_line ls))) (document_line l) then Some (length ls) else None)
too_deep_next limit e ls l w =
    let xs = map document_line ls in
    ap (deep_within limit) (with_line ls l)
    ∙ deep_behind_held e limit xs (document_line l) w
    ∙ ap (λ z. if sinks limit (summary_of e (lines_held [] xs)) (document_line l) then Some z else None) (lines_mapped ls)

-- ---- what a line makes of what is held

begins_where : (s : Summary) (l : BlockLine) → is_apart_after (last_in s) l ≡ true → is_blank_line l ≡ false → same_mark (mark_of (last_in s)) (list_mark (begun l)) ≡ false → begins_after s l ≡ true
unfolding begins_after
begins_where (summary before last b n) l a blank same =
    ap (λ z. z && not (is_blank_line l) && not (same_mark (mark_of last) (list_mark (begun l)))) a
    ∙ ap (λ z. not z && not (same_mark (mark_of last) (list_mark (begun l)))) blank
    ∙ ap not same

stays_in : (s : Summary) (l : BlockLine) → is_apart_after (last_in s) l ≡ false → begins_after s l ≡ false
unfolding begins_after
stays_in (summary before last b n) l a = ap (λ z. z && not (is_blank_line l) && not (same_mark (mark_of last) (list_mark (begun l)))) a

no_third : (a b c : Bool) → b ≡ true → (a && not b && not c) ≡ false
no_third true true c e = refl
no_third false b c e = refl
no_third true false c e = absurd (not_both true refl (sym e))

no_second : (a b c : Bool) → c ≡ true → (a && not b && not c) ≡ false
no_second true true c e = refl
no_second true false true e = refl
no_second true false false e = absurd (not_both true refl (sym e))
no_second false b c e = refl

stays_blank : (s : Summary) (l : BlockLine) → is_blank_line l ≡ true → begins_after s l ≡ false
unfolding begins_after
stays_blank (summary before last b n) l blank = no_third (is_apart_after last l) (is_blank_line l) (same_mark (mark_of last) (list_mark (begun l))) blank

pub stays_marked : (s : Summary) (l : BlockLine) → same_mark (mark_of (last_in s)) (list_mark (begun l)) ≡ true → begins_after s l ≡ false
unfolding begins_after
stays_marked (summary before last b n) l same = no_second (is_apart_after last l) (is_blank_line l) (same_mark (mark_of last) (list_mark (begun l))) same

pub no_lazy : (s : Summary) (l : BlockLine) → l.lazy ≡ false → IsLazyRight s l
no_lazy s l z = λ w. absurd (not_both l.lazy w z)

-- a line that begins a unit begins no later item
begun_apart : (s : Summary) (l : BlockLine) → begins_after s l ≡ true → joins_after s l ≡ false
unfolding begins_after joins_after
begun_apart (summary before last b n) l e = go (is_apart_after last l) (is_blank_line l) (same_mark (mark_of last) (list_mark (begun l))) e
  where
    go : (x y z : Bool) → (x && not y && not z) ≡ true → (x && not y && z) ≡ false
    go true false false e = refl
    go true false true e = absurd (not_both true refl (sym e))
    go true true z e = refl
    go false y z e = refl

inside_apart : (s : Summary) (l : BlockLine) → is_apart_after (last_in s) l ≡ false → joins_after s l ≡ false
unfolding joins_after
inside_apart (summary before last b n) l a = ap (λ z. z && not (is_blank_line l) && same_mark (mark_of last) (list_mark (begun l))) a

blank_apart : (s : Summary) (l : BlockLine) → is_blank_line l ≡ true → joins_after s l ≡ false
unfolding joins_after
blank_apart (summary before last b n) l blank = go (is_apart_after last l) (is_blank_line l) blank
  where
    go : (x y : Bool) → y ≡ true → (x && not y && same_mark (mark_of last) (list_mark (begun l))) ≡ false
    go true true e = refl
    go false true e = refl
    go x false e = absurd (not_both true refl (sym e))

pub next_joins : (s : Summary) (l : BlockLine) → is_apart_after (last_in s) l ≡ true → is_blank_line l ≡ false → same_mark (mark_of (last_in s)) (list_mark (begun l)) ≡ true →
    joins_after s l ≡ true
unfolding joins_after
next_joins (summary before last b n) l a blank same =
    ap (λ z. z && not (is_blank_line l) && same_mark (mark_of last) (list_mark (begun l))) a
    ∙ ap (λ z. not z && same_mark (mark_of last) (list_mark (begun l))) blank
    ∙ same

abbrev Begins : OpenUnit → BlockLine → Type 0
Begins held l = (s : Summary) → HoldsSummary held s → begins_after s l ≡ true

pub hands_new : (limit fed : ℕ) (old new : OpenUnit) (l : BlockLine) (found : Option FoundList) → BeginsUnit limit fed old l found new → Begins old l → HandsOn limit fed old l found new
hands_new limit fed old new l found b begins s h fits =
    let t = begins s h in (
      apart_sinks limit s l (begins_apart s l t) ∙ b.2,
      b.0 s h ∙ ap (λ z. if z then option_map (list_between old.gathering.entities.now s (held_marks old) fed) old.begin else None) (sym t),
      b.1 ∙ ap (λ z. if z then Some fed else old.begin) (sym t),
      subst (λ z. HoldsSummary new (line_added old.gathering.entities.now (suc limit) (read_behind z s) l)) (sym t) b.3,
      b.4 ∙ sym (begun_apart s l t),
      subst (λ z. held_marks new ≡ marks_next z (joins_after s l) (held_marks old) (mark_after old.gathering.entities.now s (fed - unwrap_or old.begin 0))) (sym t) (ap (map join_mark) b.5),
    )

pub sinks_new : (limit : ℕ) (old : OpenUnit) (l : BlockLine) → sinks limit no_summary l ≡ true → Begins old l → SinksBehind limit old l
sinks_new limit old l w begins s h fits = apart_sinks limit s l (begins_apart s l (begins s h)) ∙ w

-- what holds of the level, of the summary that is held
abbrev OfLine : (limit fed : ℕ) → OpenUnit → BlockLine → OpenUnit → Type 0
OfLine limit fed old l new =
    (s : Summary) → HoldsSummary old s → Fits limit s →
    (begins_after s l ≡ false) × IsAdded old.gathering.entities.now limit false s [] [] l new.level new.gathering × (new.joined ≡ joins_after s l)
    × (held_marks new ≡ marks_next false (joins_after s l) (held_marks old) (mark_after old.gathering.entities.now s (fed - unwrap_or old.begin 0)))

pub goes_on_with : (limit fed : ℕ) (old new : OpenUnit) (l : BlockLine) → new.gathering.entities.now ≡ old.gathering.entities.now → new.begin ≡ old.begin → OfLine limit fed old l new → HandsOn limit fed old l None new
goes_on_with limit fed old new l same begin f s h fits =
    let w = f s h fits in
    let t = w.0 in
    let e = old.gathering.entities.now in (
      w.1.0,
      ap (λ z. if z then option_map (list_between e s (held_marks old) fed) old.begin else None) (sym t),
      begin ∙ ap (λ z. if z then Some fed else old.begin) (sym t),
      subst (λ z. HoldsSummary new (line_added e (suc limit) (read_behind z s) l)) (sym t)
          (subst (λ z. HasGathered new.gathering [] [] (handed_nodes z false (line_added e (suc limit) s l)) × StandsFor z 0 false new.level (line_added e (suc limit) s l)) (sym same) (w.1.1, w.1.2)),
      w.2,
      subst (λ z. held_marks new ≡ marks_next z (joins_after s l) (held_marks old) (mark_after e s (fed - unwrap_or old.begin 0))) (sym t) w.3,
    )

-- a line that begins no item leaves those that are marked
abbrev NoItem : (limit : ℕ) → OpenUnit → BlockLine → OpenUnit → Type 0
NoItem limit old l new =
    (s : Summary) → HoldsSummary old s → Fits limit s →
    (begins_after s l ≡ false) × IsAdded old.gathering.entities.now limit false s [] [] l new.level new.gathering × (joins_after s l ≡ false)

no_item_on : (limit fed : ℕ) (old new : OpenUnit) (l : BlockLine) → new.gathering.entities.now ≡ old.gathering.entities.now → new.begin ≡ old.begin → new.joined ≡ false → new.joins ≡ old.joins →
    NoItem limit old l new → HandsOn limit fed old l None new
no_item_on limit fed old new l same begin apart joins f =
    goes_on_with limit fed old new l same begin
    (λ s h fits. let w = f s h fits in (
      w.0,
      w.1,
      apart ∙ sym w.2,
      ap (λ z. map join_mark z.items) joins ∙ ap (λ z. marks_next false z (held_marks old) (mark_after old.gathering.entities.now s (fed - unwrap_or old.begin 0))) (sym w.2),
    ))

pub follows_on : (limit fed : ℕ) (old new : OpenUnit) (l : BlockLine) → new.gathering.entities.now ≡ old.gathering.entities.now → new.begin ≡ old.begin → new.joined ≡ false → new.joins ≡ old.joins → l.lazy ≡ false →
    IsFollowed old.level l → AddsLine limit old.level old.gathering l new.level new.gathering → HandsOn limit fed old l None new
follows_on limit fed old new l same begin apart joins z followed adds =
    no_item_on limit fed old new l same begin apart joins
    (λ s h fits. let inside = followed old.gathering.entities.now 0 false s h.1 in (stays_in s l inside, adds false s [] [] (h.0, h.1, no_lazy s l z, fits), inside_apart s l inside))

-- a line that begins no block outside of what is open begins no unit
no_unit : (s : Summary) (l : BlockLine) (c : Continuation) → ContinuesLast (last_in s) l c → begins_block c l ≡ false → begins_after s l ≡ false
no_unit s l continuation.Matched w e = stays_in s l w.0
no_unit s l (continuation.Underlines level) w e = stays_in s l w.0
no_unit s l continuation.Delimits w e = stays_in s l w.0
no_unit s l continuation.Lazy w e = stays_in s l w.0
no_unit s l continuation.Between w e = stays_blank s l w.1
no_unit s l (continuation.Next marker) w e = stays_marked s l w.3
no_unit s l (continuation.Outside opening) w e = stays_blank s l (is_true (is_blank_line l) e)
  where
    is_true : (b : Bool) → not b ≡ false → b ≡ true
    is_true true e = refl
    is_true false e = absurd (not_both true refl e)

-- of such a line it is told whether it begins the next item of the list that stands last
item_joins : (s : Summary) (l : BlockLine) (c : Continuation) → ContinuesLast (last_in s) l c → begins_block c l ≡ false → joins_after s l ≡ begins_item c
item_joins s l continuation.Matched w e = inside_apart s l w.0
item_joins s l (continuation.Underlines level) w e = inside_apart s l w.0
item_joins s l continuation.Delimits w e = inside_apart s l w.0
item_joins s l continuation.Lazy w e = inside_apart s l w.0
item_joins s l continuation.Between w e = blank_apart s l w.1
item_joins s l (continuation.Next marker) w e = next_joins s l w.0 w.1 w.3
item_joins s l (continuation.Outside opening) w e = blank_apart s l (is_true (is_blank_line l) e)
  where
    is_true : (b : Bool) → not b ≡ false → b ≡ true
    is_true true e = refl
    is_true false e = absurd (not_both true refl e)

pub adds_on : (limit fed : ℕ) (old new : OpenUnit) (l : BlockLine) (c : Continuation) → new.gathering.entities.now ≡ old.gathering.entities.now → new.begin ≡ old.begin → new.joined ≡ false → new.joins ≡ old.joins → l.lazy ≡ false →
    ContinuesLevel old.level l c → begins_block c l ≡ false → begins_item c ≡ false → AddsLine limit old.level old.gathering l new.level new.gathering → HandsOn limit fed old l None new
adds_on limit fed old new l c same begin apart joins z continues stays none f =
    no_item_on limit fed old new l same begin apart joins
    (λ s h fits. let w = continues old.gathering.entities.now 0 false s h.1 (no_lazy s l z) in
    (no_unit s l c w stays, f false s [] [] (h.0, h.1, no_lazy s l z, fits), item_joins s l c w stays ∙ none))

pub sinks_on : (limit : ℕ) (old : OpenUnit) (l : BlockLine) → l.lazy ≡ false → SinksLine limit old.level old.gathering l → SinksBehind limit old l
sinks_on limit old l z f s h fits = f false s [] [] (h.0, h.1, no_lazy s l z, fits)

-- a line that begins a block outside of what is open begins a unit
pub begins_outside : (old : OpenUnit) (l : BlockLine) (c : Continuation) → l.lazy ≡ false → ContinuesLevel old.level l c → begins_block c l ≡ true → Begins old l
begins_outside old l continuation.Matched z f e s h = absurd (not_both true refl (sym e))
begins_outside old l (continuation.Underlines level) z f e s h = absurd (not_both true refl (sym e))
begins_outside old l continuation.Delimits z f e s h = absurd (not_both true refl (sym e))
begins_outside old l continuation.Lazy z f e s h = absurd (not_both true refl (sym e))
begins_outside old l continuation.Between z f e s h = absurd (not_both true refl (sym e))
begins_outside old l (continuation.Next marker) z f e s h = absurd (not_both true refl (sym e))
begins_outside old l (continuation.Outside opening) z f e s h =
    let w = f old.gathering.entities.now 0 false s h.1 (no_lazy s l z) in begins_where s l w.0 (is_false (is_blank_line l) e) w.1
  where
    is_false : (b : Bool) → not b ≡ true → b ≡ false
    is_false true e = absurd (not_both true refl (sym e))
    is_false false e = refl

shut_is : (x : OpenBlock) → is_shut x ≡ true → x ≡ open_block.Shut
shut_is open_block.Shut e = refl
shut_is (open_block.Leaf held) e = absurd (not_both true refl (sym e))
shut_is (open_block.Quote' p over last in_item begun blank spaced) e = absurd (not_both true refl (sym e))
shut_is (open_block.List' p over last in_item begun blank spaced list) e = absurd (not_both true refl (sym e))

pub begins_shut : (old : OpenUnit) (l : BlockLine) → l.lazy ≡ false → is_shut old.level.last ≡ true → is_blank_line l ≡ false → Begins old l
begins_shut old l z shut b s h =
    let w = shut_outside old.level l None (shut_is old.level.last shut) old.gathering.entities.now 0 false s h.1 (no_lazy s l z) in begins_where s l w.0 b w.1

-- ---- a blank line where nothing is open

blank_floats : (limit : ℕ) (l : BlockLine) → is_blank_line l ≡ true → sinks limit no_summary l ≡ false
unfolding is_apart_after sinks_at sinks_first start
blank_floats limit l b = sinks_is limit [] nothing_yet false 0 l ∙ ap (λ z. sinks_first (first_sinks limit) (unwrap_or (start_where z Free [] l) Paragraph) l) b

pub blank_on : (limit fed : ℕ) (old new : OpenUnit) (l : BlockLine) → is_shut old.level.last ≡ true → is_blank_line l ≡ true → l.lazy ≡ false →
    new.level ≡ record old.level { blank = true } → new.gathering ≡ old.gathering → new.begin ≡ old.begin → new.joined ≡ false → new.joins ≡ old.joins → HandsOn limit fed old l None new
unfolding line_added last_after begin_after ended_last handed_groups handed_last closed last_groups last_tip
blank_on limit fed old new l shut b z level gathering begin apart joins =
    no_item_on limit fed old new l (ap (λ (g : Gathering). g.entities.now) gathering) begin apart joins (λ s h fits. (stays_blank s l b, added s h, blank_apart s l b))
  where
    e : EntityTable
    e = old.gathering.entities.now

    outside : (before : List Group) (last : Last) (m : Bool) (n : ℕ) → HoldsSummary old (summary before last m n) → is_apart_after last l ≡ true
    outside before last m n h = (shut_outside old.level l None (shut_is old.level.last shut) e 0 false (summary before last m n) h.1 (no_lazy (summary before last m n) l z)).0

    behind : (before : List Group) (last : Last) (m : Bool) (n : ℕ) → HoldsSummary old (summary before last m n) → last_after e (line_added e limit) last (summary before last m n) l ≡ summary before last true (suc n) →
        is_apart_after last l ≡ true → summary_gap last true ≡ true →
        IsAdded e limit false (summary before last m n) [] [] l new.level new.gathering
    behind before last m n h next apart gap = (
      apart_sinks limit (summary before last m n) l apart ∙ blank_floats limit l b,
      subst (λ g. HasGathered g [] [] (handed_nodes e false (line_added e (suc limit) (summary before last m n) l))) (sym gathering)
          (subst (λ s. HasGathered old.gathering [] [] (handed_nodes e false s)) (sym next) h.0),
      subst (λ v. StandsFor e 0 false v (line_added e (suc limit) (summary before last m n) l)) (sym level)
          (subst (λ s. StandsFor e 0 false (record old.level { blank = true }) s) (sym next) ((h.1.0.0, h.1.0.1, h.1.0.2, sym gap, h.1.0.4), h.1.1)),
    )

    go : (before : List Group) (last : Last) (m : Bool) (n : ℕ) → HoldsSummary old (summary before last m n) → StandsForLast e (behind_over e 0 false before last) open_block.Shut before last →
        IsAdded e limit false (summary before last m n) [] [] l new.level new.gathering
    go before nothing_yet m n h st = behind before nothing_yet m n h (ap (λ x. begin_after e (line_added e limit) x (summary before nothing_yet m n) l) b) (outside before nothing_yet m n h) refl
    go before (ended_block g) m n h st = behind before (ended_block g) m n h (ap (λ x. begin_after e (line_added e limit) x (summary before (ended_block g) m n) l) b) (outside before (ended_block g) m n h) refl
    go before (open_leaf begin gap leaf) m n h st = absurd st
    go before (open_container begin gap bare container inner) m n h st = absurd st

    added : (s : Summary) → HoldsSummary old s → IsAdded e limit false s [] [] l new.level new.gathering
    added (summary before last m n) h =
        go before last m n h (subst (λ x. StandsForLast e (behind_over e 0 false before last) x before last) (shut_is old.level.last shut) h.1.1)

-- ---- a unit's first line

shut_of : (e : EntityTable) (at : ℕ) (x : OpenBlock) → StandsForLast e at x [] nothing_yet → IsShut x
shut_of e at open_block.Shut st = tt
shut_of e at (open_block.Leaf held) st = absurd st
shut_of e at (open_block.Quote' p over last in_item begun blank spaced) st = absurd st
shut_of e at (open_block.List' p over last in_item begun blank spaced list) st = absurd st

-- A unit begins behind no lines, of which all blocks are over.
pub begins_fresh : (limit fed : ℕ) (old held new : OpenUnit) (l : BlockLine) (found : Option FoundList) → GivesUnit old fed found → HoldsSummary held no_summary → new.begin ≡ Some fed → new.joined ≡ false → new.joins.items ≡ [] →
    held.gathering.entities.now ≡ old.gathering.entities.now → new.gathering.entities.now ≡ held.gathering.entities.now →
    BeginsBehind limit held.level held.gathering l new.level new.gathering → sinks limit no_summary l ≡ false → BeginsUnit limit fed old l found new
unfolding line_added last_after mark_of closed last_groups handed_groups handed_last
begins_fresh limit fed old held new l found given h begin apart none same still f floats =
    let mine = held.gathering.entities.now in
    let w = f false no_summary [] [] h.0 (h.1.0.0, h.1.0.1, h.1.0.2, h.1.0.3, h.1.0.4, shut_of mine _ held.level.last h.1.1, refl) (refl, λ _. refl) in
    let kept = subst (λ e. HasGathered new.gathering [] [] (handed_nodes e false (line_added mine (suc limit) no_summary l)) × StandsFor e 0 false new.level (line_added mine (suc limit) no_summary l))
    (sym still) (w.0, w.1) in
    (given, begin, floats, subst (λ e. HoldsSummary new (line_added e (suc limit) no_summary l)) same kept, apart, none)

-- what a line that follows nothing leaves as it was
-- ---- the reader

abbrev state_of : EntityTable → (limit fed : ℕ) → OpenUnit → ReaderState
state_of e limit fed held = record { entities = e; limit = limit; fed = fed; held = Some (unit_so_far held) }

-- what a reader that stands for some lines holds
holds_of : (limit : ℕ) (e mine : EntityTable) (own fed : ℕ) (held : OpenUnit) (ls : List (List ℕ)) → held.gathering.entities.now ≡ mine → Reads limit e (state_of mine own fed held) ls →
    HoldsSummary held (summary_of e (lines_held [] (map document_line ls)))
unfolding Reads
holds_of limit e mine own fed held ls same r =
    let h = r.4.3 in
    subst (λ z. HasGathered held.gathering [] [] (handed_nodes z false (summary_of e (lines_held [] (map document_line ls)))) × StandsFor z 0 false held.level (summary_of e (lines_held [] (map document_line ls))))
    (sym (same ∙ r.0)) ((h.0, h.1), h.2)

too_deep_fits : (limit : ℕ) (e mine : EntityTable) (own fed : ℕ) (held : OpenUnit) (ls : List (List ℕ)) → Reads limit e (state_of mine own fed held) ls →
    Fits limit (summary_of e (lines_held [] (map document_line ls)))
unfolding Reads
too_deep_fits limit e mine own fed held ls r = held_lines_fit e limit (map document_line ls) r.3

pub reads_next : (limit : ℕ) (e mine : EntityTable) (own fed : ℕ) (held new : OpenUnit) (found : Option FoundList) (text : List ℕ) (ls : List (List ℕ)) →
    held.gathering.entities.now ≡ mine → new.gathering.entities.now ≡ mine → HandsOn own fed held (document_line text) found new →
    Reads limit e (state_of mine own fed held) ls → Reads limit e (state_of mine own (fed + 1) new) (ls ++ text ∷ [])
unfolding Reads
reads_next limit e mine own fed held new found text ls same still f r =
    let s = summary_of e (lines_held [] (map document_line ls)) in
    let l = document_line text in
    let there = same ∙ r.0 in
    let w = subst (λ z. HandsOn z fed held l found new) r.1 f s (holds_of limit e mine own fed held ls same r) (too_deep_fits limit e mine own fed held ls r) in
    let deep : first_too_deep limit (ls ++ text ∷ []) ≡ None = too_deep_next limit e ls text r.3 ∙ ap (λ z. if z then Some (length ls) else None) w.0 in
    let next = held_next_summary limit e ls text r.3 deep in
    let holds = subst (λ z. HoldsSummary new (line_added z (suc limit) (read_behind (begins_after s l) s) l)) there w.3 in
    let kept = subst (λ z. HasGathered new.gathering [] [] (handed_nodes z false (summary_of e (lines_held [] (map document_line (ls ++ text ∷ []))))) × StandsFor z 0 false new.level (summary_of e (lines_held [] (map document_line (ls ++ text ∷ []))))) (still ∙ r.0)
    (subst (HoldsSummary new) (sym next) holds) in (
      r.0,
      r.1,
      ap (λ z. z + 1) r.2 ∙ sym (length-append ls (text ∷ [])),
      deep,
      (
        w.2 ∙ ap (λ z. if begins_after s l then Some z else held.begin) r.2 ∙ ap (λ z. if begins_after s l then Some (length ls) else z) r.4.0 ∙ sym (open_next e ls text),
        w.4 ∙ sym (joined_behind_held e ls text),
        marks_read e ls text (held_marks held) (held_marks new) fed held.begin r.2 r.4.0 r.4.2 (subst (λ z. held_marks new ≡ marks_next (begins_after s l) (joins_after s l) (held_marks held) (mark_after z s (fed - unwrap_or held.begin 0))) there w.5),
        (kept.0.0, kept.0.1, kept.1),
      ),
    )
  where
    held_next_summary : (limit : ℕ) (e : EntityTable) (ls : List (List ℕ)) (text : List ℕ) → first_too_deep limit ls ≡ None → first_too_deep limit (ls ++ text ∷ []) ≡ None →
        summary_of e (lines_held [] (map document_line (ls ++ text ∷ [])))
        ≡ line_added e (suc limit) (read_behind (begins_after (summary_of e (lines_held [] (map document_line ls))) (document_line text)) (summary_of e (lines_held [] (map document_line ls)))) (document_line text)
    held_next_summary limit e ls text w v =
        ap (λ z. summary_of e (lines_held [] z)) (with_line ls text)
        ∙ held_summary_next e limit (map document_line ls) (document_line text) w (ap (deep_within limit) (sym (with_line ls text)) ∙ v)

-- what is handed out with a line
given_next : (limit : ℕ) (e mine : EntityTable) (own fed : ℕ) (held new : OpenUnit) (found : Option FoundList) (text : List ℕ) (ls : List (List ℕ)) →
    held.gathering.entities.now ≡ mine → HandsOn own fed held (document_line text) found new → Reads limit e (state_of mine own fed held) ls →
    found ≡ (let s = summary_of e (lines_held [] (map document_line ls)) in
    if begins_after s (document_line text) then option_map (list_between e s (held_marks held) (length ls)) (open_begin e ls) else None)
unfolding Reads
given_next limit e mine own fed held new found text ls same f r =
    let s = summary_of e (lines_held [] (map document_line ls)) in
    let l = document_line text in
    let w = subst (λ z. HandsOn z fed held l found new) r.1 f s (holds_of limit e mine own fed held ls same r) (too_deep_fits limit e mine own fed held ls r) in
    let marks = held_marks held in
    w.1
    ∙ ap (λ z. if begins_after s l then option_map (list_between z s marks fed) held.begin else None) (same ∙ r.0)
    ∙ ap (λ z. if begins_after s l then option_map (list_between e s marks z) held.begin else None) r.2
    ∙ ap (λ z. if begins_after s l then option_map (list_between e s marks (length ls)) z else None) r.4.0

-- a unit without its later items
unit_between : (e : EntityTable) (s : Summary) (marks : List ItemMark) (n : ℕ) (begin : Option ℕ) → option_map found_unit (option_map (list_between e s marks n) begin) ≡ option_map (found_between e s n) begin
unit_between e s marks n None = refl
unit_between e s marks n (Some k) = refl

pub hands_next : (limit : ℕ) (e mine : EntityTable) (own fed : ℕ) (held new : OpenUnit) (found : Option FoundList) (text : List ℕ) (ls : List (List ℕ)) →
    held.gathering.entities.now ≡ mine → HandsOn own fed held (document_line text) found new →
    Reads limit e (state_of mine own fed held) ls → handed e (ls ++ text ∷ []) ≡ handed e ls ++ option_to_list (option_map found_unit found)
hands_next limit e mine own fed held new found text ls same f r =
    let s = summary_of e (lines_held [] (map document_line ls)) in
    let l = document_line text in
    let given = given_next limit e mine own fed held new found text ls same f r in
    handed_next e ls text
    ∙ go (begins_after s l)
    ∙ ap (λ z. handed e ls ++ option_to_list (option_map found_unit z)) (sym given)
  where
    S : Summary
    S = summary_of e (lines_held [] (map document_line ls))

    go : (b : Bool) →
        (if b then units e ls else handed e ls)
        ≡ handed e ls ++ option_to_list (option_map found_unit (if b then option_map (list_between e S (held_marks held) (length ls)) (open_begin e ls) else None))
    go true = units_last e ls ∙ ap (λ z. handed e ls ++ option_to_list z) (sym (unit_between e S (held_marks held) (length ls) (open_begin e ls)))
    go false = sym (append-nil (handed e ls))

pub joins_next : (limit : ℕ) (e mine : EntityTable) (own fed : ℕ) (held new : OpenUnit) (found : Option FoundList) (text : List ℕ) (ls : List (List ℕ)) →
    held.gathering.entities.now ≡ mine → HandsOn own fed held (document_line text) found new → Reads limit e (state_of mine own fed held) ls → IfSome found (AreJoinsOf e ls)
unfolding Reads
joins_next limit e mine own fed held new found text ls same f r =
    let s = summary_of e (lines_held [] (map document_line ls)) in
    subst (λ z. IfSome z (AreJoinsOf e ls)) (sym (given_next limit e mine own fed held new found text ls same f r))
    (go (begins_after s (document_line text)) (joins_between e ls s (held_marks held) (length ls) r.4.2))
  where
    go : (b : Bool) → IfSome (option_map (list_between e (summary_of e (lines_held [] (map document_line ls))) (held_marks held) (length ls)) (open_begin e ls)) (AreJoinsOf e ls) →
        IfSome (if b then option_map (list_between e (summary_of e (lines_held [] (map document_line ls))) (held_marks held) (length ls)) (open_begin e ls) else None) (AreJoinsOf e ls)
    go true w = w
    go false w = tt

pub stands_next : (limit : ℕ) (e mine : EntityTable) (own fed : ℕ) (held new : OpenUnit) (found : Option FoundList) (text : List ℕ) (ls : List (List ℕ)) →
    held.gathering.entities.now ≡ mine → HandsOn own fed held (document_line text) found new → Reads limit e (state_of mine own fed held) ls → IfSome found (λ f. StandsForUnit e f (drop f.begin ls))
unfolding Reads
stands_next limit e mine own fed held new found text ls same f r =
    let s = summary_of e (lines_held [] (map document_line ls)) in
    subst (λ z. IfSome z (λ f. StandsForUnit e f (drop f.begin ls))) (sym (given_next limit e mine own fed held new found text ls same f r))
    (go (begins_after s (document_line text)) (stands_between e ls (held_marks held) r.4.2))
  where
    go : (b : Bool) → IfSome (option_map (list_between e (summary_of e (lines_held [] (map document_line ls))) (held_marks held) (length ls)) (open_begin e ls)) (λ f. StandsForUnit e f (drop f.begin ls)) →
        IfSome (if b then option_map (list_between e (summary_of e (lines_held [] (map document_line ls))) (held_marks held) (length ls)) (open_begin e ls) else None) (λ f. StandsForUnit e f (drop f.begin ls))
    go true w = w
    go false w = tt

pub deep_next : (limit : ℕ) (e mine : EntityTable) (own fed : ℕ) (held : OpenUnit) (text : List ℕ) (ls : List (List ℕ)) →
    held.gathering.entities.now ≡ mine → SinksBehind own held (document_line text) →
    Reads limit e (state_of mine own fed held) ls → first_too_deep limit (ls ++ text ∷ []) ≡ Some (length ls)
unfolding Reads
deep_next limit e mine own fed held text ls same f r =
    let s = summary_of e (lines_held [] (map document_line ls)) in
    too_deep_next limit e ls text r.3
    ∙ ap (λ z. if z then Some (length ls) else None)
    (subst (λ z. SinksBehind z held (document_line text)) r.1 f s (holds_of limit e mine own fed held ls same r) (too_deep_fits limit e mine own fed held ls r))

given_last : (limit : ℕ) (e mine : EntityTable) (own fed : ℕ) (held : OpenUnit) (found : Option FoundList) (ls : List (List ℕ)) →
    held.gathering.entities.now ≡ mine → GivesUnit held fed found → Reads limit e (state_of mine own fed held) ls →
    found ≡ option_map (list_between e (summary_of e (lines_held [] (map document_line ls))) (held_marks held) (length ls)) (open_begin e ls)
unfolding Reads
given_last limit e mine own fed held found ls same gives r =
    let s = summary_of e (lines_held [] (map document_line ls)) in
    let marks = held_marks held in
    gives s (holds_of limit e mine own fed held ls same r)
    ∙ ap (λ z. option_map (list_between z s marks fed) held.begin) (same ∙ r.0)
    ∙ ap (λ z. option_map (list_between e s marks z) held.begin) r.2
    ∙ ap (λ z. option_map (list_between e s marks (length ls)) z) r.4.0

pub finish_hands : (limit : ℕ) (e mine : EntityTable) (own fed : ℕ) (held : OpenUnit) (found : Option FoundList) (ls : List (List ℕ)) →
    held.gathering.entities.now ≡ mine → GivesUnit held fed found → Reads limit e (state_of mine own fed held) ls → units e ls ≡ handed e ls ++ option_to_list (option_map found_unit found)
finish_hands limit e mine own fed held found ls same gives r =
    let s = summary_of e (lines_held [] (map document_line ls)) in
    units_last e ls
    ∙ ap (λ z. handed e ls ++ option_to_list z) (sym (unit_between e s (held_marks held) (length ls) (open_begin e ls)))
    ∙ ap (λ z. handed e ls ++ option_to_list (option_map found_unit z)) (sym (given_last limit e mine own fed held found ls same gives r))

pub finish_joins : (limit : ℕ) (e mine : EntityTable) (own fed : ℕ) (held : OpenUnit) (found : Option FoundList) (ls : List (List ℕ)) →
    held.gathering.entities.now ≡ mine → GivesUnit held fed found → Reads limit e (state_of mine own fed held) ls → IfSome found (AreJoinsOf e ls)
unfolding Reads
finish_joins limit e mine own fed held found ls same gives r =
    subst (λ z. IfSome z (AreJoinsOf e ls)) (sym (given_last limit e mine own fed held found ls same gives r))
    (joins_between e ls (summary_of e (lines_held [] (map document_line ls))) (held_marks held) (length ls) r.4.2)

pub finish_stands : (limit : ℕ) (e mine : EntityTable) (own fed : ℕ) (held : OpenUnit) (found : Option FoundList) (ls : List (List ℕ)) →
    held.gathering.entities.now ≡ mine → GivesUnit held fed found → Reads limit e (state_of mine own fed held) ls → IfSome found (λ f. StandsForUnit e f (drop f.begin ls))
unfolding Reads
finish_stands limit e mine own fed held found ls same gives r =
    subst (λ z. IfSome z (λ f. StandsForUnit e f (drop f.begin ls))) (sym (given_last limit e mine own fed held found ls same gives r))
    (stands_between e ls (held_marks held) r.4.2)
