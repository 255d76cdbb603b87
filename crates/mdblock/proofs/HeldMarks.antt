-- What a reader holds of the last unit: where it begins, and its later items where it is a list.
use Rattle.std.proofs.Common.{◌≡◌, ℕ, suc, ◌+◌, ◌-◌, Bool, true, false, List, [], ◌∷◌, ◌++◌, length, map, Option, Some, None, refl, sym, ◌∙◌, ap, subst, arith}
use Rattle.std.proofs.lemmas.List.{map-append, append-nil, drop-map}
use Rattle.std.proofs.Math.Seq.{drop-append-add}
use Rattle.std.specs.List.{flat_map}
use Rattle.std.specs.Option.{option_map}
use Rattle.std.specs.Prelude.{IfSome, drop, if◌then◌else◌, unwrap_or, ◌||◌}
use Rattle.mdtext.specs.EntityTable.{EntityTable}
use Rattle.blockspec.specs.BlockLine.{BlockLine, document_line}
use Rattle.blockspec.specs.BlockUnits.{groups}
use Rattle.blockspec.specs.LineSummary.{Summary, summary_of, begins_after}
use Rattle.blockspec.specs.Lists.{Group, nodes_of}
use Rattle.blockspec.specs.Meetings.{joins_list}
use Rattle.blockspec.specs.NodeTree.{texts_in, definitions_in}
use Rattle.blockspec.specs.UnitBegin.{begins_unit, units_of, shift_found}
use Rattle.blockspec.specs.UnitReader.{lines_held}
use Rattle.blockspec.specs.UnitTree.{FoundUnit}
use Rattle.blockspec.proofs.BeginLaws.{begins_in}
use Rattle.blockspec.proofs.DocumentLaws.{document_units}
use Rattle.blockspec.proofs.HandedLaws.{IsBehind, front_units, front_lines, front_and_held, lines_before_held, held_behind, held_one}
use Rattle.blockspec.proofs.LimitLaws.{for_next_line}
use Rattle.blockspec.proofs.ReaderLaws.{summary_closed, summary_begins}
use Rattle.blockspec.proofs.UnitReaderLaws.{IsOne}
use Rattle.blockspec.specs.ItemMarks.{ItemMark, is_parted, list_marks, mark_behind, marks_next, join_of}
use Rattle.blockspec.specs.Joins.{block_joins}
use Rattle.blockspec.specs.TopBlocks.{top_blocks}
use Rattle.blockspec.specs.SummaryJoins.{joins_after, is_parted_after, gap_in}
use Rattle.blockspec.proofs.LastJoins.{summary_joins}
use Rattle.blockspec.proofs.LastParted.{summary_parted, summary_gapped}
use Rattle.blockspec.proofs.MarkLines.{held_marks, marks_join}
use Rattle.blockspec.proofs.UnitsMeet.{units_meet_inside}
use Rattle.mdblock.specs.FoundLists.{AreJoinsOf}
use Rattle.mdblock.specs.held.HeldLevel.{list_between}
use Rattle.mdblock.specs.held.Reads.{mark_after, open_begin, last_of}

-- ---- where it begins

pub last_behind : (ns : List ℕ) (n : ℕ) → last_of (ns ++ n ∷ []) ≡ Some n
last_behind [] n = refl
last_behind (m ∷ []) n = refl
last_behind (m ∷ k ∷ ns) n = last_behind (k ∷ ns) n

-- the lines before what is held, if a unit is
abbrev pub begin_held : ℕ → List ℕ → Option ℕ
begin_held k [] = None
begin_held k (n ∷ ns) = Some k

-- where the unit that is held begins
pub begin_is : (e : EntityTable) (xs : List BlockLine) → last_of (begins_in (units_of e xs)) ≡ begin_held (front_lines [] xs) (begins_in (units_of e (lines_held [] xs)))
begin_is e xs = ap (λ z. last_of (begins_in z)) (front_and_held e [] xs) ∙ go (front_units e [] xs) (units_of e (lines_held [] xs)) (held_one e xs) (held_behind e [] xs)
  where
    k : ℕ
    k = front_lines [] xs

    go : (front us : List FoundUnit) → IsOne (begins_in us) → IsBehind front us → last_of (begins_in (front ++ map (shift_found k) us)) ≡ begin_held k (begins_in us)
    go [] [] one behind = refl
    go (u ∷ front) [] one behind = absurd behind
    go front (v ∷ []) one behind =
        let x = shift_found k v in
        let at : x.begin ≡ k = omega (arith, one) in
        ap last_of (map-append (λ (u : FoundUnit). u.begin) front (x ∷ [])) ∙ last_behind (begins_in front) x.begin ∙ ap (λ z. Some z) at
    go front (v ∷ w ∷ us) one behind = absurd one

pub lines_mapped : (ls : List (List ℕ)) → length (map document_line ls) ≡ length ls
lines_mapped [] = refl
lines_mapped (l ∷ ls) = ap suc (lines_mapped ls)

-- the lines with one more
pub with_line : (ls : List (List ℕ)) (l : List ℕ) → map document_line (ls ++ l ∷ []) ≡ map document_line ls ++ document_line l ∷ []
with_line ls l = map-append document_line ls (l ∷ [])

-- the same of a document
pub open_is : (e : EntityTable) (ls : List (List ℕ)) → (let xs = map document_line ls in open_begin e ls ≡ begin_held (front_lines [] xs) (begins_in (units_of e (lines_held [] xs))))
open_is e ls = ap (λ z. last_of (begins_in z)) (document_units e ls) ∙ begin_is e (map document_line ls)

-- ---- the lines that are held are the last ones

pub held_rest : (xs ls : List BlockLine) → lines_held xs ls ≡ drop (front_lines xs ls) (xs ++ ls)
unfolding lines_held front_lines
held_rest xs [] = sym (append-nil xs)
held_rest xs (l ∷ ls) = go (begins_unit xs l) (held_rest (l ∷ []) ls) (held_rest (xs ++ l ∷ []) ls)
  where
    go : (b : Bool) → lines_held (l ∷ []) ls ≡ drop (front_lines (l ∷ []) ls) (l ∷ ls) → lines_held (xs ++ l ∷ []) ls ≡ drop (front_lines (xs ++ l ∷ []) ls) ((xs ++ l ∷ []) ++ ls) →
        (if b then lines_held (l ∷ []) ls else lines_held (xs ++ l ∷ []) ls) ≡ drop (if b then length xs + front_lines (l ∷ []) ls else front_lines (xs ++ l ∷ []) ls) (xs ++ l ∷ ls)
    go true new old = new ∙ sym (drop-append-add xs (l ∷ ls) (front_lines (l ∷ []) ls))
    go false new old = old ∙ ap (drop (front_lines (xs ++ l ∷ []) ls)) (for_next_line xs l ls)

begin_zero : (k : ℕ) (ns : List ℕ) → Some 0 ≡ begin_held k ns → k ≡ 0
begin_zero k [] e = absurd (let x : ⊥ = cc in x)
begin_zero k (n ∷ ns) e = cc

-- lines that are one unit from the first one on
pub all_held : (e : EntityTable) (xs : List BlockLine) (v : FoundUnit) → units_of e xs ≡ v ∷ [] → v.begin ≡ 0 → lines_held [] xs ≡ xs
all_held e xs v is zero =
    let k = front_lines [] xs in
    let begins : Some 0 ≡ begin_held k (begins_in (units_of e (lines_held [] xs))) = ap (λ z. Some z) (sym zero) ∙ sym (ap (λ z. last_of (begins_in z)) is) ∙ begin_is e xs in
    held_rest [] xs ∙ ap (λ z. drop z xs) (begin_zero k (begins_in (units_of e (lines_held [] xs))) begins)

-- ---- what is handed out has the later items of its lines

pub begun_at : (k : ℕ) (ns : List ℕ) (P : ℕ → Type 0) → P k → IfSome (begin_held k ns) P
begun_at k [] P p = tt
begun_at k (n ∷ ns) P p = p

pub if_mapped : {A B : Type 0} (f : A → B) (P : B → Type 0) (o : Option A) → IfSome o (λ a. P (f a)) → IfSome (option_map f o) P
if_mapped f P None w = tt
if_mapped f P (Some a) w = w

pub joins_between : (e : EntityTable) (ls : List (List ℕ)) (s : Summary) (marks : List ItemMark) (fed : ℕ) → marks ≡ list_marks e (lines_held [] (map document_line ls)) →
    IfSome (option_map (list_between e s marks fed) (open_begin e ls)) (AreJoinsOf e ls)
joins_between e ls s marks fed is =
    let xs = map document_line ls in
    let k = front_lines [] xs in
    let H = lines_held [] xs in
    let rest : H ≡ map document_line (drop k ls) = held_rest [] xs ∙ drop-map document_line k ls in
    let joins : map join_of marks ≡ flat_map block_joins (top_blocks e (map document_line (drop k ls))) =
    ap (map join_of) is ∙ marks_join (top_blocks e H) ∙ ap (λ z. flat_map block_joins (top_blocks e z)) rest in
    if_mapped (list_between e s marks fed) (AreJoinsOf e ls) (open_begin e ls)
    (subst (λ z. IfSome z (λ begin. map join_of marks ≡ flat_map block_joins (top_blocks e (map document_line (drop begin ls))))) (sym (open_is e ls))
    (begun_at k (begins_in (units_of e H)) (λ begin. map join_of marks ≡ flat_map block_joins (top_blocks e (map document_line (drop begin ls)))) joins))

-- ---- one line more

full_begin : (k : ℕ) (us : List FoundUnit) (v : FoundUnit) → begin_held k (begins_in (us ++ v ∷ [])) ≡ Some k
full_begin k [] v = refl
full_begin k (u ∷ us) v = refl

-- the line of the unit at which its next item begins
next_line : (e : EntityTable) (ls : List (List ℕ)) (l : BlockLine) → (let xs = map document_line ls in joins_list (lines_held [] xs) l ≡ true → length ls - unwrap_or (open_begin e ls) 0 ≡ length (lines_held [] xs))
next_line e ls l j =
    let xs = map document_line ls in
    let H = lines_held [] xs in
    let k = front_lines [] xs in
    let w = units_meet_inside e H l [] j in
    let begin : open_begin e ls ≡ Some k = open_is e ls ∙ ap (λ z. begin_held k (begins_in z)) w.front ∙ full_begin k w.us w.last in
    let n = lines_before_held [] xs in
    let m = lines_mapped ls in
    let rest : length ls - k ≡ length H = omega (arith, n, m) in
    ap (λ z. length ls - unwrap_or z 0) begin ∙ rest

same_next : (begins joins : Bool) (marks : List ItemMark) (one other : ItemMark) → (joins ≡ true → one ≡ other) → marks_next begins joins marks one ≡ marks_next begins joins marks other
same_next true joins marks one other w = refl
same_next false true marks one other w = ap (λ z. marks ++ z ∷ []) (w refl)
same_next false false marks one other w = refl

abbrev mark_of_groups : ℕ → List Group → Bool → ItemMark
mark_of_groups n gs loose = record { line = n; texts = length (texts_in (nodes_of gs)); definitions = length (definitions_in (nodes_of gs)); loose = loose }

mark_is : (e : EntityTable) (H : List BlockLine) (n : ℕ) → n ≡ length H → mark_after e (summary_of e H) n ≡ mark_behind e H
mark_is e H n is =
    ap (λ z. mark_after e (summary_of e H) z) is
    ∙ ap (λ z. mark_of_groups (length H) z (is_parted_after e (summary_of e H) || gap_in (summary_of e H))) (sym (summary_closed e H))
    ∙ ap (λ z. mark_of_groups (length H) (groups e H) (z || gap_in (summary_of e H))) (sym (summary_parted e H))
    ∙ ap (λ z. mark_of_groups (length H) (groups e H) (is_parted (top_blocks e H) || z)) (sym (summary_gapped e H))

pub marks_read : (e : EntityTable) (ls : List (List ℕ)) (text : List ℕ) (old new : List ItemMark) (fed : ℕ) (begin : Option ℕ) → fed ≡ length ls → begin ≡ open_begin e ls →
    old ≡ list_marks e (lines_held [] (map document_line ls)) →
    (let s = summary_of e (lines_held [] (map document_line ls)) in new ≡ marks_next (begins_after s (document_line text)) (joins_after s (document_line text)) old (mark_after e s (fed - unwrap_or begin 0))) →
    new ≡ list_marks e (lines_held [] (map document_line (ls ++ text ∷ [])))
marks_read e ls text old new fed begin fed_is begin_at was is =
    let xs = map document_line ls in
    let l = document_line text in
    let H = lines_held [] xs in
    let s = summary_of e H in
    let b = begins_after s l in
    let j = joins_after s l in
    let line : fed - unwrap_or begin 0 ≡ length ls - unwrap_or (open_begin e ls) 0 = ap (λ z. z - unwrap_or begin 0) fed_is ∙ ap (λ z. length ls - unwrap_or z 0) begin_at in
    is
    ∙ same_next b j old (mark_after e s (fed - unwrap_or begin 0)) (mark_behind e H) (λ w. mark_is e H (fed - unwrap_or begin 0) (line ∙ next_line e ls l (summary_joins e H l ∙ w)))
    ∙ ap (λ z. marks_next b j z (mark_behind e H)) was
    ∙ ap (λ z. marks_next z j (list_marks e H) (mark_behind e H)) (sym (summary_begins e H l))
    ∙ ap (λ z. marks_next (begins_unit H l) z (list_marks e H) (mark_behind e H)) (sym (summary_joins e H l))
    ∙ sym (held_marks e xs l)
    ∙ ap (λ z. list_marks e (lines_held [] z)) (sym (with_line ls text))
