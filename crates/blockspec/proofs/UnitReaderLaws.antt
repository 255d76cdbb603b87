-- A reader that keeps the summary of one unit's lines hands out the units of all lines, and refuses the first line of a
-- container too many.
use Rattle.std.proofs.Common.{◌≡◌, ℕ, suc, ◌+◌, ◌-◌, ◌≤◌, Bool, true, false, List, [], ◌∷◌, ◌++◌, length, map, Option, Some, None, refl, sym, ◌∙◌, ap, subst, arith}
use Rattle.std.proofs.lemmas.List.{map-append, append-nil}
use Rattle.std.specs.Option.{option_or}
use Rattle.std.specs.Prelude.{if◌then◌else◌}
use Rattle.mdtext.specs.EntityTable.{EntityTable}
use Rattle.blockspec.specs.BlockLine.{BlockLine, document_line}
use Rattle.blockspec.specs.BlockUnits.{groups_within, groups, found_units, units}
use Rattle.blockspec.specs.LineSummary.{no_summary, line_added, summary_of, begins_after}
use Rattle.blockspec.specs.Lists.{grouped}
use Rattle.blockspec.specs.Nesting.{deep_within, first_too_deep}
use Rattle.blockspec.specs.Stretches.{all_of, cut_from}
use Rattle.blockspec.specs.SummaryDepth.{sinks}
use Rattle.blockspec.specs.UnitBegin.{begins_unit, units_of, shift_found}
use Rattle.blockspec.specs.UnitReader.{read_behind, units_held, units_handed, unit_fault, lines_held, summary_held}
use Rattle.blockspec.specs.UnitTree.{FoundUnit}
use Rattle.blockspec.proofs.BeginLaws.{begins_in, begins_next}
use Rattle.blockspec.proofs.DocumentLaws.{units_meet, document_units}
use Rattle.blockspec.proofs.LimitLaws.{none_deep, or_second, moved_none, front_none, for_next_line, one_longer, summary_limited}
use Rattle.blockspec.proofs.NestingLaws.{moved_on, deep_stays}
use Rattle.blockspec.proofs.NestingMeets.{moved_twice, deep_meets}
use Rattle.blockspec.proofs.ReaderLaws.{summary_none, summary_closed, summary_begins, summary_sinks}

-- ---- what it holds

-- the units of the lines that are held
pub held_units : (e : EntityTable) (begin : ℕ) (xs : List BlockLine) → units_held e begin (begin + length xs) (summary_of e xs) ≡ map (shift_found begin) (units_of e xs)
held_units e begin xs =
    let n : begin + length xs - begin ≡ length xs = omega arith in
    ap (λ z. map (shift_found begin) (found_units z (begin + length xs - begin))) (sym (summary_closed e xs))
    ∙ ap (λ z. map (shift_found begin) (found_units (groups e xs) z)) n

-- the first line of a unit, read behind none
of_first_line : (e : EntityTable) (limit : ℕ) (l : BlockLine) → deep_within limit (l ∷ []) ≡ None → line_added e (suc limit) no_summary l ≡ summary_of e (l ∷ [])
of_first_line e limit l w = ap (λ z. line_added e (suc limit) z l) (sym (summary_none e)) ∙ sym (summary_limited e limit [] l w)

-- from a line on that begins a unit there is no container too many, where there is none in all lines
rest_none : (limit : ℕ) (xs : List BlockLine) (l : BlockLine) (ls : List BlockLine) → begins_unit xs l ≡ true → deep_within limit (xs ++ l ∷ ls) ≡ None → deep_within limit (l ∷ ls) ≡ None
rest_none limit xs l ls b w =
    moved_none (length xs) (deep_within limit (l ∷ ls)) (or_second (deep_within limit xs) (moved_on (length xs) (deep_within limit (l ∷ ls))) (sym (deep_meets limit xs l ls b) ∙ w))

-- ---- units

pub shift_twice : (k n : ℕ) (us : List FoundUnit) → map (shift_found k) (map (shift_found n) us) ≡ map (shift_found (k + n)) us
shift_twice k n [] = refl
shift_twice k n (u ∷ us) =
    let e : u.begin + n + k ≡ u.begin + (k + n) = omega arith in
    ap (λ z. record { begin = z; lines = u.lines; unit = u.unit } ∷ map (shift_found k) (map (shift_found n) us)) e
    ∙ ap (λ z. shift_found (k + n) u ∷ z) (shift_twice k n us)

pub shift_none : (us : List FoundUnit) → map (shift_found 0) us ≡ us
shift_none [] = refl
shift_none (u ∷ us) =
    let e : u.begin + 0 ≡ u.begin = omega arith in
    ap (λ z. record { begin = z; lines = u.lines; unit = u.unit } ∷ map (shift_found 0) us) e ∙ ap (λ z. u ∷ z) (shift_none us)

handed_from : (e : EntityTable) (limit begin : ℕ) (xs ls : List BlockLine) → deep_within limit (xs ++ ls) ≡ None →
    units_handed e limit begin (begin + length xs) (summary_of e xs) ls ≡ map (shift_found begin) (units_of e (xs ++ ls))
unfolding units_handed
handed_from e limit begin xs [] w = held_units e begin xs ∙ ap (λ z. map (shift_found begin) (units_of e z)) (sym (append-nil xs))
handed_from e limit begin xs (l ∷ ls) w =
    go (begins_after (summary_of e xs) l) (summary_begins e xs l) (λ v. handed_from e limit (begin + length xs) (l ∷ []) ls v) (λ v. handed_from e limit begin (xs ++ l ∷ []) ls v)
  where
    n : ℕ
    n = length xs

    go : (b : Bool) → begins_unit xs l ≡ b →
        (deep_within limit (l ∷ ls) ≡ None → units_handed e limit (begin + length xs) (begin + length xs + 1) (summary_of e (l ∷ [])) ls ≡ map (shift_found (begin + length xs)) (units_of e (l ∷ ls))) →
        (deep_within limit ((xs ++ l ∷ []) ++ ls) ≡ None → units_handed e limit begin (begin + length (xs ++ l ∷ [])) (summary_of e (xs ++ l ∷ [])) ls ≡ map (shift_found begin) (units_of e ((xs ++ l ∷ []) ++ ls))) →
        (if b then units_held e begin (begin + length xs) (summary_of e xs) ++ units_handed e limit (begin + length xs) (suc (begin + length xs)) (line_added e (suc limit) no_summary l) ls
        else units_handed e limit begin (suc (begin + length xs)) (line_added e (suc limit) (summary_of e xs) l) ls)
        ≡ map (shift_found begin) (units_of e (xs ++ l ∷ ls))
    go true b new old =
        let rest = rest_none limit xs l ls b w in
        let one : suc (begin + n) ≡ begin + n + 1 = omega arith in
        ap (λ z. z ++ units_handed e limit (begin + n) (suc (begin + n)) (line_added e (suc limit) no_summary l) ls) (held_units e begin xs)
        ∙ ap (λ z. map (shift_found begin) (units_of e xs) ++ units_handed e limit (begin + n) z (line_added e (suc limit) no_summary l) ls) one
        ∙ ap (λ z. map (shift_found begin) (units_of e xs) ++ units_handed e limit (begin + n) (begin + n + 1) z ls) (of_first_line e limit l (front_none limit (l ∷ []) ls rest))
        ∙ ap (λ z. map (shift_found begin) (units_of e xs) ++ z) (new rest ∙ sym (shift_twice begin n (units_of e (l ∷ ls))))
        ∙ sym (map-append (shift_found begin) (units_of e xs) (map (shift_found n) (units_of e (l ∷ ls))))
        ∙ ap (map (shift_found begin)) (sym (units_meet e xs l ls b))
    go false b new old =
        let whole : deep_within limit ((xs ++ l ∷ []) ++ ls) ≡ None = ap (deep_within limit) (for_next_line xs l ls) ∙ w in
        let one : suc (begin + n) ≡ begin + length (xs ++ l ∷ []) = let p = one_longer xs l in omega (arith, p) in
        ap (λ z. units_handed e limit begin z (line_added e (suc limit) (summary_of e xs) l) ls) one
        ∙ ap (λ z. units_handed e limit begin (begin + length (xs ++ l ∷ [])) z ls) (sym (summary_limited e limit xs l (front_none limit (xs ++ l ∷ []) ls whole)))
        ∙ old whole
        ∙ ap (λ z. map (shift_found begin) (units_of e z)) (for_next_line xs l ls)

-- The units that are handed out are those of the lines.
pub handed_all : (e : EntityTable) (limit : ℕ) (ls : List BlockLine) → deep_within limit ls ≡ None → units_handed e limit 0 0 no_summary ls ≡ units_of e ls
handed_all e limit ls w =
    ap (λ z. units_handed e limit 0 0 z ls) (sym (summary_none e)) ∙ handed_from e limit 0 [] ls w ∙ shift_none (units_of e ls)

pub document_handed : (e : EntityTable) (limit : ℕ) (lines : List (List ℕ)) → first_too_deep limit lines ≡ None →
    units_handed e limit 0 0 no_summary (map document_line lines) ≡ units e lines
document_handed e limit lines w = handed_all e limit (map document_line lines) w ∙ sym (document_units e lines)

-- ---- the line that is refused

moved_zero : (o : Option ℕ) → moved_on 0 o ≡ o
moved_zero None = refl
moved_zero (Some n) = let e : 0 + n ≡ n = omega arith in ap (λ z. Some z) e

-- lines before which none is too deep, and one that is not either
next_none : (e : EntityTable) (limit : ℕ) (xs : List BlockLine) (l : BlockLine) (b : Bool) → sinks limit (summary_of e xs) l ≡ b → deep_within limit xs ≡ None →
    deep_within limit (xs ++ l ∷ []) ≡ (if b then Some (length xs) else None)
next_none e limit xs l b h w =
    summary_sinks e limit xs l
    ∙ ap (λ z. option_or z (if sinks limit (summary_of e xs) l then Some (length xs) else None)) w
    ∙ ap (λ z. if z then Some (length xs) else None) h

-- the first line too deep from a line on that begins a unit
fault_behind : (limit begin : ℕ) (xs : List BlockLine) (l : BlockLine) (ls : List BlockLine) → begins_unit xs l ≡ true → deep_within limit xs ≡ None →
    moved_on begin (deep_within limit (xs ++ l ∷ ls)) ≡ moved_on (begin + length xs) (deep_within limit (l ∷ ls))
fault_behind limit begin xs l ls b w =
    let both : length xs + begin ≡ begin + length xs = omega arith in
    ap (moved_on begin) (deep_meets limit xs l ls b ∙ ap (λ z. option_or z (moved_on (length xs) (deep_within limit (l ∷ ls)))) w)
    ∙ sym (moved_twice (length xs) begin (deep_within limit (l ∷ ls)))
    ∙ ap (λ z. moved_on z (deep_within limit (l ∷ ls))) both

fault_from : (e : EntityTable) (limit begin : ℕ) (xs ls : List BlockLine) → deep_within limit xs ≡ None →
    unit_fault e limit (begin + length xs) (summary_of e xs) ls ≡ moved_on begin (deep_within limit (xs ++ ls))
unfolding unit_fault
fault_from e limit begin xs [] w = ap (moved_on begin) (sym (ap (deep_within limit) (append-nil xs) ∙ w))
fault_from e limit begin xs (l ∷ ls) w =
    go (sinks limit (summary_of e xs) l) (begins_after (summary_of e xs) l) refl (summary_begins e xs l)
    (λ v. fault_from e limit (begin + length xs) (l ∷ []) ls v) (λ v. fault_from e limit begin (xs ++ l ∷ []) ls v)
  where
    n : ℕ
    n = length xs

    go : (s b : Bool) → sinks limit (summary_of e xs) l ≡ s → begins_unit xs l ≡ b →
        (deep_within limit (l ∷ []) ≡ None → unit_fault e limit (begin + length xs + 1) (summary_of e (l ∷ [])) ls ≡ moved_on (begin + length xs) (deep_within limit (l ∷ ls))) →
        (deep_within limit (xs ++ l ∷ []) ≡ None → unit_fault e limit (begin + length (xs ++ l ∷ [])) (summary_of e (xs ++ l ∷ [])) ls ≡ moved_on begin (deep_within limit ((xs ++ l ∷ []) ++ ls))) →
        (if s then Some (begin + length xs) else unit_fault e limit (suc (begin + length xs)) (line_added e (suc limit) (read_behind b (summary_of e xs)) l) ls)
        ≡ moved_on begin (deep_within limit (xs ++ l ∷ ls))
    go true b h k new old = ap (moved_on begin) (sym (ap (deep_within limit) (sym (for_next_line xs l ls)) ∙ deep_stays limit (xs ++ l ∷ []) ls n (next_none e limit xs l true h w)))
    go false true h k new old =
        let one : suc (begin + n) ≡ begin + n + 1 = omega arith in
        let alone = rest_none limit xs l [] k (next_none e limit xs l false h w) in
        ap (λ z. unit_fault e limit z (line_added e (suc limit) no_summary l) ls) one
        ∙ ap (λ z. unit_fault e limit (begin + n + 1) z ls) (of_first_line e limit l alone)
        ∙ new alone
        ∙ sym (fault_behind limit begin xs l ls k w)
    go false false h k new old =
        let one : suc (begin + n) ≡ begin + length (xs ++ l ∷ []) = let p = one_longer xs l in omega (arith, p) in
        let none = next_none e limit xs l false h w in
        ap (λ z. unit_fault e limit z (line_added e (suc limit) (summary_of e xs) l) ls) one
        ∙ ap (λ z. unit_fault e limit (begin + length (xs ++ l ∷ [])) z ls) (sym (summary_limited e limit xs l none))
        ∙ old none
        ∙ ap (λ z. moved_on begin (deep_within limit z)) (for_next_line xs l ls)

-- The line that is refused is the first with a container too many.
pub fault_first : (e : EntityTable) (limit : ℕ) (ls : List BlockLine) → unit_fault e limit 0 no_summary ls ≡ deep_within limit ls
fault_first e limit ls =
    ap (λ z. unit_fault e limit 0 z ls) (sym (summary_none e)) ∙ fault_from e limit 0 [] ls (none_deep limit) ∙ moved_zero (deep_within limit ls)

-- ---- the lines that are held

held_from : (e : EntityTable) (limit : ℕ) (xs ls : List BlockLine) → deep_within limit (xs ++ ls) ≡ None → summary_held e limit (summary_of e xs) ls ≡ summary_of e (lines_held xs ls)
unfolding summary_held lines_held
held_from e limit xs [] w = refl
held_from e limit xs (l ∷ ls) w =
    ap (λ z. summary_held e limit (line_added e (suc limit) (read_behind z (summary_of e xs)) l) ls) (sym (summary_begins e xs l))
    ∙ go (begins_unit xs l) refl (λ v. held_from e limit (l ∷ []) ls v) (λ v. held_from e limit (xs ++ l ∷ []) ls v)
  where
    go : (b : Bool) → begins_unit xs l ≡ b →
        (deep_within limit (l ∷ ls) ≡ None → summary_held e limit (summary_of e (l ∷ [])) ls ≡ summary_of e (lines_held (l ∷ []) ls)) →
        (deep_within limit ((xs ++ l ∷ []) ++ ls) ≡ None → summary_held e limit (summary_of e (xs ++ l ∷ [])) ls ≡ summary_of e (lines_held (xs ++ l ∷ []) ls)) →
        summary_held e limit (line_added e (suc limit) (read_behind b (summary_of e xs)) l) ls ≡ summary_of e (if b then lines_held (l ∷ []) ls else lines_held (xs ++ l ∷ []) ls)
    go true b new old =
        let rest = rest_none limit xs l ls b w in
        ap (λ z. summary_held e limit z ls) (of_first_line e limit l (front_none limit (l ∷ []) ls rest)) ∙ new rest
    go false b new old =
        let whole : deep_within limit ((xs ++ l ∷ []) ++ ls) ≡ None = ap (deep_within limit) (for_next_line xs l ls) ∙ w in
        ap (λ z. summary_held e limit z ls) (sym (summary_limited e limit xs l (front_none limit (xs ++ l ∷ []) ls whole))) ∙ old whole

-- The reader holds the summary of the lines from the last unit's first line on.
pub holds_summary : (e : EntityTable) (limit : ℕ) (ls : List BlockLine) → deep_within limit ls ≡ None → summary_held e limit no_summary ls ≡ summary_of e (lines_held [] ls)
holds_summary e limit ls w = ap (λ z. summary_held e limit z ls) (sym (summary_none e)) ∙ held_from e limit [] ls w

-- no unit, or one that begins with the first line
abbrev pub IsOne : List ℕ → Type 0
IsOne [] = Unit {0}
IsOne (n ∷ []) = n ≡ 0
IsOne (n ∷ m ∷ ns) = ⊥

pub none_begin : (e : EntityTable) → begins_in (units_of e []) ≡ []
unfolding groups_within found_units cut_from all_of grouped
none_begin e = refl

pub first_one : (e : EntityTable) (l : BlockLine) → IsOne (begins_in (units_of e (l ∷ [])))
first_one e l = subst IsOne (sym (begins_next e [] l)) (go (begins_unit [] l))
  where
    go : (b : Bool) → IsOne (if b then begins_in (units_of e []) ++ 0 ∷ [] else begins_in (units_of e []))
    go true = subst (λ z. IsOne (z ++ 0 ∷ [])) (sym (none_begin e)) refl
    go false = subst IsOne (sym (none_begin e)) tt

pub one_from : (e : EntityTable) (xs ls : List BlockLine) → IsOne (begins_in (units_of e xs)) → IsOne (begins_in (units_of e (lines_held xs ls)))
unfolding lines_held
one_from e xs [] w = w
one_from e xs (l ∷ ls) w = go (begins_unit xs l) refl (one_from e (l ∷ []) ls (first_one e l)) (λ v. one_from e (xs ++ l ∷ []) ls v)
  where
    go : (b : Bool) → begins_unit xs l ≡ b → IsOne (begins_in (units_of e (lines_held (l ∷ []) ls))) →
        (IsOne (begins_in (units_of e (xs ++ l ∷ []))) → IsOne (begins_in (units_of e (lines_held (xs ++ l ∷ []) ls)))) →
        IsOne (begins_in (units_of e (if b then lines_held (l ∷ []) ls else lines_held (xs ++ l ∷ []) ls)))
    go true b new old = new
    go false b new old =
        old (subst IsOne (sym (begins_next e xs l ∙ ap (λ z. if z then begins_in (units_of e xs) ++ length xs ∷ [] else begins_in (units_of e xs)) b)) w)

few : (us : List FoundUnit) → IsOne (begins_in us) → length us ≤ 1
few [] w = omega arith
few (u ∷ []) w = omega arith
few (u ∷ v ∷ us) w = absurd w

-- They give at most one unit.
pub holds_one : (e : EntityTable) (ls : List BlockLine) → length (units_of e (lines_held [] ls)) ≤ 1
holds_one e ls = few (units_of e (lines_held [] ls)) (one_from e [] ls (subst IsOne (sym (none_begin e)) tt))
