-- Units that stand for their lines: two parts of them, which lines matter, and the lines of one of them.
use Rattle.std.proofs.Common.{◌≡◌, ℕ, zero, suc, ◌+◌, ◌-◌, ◌<◌, ◌≤◌, Bool, true, false, List, [], ◌∷◌, ◌++◌, Option, Some, None, length, map, take, drop, get_or, refl, ap, ◌∙◌, sym, subst, arith, min}
use Rattle.std.specs.Prelude.{IfSome, nat_le, slice_get, sum_by}
use Rattle.std.specs.List.{All}
use Rattle.std.specs.Option.{option_to_list, unwrap_or}
use Rattle.std.proofs.lemmas.Bool.Decides.{nat_tests}
use Rattle.std.proofs.lemmas.List.{append-nil, drop-append-le, drop-drop, drop-take, length-drop, length-take, take-append-le, take-take, take_all}
use Rattle.std.proofs.lemmas.List.Elements.{All-head, All-push, All-tail, All-weaker}
use Rattle.std.proofs.lemmas.List.Sums.{sum_by-cons}
use Rattle.mdtext.specs.EntityTable.{EntityTable}
use Rattle.blockspec.specs.BlockUnits.{units}
use Rattle.mdblock.specs.FoundLists.{FoundList, StandsForUnit, found_unit}
use Rattle.mdsource.specs.UnitTiles.{begins_from, front_of, lines_of}
use Rattle.mdsource.proofs.UnitTiles.{units_end, units_tile}
use Rattle.mdview.specs.HeldBlocks.{unit_lines}
use Rattle.mdview.specs.HeldLists.{StandForUnits, StandsAt, list_lines, unplaced}

-- how many lines some units have
abbrev pub all_lines : List FoundList → ℕ
all_lines fs = sum_by list_lines fs

-- ---- two parts

part_behind : (f : FoundList) (fs : List FoundList) (lines : List (List ℕ)) → drop (all_lines fs) (drop f.lines lines) ≡ drop (all_lines (f ∷ fs)) lines
part_behind f fs lines = drop-drop (all_lines fs) f.lines lines ∙ ap (λ n. drop n lines) (sym (sum_by-cons list_lines f fs))

pub stand_parts : (e : EntityTable) (fs gs : List FoundList) (lines : List (List ℕ)) → StandForUnits e (fs ++ gs) lines → StandForUnits e fs lines × StandForUnits e gs (drop (all_lines fs) lines)
stand_parts e [] gs lines h = (tt, h)
stand_parts e (f ∷ fs) gs lines h =
    let rest = stand_parts e fs gs (drop f.lines lines) h.1 in
    ((h.0, rest.0), subst (StandForUnits e gs) (part_behind f fs lines) rest.1)

pub stand_joined : (e : EntityTable) (fs gs : List FoundList) (lines : List (List ℕ)) → StandForUnits e fs lines → StandForUnits e gs (drop (all_lines fs) lines) → StandForUnits e (fs ++ gs) lines
stand_joined e [] gs lines h k = k
stand_joined e (f ∷ fs) gs lines h k = (h.0, stand_joined e fs gs (drop f.lines lines) h.1 (subst (StandForUnits e gs) (sym (part_behind f fs lines)) k))

-- ---- which lines matter

pub stand_same : (e : EntityTable) (fs : List FoundList) (xs ys : List (List ℕ)) → take (all_lines fs) xs ≡ take (all_lines fs) ys → StandForUnits e fs xs → StandForUnits e fs ys
stand_same e [] xs ys same h = tt
stand_same e (f ∷ fs) xs ys same h =
    let n = all_lines fs in
    let whole : take (f.lines + n) xs ≡ take (f.lines + n) ys = subst (λ k. take k xs ≡ take k ys) (sum_by-cons list_lines f fs) same in
    let front : take f.lines xs ≡ take f.lines ys =
    sym (take-take f.lines (f.lines + n) xs (omega arith)) ∙ ap (take f.lines) whole ∙ take-take f.lines (f.lines + n) ys (omega arith) in
    let back : take n (drop f.lines xs) ≡ take n (drop f.lines ys) = sym (drop-take f.lines n xs) ∙ ap (drop f.lines) whole ∙ drop-take f.lines n ys in
    (subst (StandsForUnit e f) front h.0, stand_same e fs (drop f.lines xs) (drop f.lines ys) back h.1)

-- lines behind them do not
pub stand_within : (e : EntityTable) (fs : List FoundList) (n : ℕ) (lines : List (List ℕ)) → all_lines fs ≤ n → StandForUnits e fs (take n lines) → StandForUnits e fs lines
stand_within e fs n lines small h = stand_same e fs (take n lines) lines (take-take (all_lines fs) n lines small) h

-- ---- places

-- where a unit was found does not matter
pub stands_unplaced : (e : EntityTable) (f : FoundList) (lines : List (List ℕ)) → StandsForUnit e f lines → StandsForUnit e (unplaced f) lines
unfolding StandsForUnit
stands_unplaced e f lines h = h

pub stands_placed : (e : EntityTable) (f : FoundList) (lines : List (List ℕ)) → StandsForUnit e (unplaced f) lines → StandsForUnit e f lines
unfolding StandsForUnit
stands_placed e f lines h = h

pub stand_unplaced : (e : EntityTable) (fs : List FoundList) (lines : List (List ℕ)) → StandForUnits e fs lines → StandForUnits e (map unplaced fs) lines
stand_unplaced e [] lines h = tt
stand_unplaced e (f ∷ fs) lines h = (stands_unplaced e f (take f.lines lines) h.0, stand_unplaced e fs (drop f.lines lines) h.1)

-- a unit that stands for lines has as many
pub stands_long : (e : EntityTable) (f : FoundList) (lines : List (List ℕ)) → StandsForUnit e f lines → length lines ≡ f.lines
unfolding StandsForUnit
stands_long e f lines h =
    let all = units_end e lines in
    let one = ap (λ us. front_of (length lines) us + sum_by (λ k. k) (lines_of us)) h.0 in
    omega (arith, all, one)

begins_found : (fs : List FoundList) → map (λ (f : FoundList). f.begin) fs ≡ map (λ f. f.begin) (map found_unit fs)
begins_found [] = refl
begins_found (f ∷ fs) = ap (λ z. f.begin ∷ z) (begins_found fs)

lines_found : (fs : List FoundList) → lines_of (map found_unit fs) ≡ map list_lines fs
lines_found [] = refl
lines_found (f ∷ fs) = ap (λ z. f.lines ∷ z) (lines_found fs)

-- units each of which begins where the one before it ends
pub stand_from : (e : EntityTable) (lines : List (List ℕ)) (fs : List FoundList) (begin : ℕ) → map (λ (f : FoundList). f.begin) fs ≡ begins_from begin (map list_lines fs)
    → All (StandsAt e lines) fs → StandForUnits e fs (drop begin lines)
stand_from e lines [] begin is all = tt
stand_from e lines (f ∷ fs) begin is all =
    let here : f.begin ≡ begin = ap (λ xs. get_or xs 0 0) is in
    let later : map (λ (g : FoundList). g.begin) fs ≡ begins_from (begin + f.lines) (map list_lines fs) = ap (drop 1) is in
    let one : StandsForUnit e f (take f.lines (drop begin lines)) = subst (λ n. StandsForUnit e f (take f.lines (drop n lines))) here (All-head (StandsAt e lines) f fs all) in
    let rest = stand_from e lines fs (begin + f.lines) later (All-tail (StandsAt e lines) f fs all) in
    (one, subst (StandForUnits e fs) (sym (drop-drop f.lines begin lines)) rest)

-- All units that are found in some lines stand for them, if each does where it was found.
pub stand_found : (e : EntityTable) (lines : List (List ℕ)) (fs : List FoundList) → map found_unit fs ≡ units e lines → All (StandsAt e lines) fs → StandForUnits e fs (unit_lines e lines)
stand_found e lines fs is all = stand_from e lines fs (front_of (length lines) (units e lines)) places all
  where
    places : map (λ (f : FoundList). f.begin) fs ≡ begins_from (front_of (length lines) (units e lines)) (map list_lines fs)
    places =
        begins_found fs ∙ ap (map (λ f. f.begin)) is ∙ units_tile e lines
        ∙ ap (begins_from (front_of (length lines) (units e lines))) (ap lines_of (sym is) ∙ lines_found fs)

-- ---- units that are found one after the other

own_lines : (f : FoundList) (lines more : List (List ℕ)) → length (take f.lines (drop f.begin lines)) ≡ f.lines → take f.lines (drop f.begin (lines ++ more)) ≡ take f.lines (drop f.begin lines)
own_lines f lines more long = by (nat_le f.begin (length lines)) refl
  where
    part : length (take f.lines (drop f.begin lines)) ≡ min f.lines (length (drop f.begin lines))
    part = length-take f.lines (drop f.begin lines)

    size : length (drop f.begin lines) ≡ length lines - f.begin
    size = length-drop f.begin lines

    short : f.lines ≤ length (drop f.begin lines)
    short = omega (arith, part, long)

    by : (t : Bool) → nat_le f.begin (length lines) ≡ t → take f.lines (drop f.begin (lines ++ more)) ≡ take f.lines (drop f.begin lines)
    by true h =
        let inside : f.begin ≤ length lines = grind (arith, nat_tests, h) in
        ap (take f.lines) (drop-append-le f.begin lines more inside) ∙ take-append-le f.lines (drop f.begin lines) more short
    by false h =
        let past : length lines < f.begin = grind (arith, nat_tests, h) in
        let none : f.lines ≡ 0 = omega (arith, past, short, size) in
        ap (λ n. take n (drop f.begin (lines ++ more))) none ∙ sym (ap (λ n. take n (drop f.begin lines)) none)

-- more lines behind it
pub stands_longer : (e : EntityTable) (lines more : List (List ℕ)) (f : FoundList) → StandsAt e lines f → StandsAt e (lines ++ more) f
stands_longer e lines more f h = subst (StandsForUnit e f) (sym (own_lines f lines more (stands_long e f (take f.lines (drop f.begin lines)) h))) h

pub all_longer : (e : EntityTable) (lines more : List (List ℕ)) (fs : List FoundList) → All (StandsAt e lines) fs → All (StandsAt e (lines ++ more)) fs
all_longer e lines more fs h = All-weaker (StandsAt e lines) (StandsAt e (lines ++ more)) (stands_longer e lines more) fs h

-- the last unit of some lines
stands_last : (e : EntityTable) (lines : List (List ℕ)) (f : FoundList) → StandsForUnit e f (drop f.begin lines) → StandsAt e lines f
stands_last e lines f h =
    let long = stands_long e f (drop f.begin lines) h in
    subst (StandsForUnit e f) (sym (take_all f.lines (drop f.begin lines) (omega (arith, long)))) h

pub stands_pushed : (e : EntityTable) (lines : List (List ℕ)) (old new : List FoundList) (found : Option FoundList) → new ≡ old ++ option_to_list found
    → IfSome found (λ f. StandsForUnit e f (drop f.begin lines)) → All (StandsAt e lines) old → All (StandsAt e lines) new
stands_pushed e lines old new None is h all = subst (All (StandsAt e lines)) (sym (is ∙ append-nil old)) all
stands_pushed e lines old new (Some f) is h all = subst (All (StandsAt e lines)) (sym is) (All-push (StandsAt e lines) old f all (stands_last e lines f h))

-- ---- one of them

-- the unit of a number stands for the lines behind those of the units before it
pub stands_in : (e : EntityTable) (fs : List FoundList) (lines : List (List ℕ)) (i : ℕ) (f : FoundList) → slice_get fs i ≡ Some f → StandForUnits e fs lines
    → StandsForUnit e f (take f.lines (drop (all_lines (take i fs)) lines))
stands_in e [] lines i f at h = cc
stands_in e (g ∷ fs) lines zero f at h = let same : g ≡ f = ap (λ o. unwrap_or o g) at in subst (λ x. StandsForUnit e x (take x.lines lines)) same h.0
stands_in e (g ∷ fs) lines (suc i) f at h =
    subst (λ ls. StandsForUnit e f (take f.lines ls)) (part_behind g (take i fs) lines) (stands_in e fs (drop g.lines lines) i f at h.1)
