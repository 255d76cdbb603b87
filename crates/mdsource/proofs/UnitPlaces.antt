-- A look at one unit after the other, by how many lines each has: where reading begins, and whether a unit begins in a line.
use Rattle.std.proofs.Common.{◌≡◌, ℕ, zero, suc, ◌+◌, ◌-◌, ◌^◌, ◌<◌, ◌≤◌, ◌⊎◌, inl, inr, Bool, true, false, ◌||◌, List, [], ◌∷◌, ◌++◌, length, take, drop, min, refl, sym, ◌∙◌, ap, subst, arith, nat_lt, max}
use Rattle.std.specs.Prelude.{nat_eq}
use Rattle.std.specs.List.{All, filter, fold, list_any}
use Rattle.std.proofs.lemmas.Bool.Decides.{nat_tests}
use Rattle.std.proofs.lemmas.List.{append-nil, length-drop, length-take-le, take-append-drop, take_all}
use Rattle.std.proofs.lemmas.List.Folds.{list_any-append, list_any_none}
use Rattle.std.proofs.lemmas.List.Elements.{All-append, All-cons, All-drop, All-head, All-nil, All-tail, All-weaker, filter-append}
use Rattle.mdtext.specs.EntityTable.{EntityTable}
use Rattle.blockspec.specs.BlockUnits.{begins}
use Rattle.mdsource.specs.Stretch.{count_between}
use Rattle.mdsource.specs.UnitTiles.{IsAhead, begins_from}
use Rattle.mdsource.proofs.Cuts.{begins_within}
use Rattle.mdsource.proofs.ReadingBegins.{below_next, counted_between, greatest_is, passes_above, passes_below}
use Rattle.mdsource.proofs.StretchReadings.{Ascends, begins_ascend}

-- ---- the rest of a list

rest_ascends : (xs : List ℕ) (n : ℕ) → Ascends xs → Ascends (drop n xs)
rest_ascends xs zero h = h
rest_ascends [] (suc n) h = tt
rest_ascends (x ∷ xs) (suc n) h = rest_ascends xs n h.1

-- the members up to the next one
taken_more : (xs : List ℕ) (n x : ℕ) (later : List ℕ) → drop n xs ≡ x ∷ later → take (n + 1) xs ≡ take n xs ++ x ∷ []
taken_more [] zero x later h = cc
taken_more [] (suc n) x later h = cc
taken_more (y ∷ ys) zero x later h = ap (λ l. take 1 l) h
taken_more (y ∷ ys) (suc n) x later h =
    let on : suc n + 1 ≡ suc (n + 1) = omega arith in ap (λ k. take k (y ∷ ys)) on ∙ ap (λ l. y ∷ l) (taken_more ys n x later h)

dropped_more : (xs : List ℕ) (n x : ℕ) (later : List ℕ) → drop n xs ≡ x ∷ later → drop (n + 1) xs ≡ later
dropped_more [] zero x later h = cc
dropped_more [] (suc n) x later h = cc
dropped_more (y ∷ ys) zero x later h = ap (drop 1) h
dropped_more (y ∷ ys) (suc n) x later h =
    let on : suc n + 1 ≡ suc (n + 1) = omega arith in ap (λ k. drop k (y ∷ ys)) on ∙ dropped_more ys n x later h

-- a member with those behind it: all before are smaller, all behind are greater
all_before : (xs : List ℕ) (n x : ℕ) (later : List ℕ) → Ascends xs → drop n xs ≡ x ∷ later → All (λ b. b < x) (take n xs)
all_before xs n x later h is =
    below_next (take n xs) x later (subst Ascends (sym (take-append-drop n xs) ∙ ap (λ l. take n xs ++ l) is) h)

all_behind : (xs : List ℕ) (n x : ℕ) (later : List ℕ) → Ascends xs → drop n xs ≡ x ∷ later → All (λ b. x ≤ b) (drop n xs)
all_behind xs n x later h is =
    let tail = subst Ascends is (rest_ascends xs n h) in
    subst (All (λ b. x ≤ b)) (sym is) (All-cons (λ b. x ≤ b) x later (omega arith) (All-weaker (λ b. x < b) (λ b. x ≤ b) (λ b k. omega (arith, k)) later tail.0))

-- ---- one unit further

-- where the next unit begins, as long as the numbers are small
next_begins : (begins sizes : List ℕ) (unit begin size : ℕ) (later : List ℕ) → drop unit begins ≡ begins_from begin (drop unit sizes) → drop unit sizes ≡ size ∷ later
    → (far : ℕ) → far ≡ min (begin + size) (2 ^ 64 - 1) → All (λ b. b < 2 ^ 64 - 1) begins → drop (unit + 1) begins ≡ begins_from far (drop (unit + 1) sizes)
next_begins begins sizes unit begin size later rest is far near small =
    dropped_more begins unit begin (begins_from (begin + size) later) here
    ∙ by later refl
    ∙ ap (begins_from far) (sym (dropped_more sizes unit size later is))
  where
    here : drop unit begins ≡ begin ∷ begins_from (begin + size) later
    here = rest ∙ ap (begins_from begin) is

    by : (l : List ℕ) → later ≡ l → begins_from (begin + size) later ≡ begins_from far later
    by [] e = ap (begins_from (begin + size)) e ∙ sym (ap (begins_from far) e)
    by (s ∷ l) e =
        let some : drop unit begins ≡ begin ∷ (begin + size) ∷ begins_from ((begin + size) + s) l = here ∙ ap (λ z. begin ∷ begins_from (begin + size) z) e in
        let all = subst (All (λ b. b < 2 ^ 64 - 1)) some (All-drop (λ b. b < 2 ^ 64 - 1) unit begins small) in
        let low = All-head (λ b. b < 2 ^ 64 - 1) (begin + size) (begins_from ((begin + size) + s) l)
        (All-tail (λ b. b < 2 ^ 64 - 1) begin ((begin + size) ∷ begins_from ((begin + size) + s) l) all) in
        let same : begin + size ≡ far = grind (arith, near, low) in
        ap (λ z. begins_from z later) same

pub small_begins : (e : EntityTable) (lines : List (List ℕ)) → length lines ≤ 1000000 → All (λ b. b < 2 ^ 64 - 1) (begins e lines)
small_begins e lines few = All-weaker (λ b. b < length lines) (λ b. b < 2 ^ 64 - 1) (λ b h. omega (arith, h, few)) (begins e lines) (begins_within e lines)

-- The next unit begins above the line: it is passed.
pub ahead_next : (e : EntityTable) (lines : List (List ℕ)) (sizes : List ℕ) (unit begin line size : ℕ) (later : List ℕ) (far : ℕ) → length lines ≤ 1000000
    → drop unit sizes ≡ size ∷ later → begin < line → far ≡ min (begin + size) (2 ^ 64 - 1) → IsAhead sizes (begins e lines) unit begin line
    → IsAhead sizes (begins e lines) (unit + 1) far line
ahead_next e lines sizes unit begin line size later far few is above near w = record {
  many = w.many;
  within = let long : length (drop unit sizes) ≡ length (size ∷ later) = ap (λ l. length l) is in let cut = length-drop unit sizes in omega (arith, long, cut);
  rest = next_begins (begins e lines) sizes unit begin size later w.rest is far near (small_begins e lines few);
  passed = subst (All (λ b. b < line)) (sym (taken_more (begins e lines) unit begin (begins_from (begin + size) later) (w.rest ∙ ap (begins_from begin) is)))
      (All-append (λ b. b < line) (take unit (begins e lines)) (begin ∷ []) w.passed (All-cons (λ b. b < line) begin [] above (All-nil (λ b. b < line))));
}

pub ahead_later : (sizes begins : List ℕ) (unit begin line far : ℕ) → line ≤ far → IsAhead sizes begins unit begin line → IsAhead sizes begins unit begin far
ahead_later sizes begins unit begin line far h w = record {
  many = w.many;
  within = w.within;
  rest = w.rest;
  passed = All-weaker (λ b. b < line) (λ b. b < far) (λ b k. omega (arith, k, h)) (take unit begins) w.passed;
}

-- ---- whether a unit begins in a line

equal_not : (line : ℕ) (xs : List ℕ) → All (λ b. b < line) xs → list_any (nat_eq line) xs ≡ false
equal_not line xs h = list_any_none (nat_eq line) xs (All-weaker (λ b. b < line) (λ b. nat_eq line b ≡ false) (λ b k. grind (arith, nat_tests, k)) xs h)

equal_above : (line : ℕ) (xs : List ℕ) → All (λ b. line < b) xs → list_any (nat_eq line) xs ≡ false
equal_above line xs h = list_any_none (nat_eq line) xs (All-weaker (λ b. line < b) (λ b. nat_eq line b ≡ false) (λ b k. grind (arith, nat_tests, k)) xs h)

in_two : (line : ℕ) (xs : List ℕ) (n : ℕ) (t : Bool) → All (λ b. b < line) (take n xs) → list_any (nat_eq line) (drop n xs) ≡ t → list_any (nat_eq line) xs ≡ t
in_two line xs n t h is =
    ap (list_any (nat_eq line)) (sym (take-append-drop n xs))
    ∙ list_any-append (nat_eq line) (take n xs) (drop n xs)
    ∙ ap (λ b. b || list_any (nat_eq line) (drop n xs)) (equal_not line (take n xs) h) ∙ is

-- all units are passed
pub none_left : (sizes begins : List ℕ) (unit begin line : ℕ) → length sizes ≤ unit → IsAhead sizes begins unit begin line → list_any (nat_eq line) begins ≡ false
none_left sizes begins unit begin line past w =
    let many = w.many in
    equal_not line begins (subst (All (λ b. b < line)) (take_all unit begins (omega (arith, past, many))) w.passed)

-- The next unit does not begin above the line: if one begins in it, it is that one.
pub next_tells : (e : EntityTable) (lines : List (List ℕ)) (sizes : List ℕ) (unit begin line size : ℕ) (later : List ℕ) → drop unit sizes ≡ size ∷ later
    → line ≤ begin → IsAhead sizes (begins e lines) unit begin line → list_any (nat_eq line) (begins e lines) ≡ nat_eq line begin
next_tells e lines sizes unit begin line size later is high w = in_two line (begins e lines) unit (nat_eq line begin) w.passed
    (ap (list_any (nat_eq line)) here ∙ (by (nat_eq line begin) refl))
  where
    back : List ℕ
    back = begins_from (begin + size) later

    here : drop unit (begins e lines) ≡ begin ∷ back
    here = w.rest ∙ ap (begins_from begin) is

    above : All (λ b. line < b) back
    above =
        let tail = subst Ascends here (rest_ascends (begins e lines) unit (begins_ascend e lines)) in
        All-weaker (λ b. begin < b) (λ b. line < b) (λ b k. omega (arith, k, high)) back tail.0

    by : (t : Bool) → nat_eq line begin ≡ t → (nat_eq line begin || list_any (nat_eq line) back) ≡ nat_eq line begin
    by true h = ap (λ b. b || list_any (nat_eq line) back) h ∙ sym h
    by false h = ap (λ b. b || list_any (nat_eq line) back) h ∙ equal_above line back above ∙ sym h

-- ---- where reading begins

-- of the first units, which begin above a line, reading begins with the last one
pub record IsResuming (sizes begins : List ℕ) (seen : ℕ) (from unit begin : ℕ) : Type 0 where
  pub greatest : from ≡ fold max 0 (take seen begins)
  pub count : unit ≡ count_between 0 from begins
  pub ahead : IsAhead sizes begins unit begin from

pub counts_here : (e : EntityTable) (lines : List (List ℕ)) (n x : ℕ) → n ≤ length (begins e lines) → All (λ b. b < x) (take n (begins e lines)) → All (λ b. x ≤ b) (drop n (begins e lines))
    → n ≡ count_between 0 x (begins e lines)
counts_here e lines n x h before behind =
    sym (length-take-le n (begins e lines) h)
    ∙ sym (counted_between 0 x [] (take n (begins e lines)) (drop n (begins e lines)) (All-nil (λ b. b < 0))
    (All-weaker (λ b. b < x) (λ b. (0 ≤ b) × (b < x)) (λ b k. (omega arith, k)) (take n (begins e lines)) before) behind)
    ∙ ap (count_between 0 x) (take-append-drop n (begins e lines))

all_from_zero : (xs : List ℕ) → All (λ b. 0 ≤ b) xs
all_from_zero [] = All-nil (λ b. 0 ≤ b)
all_from_zero (x ∷ xs) = All-cons (λ b. 0 ≤ b) x xs (omega arith) (all_from_zero xs)

-- none was looked at
pub resuming_begins : (e : EntityTable) (lines : List (List ℕ)) (sizes : List ℕ) (head : ℕ) → length (begins e lines) ≡ length sizes → begins e lines ≡ begins_from head sizes
    → IsResuming sizes (begins e lines) 0 0 0 head
resuming_begins e lines sizes head many is = record {
  greatest = refl;
  count = counts_here e lines 0 0 (omega arith) (All-nil (λ b. b < 0)) (all_from_zero (begins e lines));
  ahead = record { many = many; within = omega arith; rest = is; passed = All-nil (λ b. b < 0) };
}

-- the next one begins there
pub resuming_next : (e : EntityTable) (lines : List (List ℕ)) (sizes : List ℕ) (seen begin size : ℕ) (later : List ℕ) → length (begins e lines) ≡ length sizes
    → drop seen (begins e lines) ≡ begins_from begin (drop seen sizes) → drop seen sizes ≡ size ∷ later
    → IsResuming sizes (begins e lines) (seen + 1) begin seen begin
resuming_next e lines sizes seen begin size later many rest is = record {
  greatest = sym (ap (fold max 0) (taken_more bs seen begin back here) ∙ greatest_is (take seen bs) 0 begin (omega arith) before);
  count = counts_here e lines seen begin (omega (arith, many, within)) before (all_behind bs seen begin back (begins_ascend e lines) here);
  ahead = record { many = many; within = within; rest = rest; passed = before };
}
  where
    bs : List ℕ
    bs = begins e lines

    back : List ℕ
    back = begins_from (begin + size) later

    here : drop seen bs ≡ begin ∷ back
    here = rest ∙ ap (begins_from begin) is

    before : All (λ b. b < begin) (take seen bs)
    before = all_before bs seen begin back (begins_ascend e lines) here

    within : seen ≤ length sizes
    within = let long : length (drop seen sizes) ≡ length (size ∷ later) = ap (λ l. length l) is in let cut = length-drop seen sizes in omega (arith, long, cut)

-- all that begin above the line were looked at
pub resumed_from : (bs : List ℕ) (seen at from : ℕ) → from ≡ fold max 0 (take seen bs) → All (λ b. b < at) (take seen bs) → All (λ b. at ≤ b) (drop seen bs)
    → from ≡ fold max 0 (filter (λ b. nat_lt b at) bs)
resumed_from bs seen at from is below above =
    is ∙ ap (fold max 0) (sym (ap (filter (λ b. nat_lt b at)) (sym (take-append-drop seen bs)) ∙ filter-append (λ b. nat_lt b at) (take seen bs) (drop seen bs)
    ∙ ap (λ l. l ++ filter (λ b. nat_lt b at) (drop seen bs)) (passes_below at (take seen bs) below)
    ∙ ap (λ l. take seen bs ++ l) (passes_above at (drop seen bs) above) ∙ all))
  where
    all : take seen bs ++ [] ≡ take seen bs
    all = append-nil (take seen bs)

-- the next unit does not begin above it
pub above_from : (e : EntityTable) (lines : List (List ℕ)) (sizes : List ℕ) (seen begin at : ℕ) → length (begins e lines) ≡ length sizes
    → drop seen (begins e lines) ≡ begins_from begin (drop seen sizes) → at ≤ begin → All (λ b. at ≤ b) (drop seen (begins e lines))
above_from e lines sizes seen begin at many rest high = by (drop seen sizes) refl
  where
    by : (l : List ℕ) → drop seen sizes ≡ l → All (λ b. at ≤ b) (drop seen (begins e lines))
    by [] is = subst (All (λ b. at ≤ b)) (sym (rest ∙ ap (begins_from begin) is)) (All-nil (λ b. at ≤ b))
    by (size ∷ later) is =
        All-weaker (λ b. begin ≤ b) (λ b. at ≤ b) (λ b k. omega (arith, k, high)) (drop seen (begins e lines))
        (all_behind (begins e lines) seen begin (begins_from (begin + size) later) (begins_ascend e lines) (rest ∙ ap (begins_from begin) is))

all_dropped : (P : ℕ → Type 0) (xs : List ℕ) (n : ℕ) → length xs ≤ n → All P (drop n xs)
all_dropped P [] zero h = All-nil P
all_dropped P [] (suc n) h = All-nil P
all_dropped P (x ∷ xs) zero h = absurd (omega (arith, h))
all_dropped P (x ∷ xs) (suc n) h = all_dropped P xs n (omega (arith, h))

-- one more begins above the line
pub seen_next : (e : EntityTable) (lines : List (List ℕ)) (sizes : List ℕ) (seen begin size : ℕ) (later : List ℕ) (at far : ℕ) → length lines ≤ 1000000
    → drop seen (begins e lines) ≡ begins_from begin (drop seen sizes) → drop seen sizes ≡ size ∷ later → begin < at → far ≡ min (begin + size) (2 ^ 64 - 1)
    → All (λ b. b < at) (take seen (begins e lines))
    → (drop (seen + 1) (begins e lines) ≡ begins_from far (drop (seen + 1) sizes)) × All (λ b. b < at) (take (seen + 1) (begins e lines))
seen_next e lines sizes seen begin size later at far few rest is above near below = (
  next_begins (begins e lines) sizes seen begin size later rest is far near (small_begins e lines few),
  subst (All (λ b. b < at)) (sym (taken_more (begins e lines) seen begin (begins_from (begin + size) later) (rest ∙ ap (begins_from begin) is)))
      (All-append (λ b. b < at) (take seen (begins e lines)) (begin ∷ []) below (All-cons (λ b. b < at) begin [] above (All-nil (λ b. b < at)))),
)

-- no more do: where reading begins
pub resumed_here : (e : EntityTable) (lines : List (List ℕ)) (sizes : List ℕ) (seen begin at from unit start : ℕ) → length (begins e lines) ≡ length sizes
    → drop seen (begins e lines) ≡ begins_from begin (drop seen sizes) → All (λ b. b < at) (take seen (begins e lines)) → IsResuming sizes (begins e lines) seen from unit start
    → (at ≤ begin) ⊎ (length sizes ≤ seen)
    → (from ≡ fold max 0 (filter (λ begin. nat_lt begin at) (begins e lines))) × (unit ≡ count_between 0 from (begins e lines)) × IsAhead sizes (begins e lines) unit start from
resumed_here e lines sizes seen begin at from unit start many rest below w past = (resumed_from (begins e lines) seen at from w.greatest below (by past), w.count, w.ahead)
  where
    by : (at ≤ begin) ⊎ (length sizes ≤ seen) → All (λ b. at ≤ b) (drop seen (begins e lines))
    by (inl h) = above_from e lines sizes seen begin at many rest h
    by (inr h) = all_dropped (λ b. at ≤ b) (begins e lines) seen (omega (arith, many, h))

-- the same, where there is a next one
pub unit_tells : (e : EntityTable) (lines : List (List ℕ)) (sizes : List ℕ) (unit begin line : ℕ) → unit < length sizes → line ≤ begin
    → IsAhead sizes (begins e lines) unit begin line → list_any (nat_eq line) (begins e lines) ≡ nat_eq line begin
unit_tells e lines sizes unit begin line some high w = by (drop unit sizes) refl
  where
    by : (l : List ℕ) → drop unit sizes ≡ l → list_any (nat_eq line) (begins e lines) ≡ nat_eq line begin
    by [] is = absurd (let long : length (drop unit sizes) ≡ 0 = ap (λ l. length l) is in let cut = length-drop unit sizes in omega (arith, long, cut, some))
    by (size ∷ later) is = next_tells e lines sizes unit begin line size later is high w
