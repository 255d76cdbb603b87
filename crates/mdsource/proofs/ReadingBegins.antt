-- Where reading begins, and how many units stand before it, by the first lines of the units in three parts.
use Rattle.std.proofs.Common.{◌≡◌, ℕ, ◌<◌, ◌≤◌, ◌&&◌, true, false, List, [], ◌∷◌, ◌++◌, length, ◌∙◌, ap, subst, arith, nat_lt, max}
use Rattle.std.specs.Prelude.{nat_le, if◌then◌else◌}
use Rattle.std.specs.List.{All, filter, fold}
use Rattle.std.proofs.lemmas.Bool.Decides.{nat_tests}
use Rattle.std.proofs.lemmas.List.Elements.{All-nil, All-cons, All-head, All-tail, All-weaker, filter-append}
use Rattle.blockspec.specs.BlockUnits.{begins}
use Rattle.mdsource.specs.Calls.{edit}
use Rattle.mdsource.specs.Changes.{places}
use Rattle.mdsource.specs.Setting.{Setting, Source}
use Rattle.mdsource.specs.Stretch.{count_between, from_line, units_before}
use Rattle.mdsource.proofs.Counts.{all_pass, count_append, none_passes}
use Rattle.mdsource.proofs.StretchReadings.{Ascends, begins_ascend}

-- all members in front of one are smaller
pub below_next : (front : List ℕ) (from : ℕ) (back : List ℕ) → Ascends (front ++ from ∷ back) → All (λ b. b < from) front
below_next [] from back h = All-nil (λ b. b < from)
below_next (x ∷ front) from back h =
    All-cons (λ b. b < from) x front (here front h.0) (below_next front from back h.1)
  where
    here : (front : List ℕ) → All (λ y. x < y) (front ++ from ∷ back) → x < from
    here [] w = All-head (λ y. x < y) from back w
    here (y ∷ ys) w = here ys (All-tail (λ y. x < y) y (ys ++ from ∷ back) w)

-- the greatest of some numbers and one that is not smaller
pub greatest_is : (xs : List ℕ) (a n : ℕ) → a ≤ n → All (λ b. b < n) xs → fold max a (xs ++ n ∷ []) ≡ n
greatest_is [] a n h w = grind (arith, nat_tests, h)
greatest_is (x ∷ xs) a n h w =
    let small = All-head (λ b. b < n) x xs w in
    let next : max a x ≤ n = grind (arith, nat_tests, h, small) in
    greatest_is xs (max a x) n next (All-tail (λ b. b < n) x xs w)

pub passes_below : (at : ℕ) (xs : List ℕ) → All (λ b. b < at) xs → filter (λ b. nat_lt b at) xs ≡ xs
passes_below at xs w = all_pass (λ b. nat_lt b at) xs (All-weaker (λ b. b < at) (λ b. nat_lt b at ≡ true) (λ b h. grind (arith, nat_tests, h)) xs w)

pub passes_above : (at : ℕ) (xs : List ℕ) → All (λ b. at ≤ b) xs → filter (λ b. nat_lt b at) xs ≡ []
passes_above at xs w = none_passes (λ b. nat_lt b at) xs (All-weaker (λ b. at ≤ b) (λ b. nat_lt b at ≡ false) (λ b h. grind (arith, nat_tests, h)) xs w)

-- the greatest below a place, where the members behind it stand at that place or later
pub from_is : (at : ℕ) (front : List ℕ) (from : ℕ) (back : List ℕ) → Ascends (front ++ from ∷ back) → from < at → All (λ b. at ≤ b) back
    → fold max 0 (filter (λ b. nat_lt b at) (front ++ from ∷ back)) ≡ from
from_is at front from back h small w =
    let low = below_next front from back h in
    let below = All-weaker (λ b. b < from) (λ b. b < at) (λ b k. omega (arith, k, small)) front low in
    let one : nat_lt from at ≡ true = grind (arith, nat_tests, small) in
    let last : filter (λ b. nat_lt b at) (from ∷ back) ≡ from ∷ [] =
    ap (λ t. if t then from ∷ filter (λ b. nat_lt b at) back else filter (λ b. nat_lt b at) back) one ∙ ap (λ l. from ∷ l) (passes_above at back w) in
    ap (fold max 0) (filter-append (λ b. nat_lt b at) front (from ∷ back) ∙ ap (λ l. l ++ filter (λ b. nat_lt b at) (from ∷ back)) (passes_below at front below) ∙ ap (λ l. front ++ l) last)
    ∙ greatest_is front 0 from (omega arith) low

-- none stands below it
pub from_front : (at : ℕ) (bs : List ℕ) → All (λ b. at ≤ b) bs → fold max 0 (filter (λ b. nat_lt b at) bs) ≡ 0
from_front at bs w = ap (fold max 0) (passes_above at bs w)

counts_all : (from to : ℕ) (bs : List ℕ) → All (λ b. (from ≤ b) × (b < to)) bs → count_between from to bs ≡ length bs
counts_all from to bs w =
    ap (λ z. length z) (all_pass (λ b. nat_le from b && nat_lt b to) bs
    (All-weaker (λ b. (from ≤ b) × (b < to)) (λ b. (nat_le from b && nat_lt b to) ≡ true) (λ b h. let c = h.0 in let d = h.1 in grind (arith, nat_tests, c, d)) bs w))

counts_none_below : (from to : ℕ) (bs : List ℕ) → All (λ b. b < from) bs → count_between from to bs ≡ 0
counts_none_below from to bs w =
    ap (λ z. length z) (none_passes (λ b. nat_le from b && nat_lt b to) bs
    (All-weaker (λ b. b < from) (λ b. (nat_le from b && nat_lt b to) ≡ false) (λ b h. grind (arith, nat_tests, h)) bs w))

counts_none_above : (from to : ℕ) (bs : List ℕ) → All (λ b. to ≤ b) bs → count_between from to bs ≡ 0
counts_none_above from to bs w =
    ap (λ z. length z) (none_passes (λ b. nat_le from b && nat_lt b to) bs
    (All-weaker (λ b. to ≤ b) (λ b. (nat_le from b && nat_lt b to) ≡ false) (λ b h. grind (arith, nat_tests, h)) bs w))

-- how many begin from one line on and before another, where those in front, those between and those behind are told apart
pub counted_between : (from to : ℕ) (front middle back : List ℕ) → All (λ b. b < from) front → All (λ b. (from ≤ b) × (b < to)) middle → All (λ b. to ≤ b) back
    → count_between from to ((front ++ middle) ++ back) ≡ length middle
counted_between from to front middle back a b c =
    let whole = count_append from to (front ++ middle) back in
    let half = count_append from to front middle in
    let x = counts_none_below from to front a in
    let y = counts_all from to middle b in
    let z = counts_none_above from to back c in
    omega (arith, whole, half, x, y, z)

-- ---- an edit

pub begins_inside : (setting : Setting) (old : Source) (at del : ℕ) (add : List (List ℕ)) (front : List ℕ) (from : ℕ) (back : List ℕ)
    → begins setting.entities old.lines ≡ front ++ from ∷ back → from < at → All (λ begin. at ≤ begin) back
    → let p = places setting old (edit at del add) in
    (from_line p ≡ from) × (units_before p ≡ length front)
begins_inside setting old at del add front from back parts small above =
    let h = subst Ascends parts (begins_ascend setting.entities old.lines) in
    let is : from_line (places setting old (edit at del add)) ≡ from = ap (λ bs. fold max 0 (filter (λ b. nat_lt b at) bs)) parts ∙ from_is at front from back h small above in
    let low = below_next front from back h in (
      is,
      ap (λ n. count_between 0 n (begins setting.entities old.lines)) is ∙ ap (count_between 0 from) parts
          ∙ counted_between 0 from [] front (from ∷ back) (All-nil (λ b. b < 0)) (All-weaker (λ b. b < from) (λ b. (0 ≤ b) × (b < from)) (λ b k. (omega arith, k)) front low)
          (All-cons (λ b. from ≤ b) from back (omega arith) (All-weaker (λ b. at ≤ b) (λ b. from ≤ b) (λ b k. omega (arith, k, small)) back above)),
    )

pub begins_in_front : (setting : Setting) (old : Source) (at del : ℕ) (add : List (List ℕ)) → All (λ begin. at ≤ begin) (begins setting.entities old.lines)
    → let p = places setting old (edit at del add) in
    (from_line p ≡ 0) × (units_before p ≡ 0)
begins_in_front setting old at del add above =
    let is : from_line (places setting old (edit at del add)) ≡ 0 = from_front at (begins setting.entities old.lines) above in
    let bs = begins setting.entities old.lines in
    (is, ap (λ n. count_between 0 n bs) is ∙ counts_none_above 0 0 bs (All-weaker (λ b. at ≤ b) (λ b. 0 ≤ b) (λ b k. omega arith) bs above))
