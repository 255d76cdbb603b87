-- The numbers of a patch are the numbers of units in front, given way and new.
use Rattle.std.proofs.Common.{◌≡◌, ℕ, ◌+◌, ◌<◌, ◌≤◌, Bool, true, false, ◌&&◌, List, [], ◌∷◌, ◌++◌, length, map, take, drop, refl, ◌∙◌, ap, arith, nat_lt, length-append}
use Rattle.std.specs.Prelude.{nat_le, cond}
use Rattle.std.specs.List.{All, filter}
use Rattle.std.proofs.lemmas.Bool.Decides.{nat_tests}
use Rattle.std.proofs.lemmas.List.{map-append, length-take, length-take-le, length-drop}
use Rattle.std.proofs.lemmas.List.Elements.{All-nil, All-cons, All-head, All-tail, All-weaker, filter-append}
use Rattle.mdtext.specs.EntityTable.{EntityTable}
use Rattle.blockspec.specs.BlockUnits.{begins, units}
use Rattle.blockspec.specs.UnitBegin.{shift_found}
use Rattle.blockspec.specs.UnitTree.{FoundUnit}
use Rattle.blockspec.proofs.DocumentLaws.{map_length}
use Rattle.mdsource.specs.Spliced.{in_parts, IsSpliced}
use Rattle.mdsource.specs.Stretch.{Places, from_line, old_line, meeting_line, count_between}
use Rattle.mdsource.proofs.Cuts.{begins_within}
use Rattle.mdsource.proofs.Splices.{IsEdit, meets, from_above, new_parts, old_parts}

pub all_pass : {X : Type 0} (t : X → Bool) (xs : List X) → All (λ x. t x ≡ true) xs → filter t xs ≡ xs
all_pass t [] h = refl
all_pass t (x ∷ xs) h = by (t x) (All-head (λ y. t y ≡ true) x xs h) (all_pass t xs (All-tail (λ y. t y ≡ true) x xs h))
  where
    by : (b : Bool) → b ≡ true → filter t xs ≡ xs → cond b (x ∷ filter t xs) (filter t xs) ≡ x ∷ xs
    by true h rest = ap (λ z. x ∷ z) rest
    by false h rest = cc

pub none_passes : {X : Type 0} (t : X → Bool) (xs : List X) → All (λ x. t x ≡ false) xs → filter t xs ≡ []
none_passes t [] h = refl
none_passes t (x ∷ xs) h = by (t x) (All-head (λ y. t y ≡ false) x xs h) (none_passes t xs (All-tail (λ y. t y ≡ false) x xs h))
  where
    by : (b : Bool) → b ≡ false → filter t xs ≡ [] → cond b (x ∷ filter t xs) (filter t xs) ≡ []
    by true h rest = cc
    by false h rest = rest

abbrev begins_in : List FoundUnit → List ℕ
begins_in us = map (λ f. f.begin) us

abbrev Between : (from to : ℕ) → List ℕ → Type 0
Between from to bs = All (λ b. (from ≤ b) × (b < to)) bs

-- units so many lines further on begin there
moved_between : (e : EntityTable) (part : List (List ℕ)) (k to : ℕ) → k + length part ≤ to → Between k to (begins_in (map (shift_found k) (units e part)))
moved_between e part k to h = go (units e part) (begins_within e part)
  where
    go : (us : List FoundUnit) → All (λ b. b < length part) (begins_in us) → Between k to (begins_in (map (shift_found k) us))
    go [] w = All-nil (λ b. (k ≤ b) × (b < to))
    go (u ∷ us) w =
        let small = All-head (λ b. b < length part) u.begin (begins_in us) w in
        All-cons (λ b. (k ≤ b) × (b < to)) (u.begin + k) (begins_in (map (shift_found k) us)) (omega arith, omega (arith, h, small))
        (go us (All-tail (λ b. b < length part) u.begin (begins_in us) w))

abbrev counted : (from to : ℕ) → List ℕ → ℕ
counted from to bs = count_between from to bs

count_inside : (from to low high : ℕ) (bs : List ℕ) → Between low high bs → from ≤ low → high ≤ to → counted from to bs ≡ length bs
count_inside from to low high bs w a b =
    ap (λ z. length z) (all_pass (λ x. nat_le from x && nat_lt x to) bs
    (All-weaker (λ x. (low ≤ x) × (x < high)) (λ x. (nat_le from x && nat_lt x to) ≡ true) (λ x h. let c = h.0 in let d = h.1 in grind (arith, nat_tests, a, b, c, d)) bs w))

count_below : (from to low high : ℕ) (bs : List ℕ) → Between low high bs → high ≤ from → counted from to bs ≡ 0
count_below from to low high bs w a =
    ap (λ z. length z) (none_passes (λ x. nat_le from x && nat_lt x to) bs
    (All-weaker (λ x. (low ≤ x) × (x < high)) (λ x. (nat_le from x && nat_lt x to) ≡ false) (λ x h. let d = h.1 in grind (arith, nat_tests, a, d)) bs w))

count_above : (from to low high : ℕ) (bs : List ℕ) → Between low high bs → to ≤ low → counted from to bs ≡ 0
count_above from to low high bs w a =
    ap (λ z. length z) (none_passes (λ x. nat_le from x && nat_lt x to) bs
    (All-weaker (λ x. (low ≤ x) × (x < high)) (λ x. (nat_le from x && nat_lt x to) ≡ false) (λ x h. let c = h.0 in grind (arith, nat_tests, a, c)) bs w))

pub count_append : (from to : ℕ) (xs ys : List ℕ) → counted from to (xs ++ ys) ≡ counted from to xs + counted from to ys
count_append from to xs ys =
    ap (λ z. length z) (filter-append (λ x. nat_le from x && nat_lt x to) xs ys)
    ∙ length-append (filter (λ x. nat_le from x && nat_lt x to) xs) (filter (λ x. nat_le from x && nat_lt x to) ys)

-- what the counts of units in three parts rest on: where each part begins and ends
record Parts (e : EntityTable) (front text : List (List ℕ)) (from to : ℕ) : Type 0 where
  order : from ≤ to
  reach : from ≤ length front
  inside : length (take to text) ≤ to

front_between : (e : EntityTable) (front text : List (List ℕ)) (from to : ℕ) → Parts e front text from to → Between 0 from (begins_in (units e (take from front)))
front_between e front text from to w =
    let reach = w.reach in
    let size = length-take-le from front reach in
    All-weaker (λ b. b < length (take from front)) (λ b. (0 ≤ b) × (b < from)) (λ b h. (omega arith, omega (arith, h, size))) (begins e (take from front)) (begins_within e (take from front))

middle_between : (e : EntityTable) (front text : List (List ℕ)) (from to : ℕ) → Parts e front text from to →
    Between from to (begins_in (map (shift_found from) (units e (drop from (take to text)))))
middle_between e front text from to w =
    let order = w.order in
    let inside = w.inside in
    let size = length-drop from (take to text) in
    moved_between e (drop from (take to text)) from to (omega (arith, order, inside, size))

back_between : (e : EntityTable) (text : List (List ℕ)) (to : ℕ) → Between to (to + length (drop to text)) (begins_in (map (shift_found to) (units e (drop to text))))
back_between e text to = moved_between e (drop to text) to (to + length (drop to text)) (omega arith)

count_parts : (e : EntityTable) (front text : List (List ℕ)) (from to low high : ℕ) →
    counted low high (begins_in (in_parts e front text from to))
    ≡ (counted low high (begins_in (units e (take from front))) + counted low high (begins_in (map (shift_found from) (units e (drop from (take to text))))))
    + counted low high (begins_in (map (shift_found to) (units e (drop to text))))
count_parts e front text from to low high =
    let a = units e (take from front) in
    let b = map (shift_found from) (units e (drop from (take to text))) in
    let c = map (shift_found to) (units e (drop to text)) in
    ap (counted low high) (map-append (λ (f : FoundUnit). f.begin) (a ++ b) c ∙ ap (λ z. z ++ begins_in c) (map-append (λ (f : FoundUnit). f.begin) a b))
    ∙ count_append low high (begins_in a ++ begins_in b) (begins_in c)
    ∙ ap (λ z. z + counted low high (begins_in c)) (count_append low high (begins_in a) (begins_in b))

count_front : (e : EntityTable) (front text : List (List ℕ)) (from to : ℕ) → Parts e front text from to →
    counted 0 from (begins_in (in_parts e front text from to)) ≡ length (units e (take from front))
count_front e front text from to w =
    let order = w.order in
    let a = count_inside 0 from 0 from (begins_in (units e (take from front))) (front_between e front text from to w) (omega arith) (omega arith)
    ∙ map_length (λ (f : FoundUnit). f.begin) (units e (take from front)) in
    let b = count_above 0 from from to (begins_in (map (shift_found from) (units e (drop from (take to text))))) (middle_between e front text from to w) (omega arith) in
    let c = count_above 0 from to (to + length (drop to text)) (begins_in (map (shift_found to) (units e (drop to text)))) (back_between e text to) order in
    count_parts e front text from to 0 from ∙ omega (arith, a, b, c)

count_middle : (e : EntityTable) (front text : List (List ℕ)) (from to : ℕ) → Parts e front text from to →
    counted from to (begins_in (in_parts e front text from to)) ≡ length (units e (drop from (take to text)))
count_middle e front text from to w =
    let middle = units e (drop from (take to text)) in
    let a = count_below from to 0 from (begins_in (units e (take from front))) (front_between e front text from to w) (omega arith) in
    let b = count_inside from to from to (begins_in (map (shift_found from) middle)) (middle_between e front text from to w) (omega arith) (omega arith)
    ∙ map_length (λ (f : FoundUnit). f.begin) (map (shift_found from) middle) ∙ map_length (shift_found from) middle in
    let c = count_above from to to (to + length (drop to text)) (begins_in (map (shift_found to) (units e (drop to text)))) (back_between e text to) (omega arith) in
    count_parts e front text from to from to ∙ omega (arith, a, b, c)

parts_of_new : (e : EntityTable) (old new : List (List ℕ)) (p : Places) → IsEdit e old new p → Parts e old new (from_line p) (meeting_line p)
parts_of_new e old new p w =
    let above = from_above e old new p w in
    let behind = (meets e old new p w).behind in
    let fits = w.fits in
    let size = length-take (meeting_line p) new in
    record { order = omega (arith, above, behind); reach = omega (arith, above, fits); inside = grind (arith, size) }

parts_of_old : (e : EntityTable) (old new : List (List ℕ)) (p : Places) → IsEdit e old new p → Parts e old old (from_line p) (old_line p (meeting_line p))
parts_of_old e old new p w =
    let above = from_above e old new p w in
    let behind = (meets e old new p w).behind_old in
    let fits = w.fits in
    let size = length-take (old_line p (meeting_line p)) old in
    record { order = omega (arith, above, behind); reach = omega (arith, above, fits); inside = grind (arith, size) }

-- All of it: the units of both texts in three parts, and the numbers of the patch.
pub spliced : (e : EntityTable) (old new : List (List ℕ)) (p : Places) → IsEdit e old new p → IsSpliced e old new p
spliced e old new p w =
    let from = from_line p in
    let to = meeting_line p in
    let was = old_line p to in
    let olds = w.olds ∙ ap begins_in (old_parts e old new p w) in
    let news = w.news ∙ ap begins_in (new_parts e old new p w) in
    let order = (parts_of_new e old new p w).order in
    let m = meets e old new p w in
    record {
      order = order;
      olds = old_parts e old new p w;
      news = new_parts e old new p w;
      same = m.same;
      first = ap (counted 0 from) olds ∙ count_front e old old from was (parts_of_old e old new p w);
      removed = ap (counted from was) olds ∙ count_middle e old old from was (parts_of_old e old new p w);
      added = ap (counted from to) news ∙ count_middle e old new from to (parts_of_new e old new p w);
    }
