-- Of each match the opener stands before the closer, and the closer is one of the runs.
use Rattle.std.proofs.Common.{◌≡◌, ℕ, zero, suc, ◌+◌, ◌-◌, ◌<◌, ◌≤◌, Bool, true, false, cond, eqb, List, [], ◌∷◌, ◌++◌, length, Option, Some, None, IfSome, subst, arith}
use Rattle.std.specs.Option.{option_or}
use Rattle.mdpair.specs.declared.delimiter_runs.DelimiterRun.{DelimiterRun}
use Rattle.mdpair.specs.declared.emphasis.Match.{Match}
use Rattle.mdpair.specs.declared.emphasis.Remaining.{Remaining}
use Rattle.mdpair.specs.DelimiterRun.{is_admissible}
use Rattle.mdpair.specs.Matches.{nearest, left_of, without, onto, taken_of, match_with, match_at, first_match, and_on, matches_in, whole, left_in, matches}

-- places rise from one number on, and stay below another
Rises : ℕ → ℕ → List Remaining → Type 0
Rises m k [] = k ≤ m
Rises m k (l ∷ ls) = (k ≤ l.place) × Rises m (l.place + 1) ls

-- places fall from below a number on
Falls : ℕ → List Remaining → Type 0
Falls k [] = Unit {0}
Falls k (l ∷ ls) = (l.place < k) × Falls l.place ls

rises_from : (m k j : ℕ) (ls : List Remaining) → j ≤ k → Rises m k ls → Rises m j ls
unfolding Rises
rises_from m k j [] le h = omega arith
rises_from m k j (l ∷ ls) le h = (omega arith, h.1)

rises_below : (m k : ℕ) (ls : List Remaining) → Rises m k ls → k ≤ m
unfolding Rises
rises_below m k [] h = h
rises_below m k (l ∷ ls) h = let more = rises_below m (l.place + 1) ls h.1 in omega arith

falls_from : (k j : ℕ) (ls : List Remaining) → k ≤ j → Falls k ls → Falls j ls
unfolding Falls
falls_from k j [] le h = tt
falls_from k j (l ∷ ls) le h = (omega arith, h.1)

onto_rises : (m k : ℕ) (xs ys : List Remaining) → Falls k xs → Rises m k ys → Rises m 0 (onto xs ys)
unfolding Rises Falls
onto_rises m k [] ys h r = rises_from m k 0 ys (omega arith) r
onto_rises m k (x ∷ xs) ys h r = onto_rises m x.place xs (x ∷ ys) h.1 (omega arith, rises_from m k (x.place + 1) ys (omega arith) r)

left_rises : (m k place left : ℕ) (run : DelimiterRun) (rest : List Remaining) → k ≤ place → Rises m (place + 1) rest → Rises m k (left_of place left run ++ rest)
unfolding Rises
left_rises m k place left run rest le h = by (eqb left 0)
  where
    by : (t : Bool) → Rises m k (cond t [] (record { place = place; left = left; run = run } ∷ []) ++ rest)
    by true = rises_from m (place + 1) k rest (omega arith) h
    by false = (le, h)

left_falls : (k place left : ℕ) (run : DelimiterRun) (below : List Remaining) → place < k → Falls place below → Falls k (left_of place left run ++ below)
unfolding Falls
left_falls k place left run below lt h = by (eqb left 0)
  where
    by : (t : Bool) → Falls k (cond t [] (record { place = place; left = left; run = run } ∷ []) ++ below)
    by true = falls_from place k below (omega arith) h
    by false = (lt, h)

IsFound : ℕ → Remaining × List Remaining → Type 0
IsFound k p = (p.0.place < k) × Falls p.0.place p.1

found_below : (k j : ℕ) (r : Option (Remaining × List Remaining)) → j ≤ k → IfSome r (IsFound j) → IfSome r (IsFound k)
unfolding IsFound
found_below k j None le h = tt
found_below k j (Some p) le h = (omega arith, h.1)

nearest_falls : (k : ℕ) (c : DelimiterRun) (passed : List Remaining) → Falls k passed → IfSome (nearest c passed) (IsFound k)
unfolding Falls IsFound
nearest_falls k c [] h = tt
nearest_falls k c (o ∷ below) h = by (is_admissible o.run c) (found_below k o.place (nearest c below) (omega arith) (nearest_falls o.place c below h.1))
  where
    by : (t : Bool) → IfSome (nearest c below) (IsFound k) → IfSome (cond t (Some (o, below)) (nearest c below)) (IsFound k)
    by true f = (h.0, h.1)
    by false f = f

IsOrderedMatch : ℕ → Match × List Remaining → Type 0
IsOrderedMatch m p = (p.0.opener < p.0.closer) × (p.0.closer < m) × Rises m 0 p.1

taken_ordered : (m k : ℕ) (c : Remaining) (rest : List Remaining) (r : Option (Remaining × List Remaining)) →
    k ≤ c.place → Rises m (c.place + 1) rest → IfSome r (IsFound k) → IfSome (match_with c rest r) (IsOrderedMatch m)
unfolding IsOrderedMatch IsFound
taken_ordered m k c rest None le h f = tt
taken_ordered m k c rest (Some (o, below)) le h f =
    let n = taken_of o c in
    let bound = rises_below m (c.place + 1) rest h in
    let front = left_falls (o.place + 1) o.place (o.left - n) o.run below (omega arith) f.1 in
    let back = left_rises m (o.place + 1) c.place (c.left - n) c.run rest (omega arith) h in
    (omega arith, omega arith, onto_rises m (o.place + 1) (without n o ++ below) (without n c ++ rest) front back)

either : (m : ℕ) (here later : Option (Match × List Remaining)) → IfSome here (IsOrderedMatch m) → IfSome later (IsOrderedMatch m) → IfSome (option_or here later) (IsOrderedMatch m)
either m None later f g = g
either m (Some p) later f g = f

match_rises : (m k : ℕ) (passed rest : List Remaining) → Falls k passed → Rises m k rest → IfSome (first_match passed rest) (IsOrderedMatch m)
unfolding Rises Falls
match_rises m k passed [] h r = tt
match_rises m k passed (c ∷ rest) h r =
    either m (match_at passed c rest) (first_match (c ∷ passed) rest) (by c.run.can_close)
    (match_rises m (c.place + 1) (c ∷ passed) rest (omega arith, falls_from k c.place passed r.0 h) r.1)
  where
    by : (t : Bool) → IfSome (cond t (match_with c rest (nearest c.run passed)) None) (IsOrderedMatch m)
    by true = taken_ordered m k c rest (nearest c.run passed) r.0 r.1 (nearest_falls k c.run passed h)
    by false = tt

unfoldable pub AreOrdered : ℕ → List Match → Type 0
AreOrdered m [] = Unit {0}
AreOrdered m (t ∷ ts) = (t.opener < t.closer) × (t.closer < m) × AreOrdered m ts

no_falls : (k : ℕ) → Falls k []
unfolding Falls
no_falls k = tt

ordered_on : (n m : ℕ) (r : Option (Match × List Remaining)) → IfSome r (IsOrderedMatch m) → ((next : List Remaining) → Rises m 0 next → AreOrdered m (matches_in n next)) → AreOrdered m (and_on r (matches_in n))
unfolding AreOrdered IsOrderedMatch
ordered_on n m None f go = tt
ordered_on n m (Some (t, next)) f go = (f.0, f.1, go next f.2)

ordered_in : (n m : ℕ) (ls : List Remaining) → Rises m 0 ls → AreOrdered m (matches_in n ls)
unfolding matches_in AreOrdered
ordered_in zero m ls h = tt
ordered_in (suc n) m ls h = ordered_on n m (first_match [] ls) (match_rises m 0 [] ls (no_falls 0) h) (λ next r. ordered_in n m next r)

whole_rises : (n : ℕ) (runs : List DelimiterRun) → Rises (n + length runs) n (whole n runs)
unfolding Rises
whole_rises n [] = omega arith
whole_rises n (r ∷ rs) =
    let more : Rises (n + 1 + length rs) (n + 1) (whole (n + 1) rs) = whole_rises (n + 1) rs in
    let same : n + 1 + length rs ≡ n + length (r ∷ rs) = omega arith in
    left_rises (n + length (r ∷ rs)) n n r.length r (whole (n + 1) rs) (omega arith) (subst (λ (m : ℕ). Rises m (n + 1) (whole (n + 1) rs)) same more)

pub matches_ordered : (runs : List DelimiterRun) → AreOrdered (length runs) (matches runs)
unfolding matches
matches_ordered runs =
    let same : 0 + length runs ≡ length runs = omega arith in
    ordered_in (left_in (whole 0 runs)) (length runs) (whole 0 runs) (subst (λ (m : ℕ). Rises m 0 (whole 0 runs)) same (whole_rises 0 runs))
