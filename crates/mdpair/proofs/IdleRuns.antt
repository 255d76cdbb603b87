-- Runs that open nothing, before which nothing can be opened, are taken by no match.
use Rattle.std.proofs.Common.{◌≡◌, ℕ, zero, suc, ◌+◌, ◌-◌, ◌≤◌, ◌&&◌, Bool, true, false, cond, eqb, List, [], ◌∷◌, ◌++◌, Option, Some, None, refl, ap, ◌∙◌, arith, length, map}
use Rattle.std.specs.List.{AllByRecursion}
use Rattle.std.specs.Option.{option_or}
use Rattle.mdpair.specs.declared.delimiter_runs.DelimiterRun.{DelimiterRun}
use Rattle.mdpair.specs.declared.emphasis.Match.{Match}
use Rattle.mdpair.specs.declared.emphasis.Remaining.{Remaining}
use Rattle.mdpair.specs.DelimiterRun.{is_admissible, same_delimiter, lengths_match}
use Rattle.mdpair.specs.Matches.{nearest, taken_of, left_of, without, onto, matched, match_with, match_at, first_match, and_on, matches_in, whole, left_in, matches, IsLeft}
use Rattle.mdpair.proofs.Sweep.{match_less, whole_left}

-- with so many runs more before all of them
abbrev pub moved_match : ℕ → Match → Match
moved_match k t = record { opener = k + t.opener; closer = k + t.closer; width = t.width }

abbrev moved : ℕ → Remaining → Remaining
moved k l = record { place = k + l.place; left = l.left; run = l.run }

abbrev pub OpenNothing : List DelimiterRun → Type 0
OpenNothing [] = Unit {0}
OpenNothing (r ∷ rs) = (r.can_open ≡ false) × OpenNothing rs

abbrev AreIdle : List Remaining → Type 0
AreIdle [] = Unit {0}
AreIdle (l ∷ ls) = (l.run.can_open ≡ false) × AreIdle ls

module _ (k : ℕ) (idle : List Remaining) (h : AreIdle idle) where
  abbrev lifted : List Remaining → List Remaining
  lifted ls = map (moved k) ls ++ idle

  none_idle : (c : DelimiterRun) (ls : List Remaining) → AreIdle ls → nearest c ls ≡ None
  none_idle c [] g = refl
  none_idle c (o ∷ below) g = ap (λ b. cond (b && same_delimiter o.run.delimiter c.delimiter && lengths_match c.delimiter o.run c) (Some (o, below)) (nearest c below)) g.0 ∙ none_idle c below g.1

  abbrev lifted_found : Option (Remaining × List Remaining) → Option (Remaining × List Remaining)
  lifted_found None = None
  lifted_found (Some (o, below)) = Some (moved k o, lifted below)

  nearest_lifted : (c : DelimiterRun) (ls : List Remaining) → nearest c (lifted ls) ≡ lifted_found (nearest c ls)
  nearest_lifted c [] = none_idle c idle h
  nearest_lifted c (o ∷ below) = by (is_admissible o.run c) (nearest_lifted c below)
    where
      by : (t : Bool) → nearest c (lifted below) ≡ lifted_found (nearest c below) → cond t (Some (moved k o, lifted below)) (nearest c (lifted below)) ≡ lifted_found (cond t (Some (o, below)) (nearest c below))
      by true e = refl
      by false e = e

  onto_lifted : (xs ys : List Remaining) → onto (lifted xs) (map (moved k) ys) ≡ onto idle (map (moved k) (onto xs ys))
  onto_lifted [] ys = refl
  onto_lifted (x ∷ xs) ys = onto_lifted xs (x ∷ ys)

  left_lifted : (n : ℕ) (l : Remaining) (ls : List Remaining) → left_of (k + l.place) (l.left - n) l.run ++ map (moved k) ls ≡ map (moved k) (without n l ++ ls)
  left_lifted n l ls = by (eqb (l.left - n) 0)
    where
      by : (t : Bool) → cond t [] (record { place = k + l.place; left = l.left - n; run = l.run } ∷ []) ++ map (moved k) ls ≡ map (moved k) (cond t [] (record { place = l.place; left = l.left - n; run = l.run } ∷ []) ++ ls)
      by true = refl
      by false = refl

  below_lifted : (n : ℕ) (l : Remaining) (ls : List Remaining) → left_of (k + l.place) (l.left - n) l.run ++ lifted ls ≡ lifted (without n l ++ ls)
  below_lifted n l ls = by (eqb (l.left - n) 0)
    where
      by : (t : Bool) → cond t [] (record { place = k + l.place; left = l.left - n; run = l.run } ∷ []) ++ lifted ls ≡ lifted (cond t [] (record { place = l.place; left = l.left - n; run = l.run } ∷ []) ++ ls)
      by true = refl
      by false = refl

  abbrev lifted_match : Option (Match × List Remaining) → Option (Match × List Remaining)
  lifted_match None = None
  lifted_match (Some (t, next)) = Some (moved_match k t, onto idle (map (moved k) next))

  with_lifted : (c : Remaining) (rest : List Remaining) (r : Option (Remaining × List Remaining)) → match_with (moved k c) (map (moved k) rest) (lifted_found r) ≡ lifted_match (match_with c rest r)
  with_lifted c rest None = refl
  with_lifted c rest (Some (o, below)) =
      let n = taken_of o c in
      ap (λ xs. Some (matched (moved k o) (moved k c), onto xs (without n (moved k c) ++ map (moved k) rest))) (below_lifted n o below)
      ∙ ap (λ ys. Some (matched (moved k o) (moved k c), onto (lifted (without n o ++ below)) ys)) (left_lifted n c rest)
      ∙ ap (λ next. Some (matched (moved k o) (moved k c), next)) (onto_lifted (without n o ++ below) (without n c ++ rest))

  either_lifted : (here later : Option (Match × List Remaining)) → option_or (lifted_match here) (lifted_match later) ≡ lifted_match (option_or here later)
  either_lifted None later = refl
  either_lifted (Some (t, next)) later = refl

  at_lifted : (passed : List Remaining) (c : Remaining) (rest : List Remaining) → match_at (lifted passed) (moved k c) (map (moved k) rest) ≡ lifted_match (match_at passed c rest)
  at_lifted passed c rest = by c.run.can_close (ap (match_with (moved k c) (map (moved k) rest)) (nearest_lifted c.run passed) ∙ with_lifted c rest (nearest c.run passed))
    where
      by : (t : Bool) → match_with (moved k c) (map (moved k) rest) (nearest c.run (lifted passed)) ≡ lifted_match (match_with c rest (nearest c.run passed)) →
          cond t (match_with (moved k c) (map (moved k) rest) (nearest c.run (lifted passed))) None ≡ lifted_match (cond t (match_with c rest (nearest c.run passed)) None)
      by true e = e
      by false e = refl

  first_lifted : (passed rest : List Remaining) → first_match (lifted passed) (map (moved k) rest) ≡ lifted_match (first_match passed rest)
  first_lifted passed [] = refl
  first_lifted passed (c ∷ rest) =
      ap (λ here. option_or here (first_match (lifted (c ∷ passed)) (map (moved k) rest))) (at_lifted passed c rest)
      ∙ ap (option_or (lifted_match (match_at passed c rest))) (first_lifted (c ∷ passed) rest)
      ∙ either_lifted (match_at passed c rest) (first_match (c ∷ passed) rest)

  past_idle : (ls rest : List Remaining) → AreIdle ls → first_match [] (onto ls rest) ≡ first_match ls rest
  past_idle [] rest g = refl
  past_idle (c ∷ below) rest g =
      past_idle below (c ∷ rest) g.1 ∙ ap (λ here. option_or here (first_match (c ∷ below) rest)) (by c.run.can_close (ap (match_with c rest) (none_idle c.run below g.1)))
    where
      by : (t : Bool) → match_with c rest (nearest c.run below) ≡ None → cond t (match_with c rest (nearest c.run below)) None ≡ None
      by true e = e
      by false e = refl

  in_lifted : (n : ℕ) (ls : List Remaining) → matches_in n (onto idle (map (moved k) ls)) ≡ map (moved_match k) (matches_in n ls)
  unfolding matches_in
  in_lifted zero ls = refl
  in_lifted (suc n) ls = ap (λ r. and_on r (matches_in n)) (past_idle idle (map (moved k) ls) h ∙ first_lifted [] ls) ∙ by (first_match [] ls) (λ next. in_lifted n next)
    where
      by : (r : Option (Match × List Remaining)) → ((next : List Remaining) → matches_in n (onto idle (map (moved k) next)) ≡ map (moved_match k) (matches_in n next)) →
          and_on (lifted_match r) (matches_in n) ≡ map (moved_match k) (and_on r (matches_in n))
      by None go = refl
      by (Some (t, next)) go = ap (λ ts. moved_match k t ∷ ts) (go next)

-- more steps than characters change nothing

enough : (n m : ℕ) (ls : List Remaining) → AllByRecursion IsLeft ls → left_in ls ≤ n → left_in ls ≤ m → matches_in n ls ≡ matches_in m ls
unfolding matches_in
enough zero zero ls p le few = refl
enough zero (suc m) ls p le few = by (first_match [] ls) refl
  where
    by : (r : Option (Match × List Remaining)) → first_match [] ls ≡ r → [] ≡ and_on r (matches_in m)
    by None e = refl
    by (Some (t, next)) e = (let less = (match_less [] ls t next tt p e).0 in absurd (omega (arith, less, le)))
enough (suc n) zero ls p le few = by (first_match [] ls) refl
  where
    by : (r : Option (Match × List Remaining)) → first_match [] ls ≡ r → and_on r (matches_in n) ≡ []
    by None e = refl
    by (Some (t, next)) e = (let less = (match_less [] ls t next tt p e).0 in absurd (omega (arith, less, few)))
enough (suc n) (suc m) ls p le few = by (first_match [] ls) refl (λ next. enough n m next)
  where
    by : (r : Option (Match × List Remaining)) → first_match [] ls ≡ r →
        ((next : List Remaining) → AllByRecursion IsLeft next → left_in next ≤ n → left_in next ≤ m → matches_in n next ≡ matches_in m next) →
        and_on r (matches_in n) ≡ and_on r (matches_in m)
    by None e go = refl
    by (Some (t, next)) e go =
        let less = match_less [] ls t next tt p e in
        let one = less.0 in
        ap (λ ts. t ∷ ts) (go next less.1 (omega (arith, one, le)) (omega (arith, one, few)))

-- all runs, with idle ones before them

whole_moved : (k n : ℕ) (rs : List DelimiterRun) → whole (k + n) rs ≡ map (moved k) (whole n rs)
whole_moved k n [] = refl
whole_moved k n (r ∷ rs) =
    ap (λ ls. left_of (k + n) r.length r ++ ls) (ap (λ m. whole m rs) (let e : k + n + 1 ≡ k + (n + 1) = omega arith in e) ∙ whole_moved k (n + 1) rs) ∙ by (eqb r.length 0)
  where
    by : (t : Bool) → cond t [] (record { place = k + n; left = r.length; run = r } ∷ []) ++ map (moved k) (whole (n + 1) rs) ≡ map (moved k) (cond t [] (record { place = n; left = r.length; run = r } ∷ []) ++ whole (n + 1) rs)
    by true = refl
    by false = refl

-- the idle ones, read backwards
stacked : ℕ → List DelimiterRun → List Remaining → List Remaining
stacked n [] below = below
stacked n (r ∷ rs) below = stacked (n + 1) rs (left_of n r.length r ++ below)

onto_stacked : (n : ℕ) (ds rs : List DelimiterRun) (below : List Remaining) → onto below (whole n (ds ++ rs)) ≡ onto (stacked n ds below) (whole (n + length ds) rs)
unfolding stacked
onto_stacked n [] rs below = ap (λ m. onto below (whole m rs)) (let e : n ≡ n + 0 = omega arith in e)
onto_stacked n (r ∷ ds) rs below =
    by (eqb r.length 0) ∙ onto_stacked (n + 1) ds rs (left_of n r.length r ++ below)
    ∙ ap (λ m. onto (stacked (n + 1) ds (left_of n r.length r ++ below)) (whole m rs)) (let e : n + 1 + length ds ≡ n + suc (length ds) = omega arith in e)
  where
    by : (t : Bool) → onto below (cond t [] (record { place = n; left = r.length; run = r } ∷ []) ++ whole (n + 1) (ds ++ rs)) ≡ onto (cond t [] (record { place = n; left = r.length; run = r } ∷ []) ++ below) (whole (n + 1) (ds ++ rs))
    by true = refl
    by false = refl

stacked_idle : (n : ℕ) (ds : List DelimiterRun) (below : List Remaining) → OpenNothing ds → AreIdle below → AreIdle (stacked n ds below)
unfolding stacked
stacked_idle n [] below g h = h
stacked_idle n (r ∷ ds) below g h = stacked_idle (n + 1) ds (left_of n r.length r ++ below) g.1 (by (eqb r.length 0))
  where
    by : (t : Bool) → AreIdle (cond t [] (record { place = n; left = r.length; run = r } ∷ []) ++ below)
    by true = h
    by false = (g.0, h)

left_in_onto : (xs ys : List Remaining) → left_in ys ≤ left_in (onto xs ys)
left_in_onto [] ys = omega arith
left_in_onto (x ∷ xs) ys = omega (arith, left_in_onto xs (x ∷ ys))

left_moved : (k : ℕ) (ls : List Remaining) → left_in (map (moved k) ls) ≡ left_in ls
left_moved k [] = refl
left_moved k (l ∷ ls) = ap (λ n. l.left + n) (left_moved k ls)

-- runs that open nothing before all others change no match but the places
pub idle_runs : (ds rs : List DelimiterRun) → OpenNothing ds → matches (ds ++ rs) ≡ map (moved_match (length ds)) (matches rs)
unfolding matches
idle_runs ds rs g =
    let k = length ds in
    let idle = stacked 0 ds [] in
    let h = stacked_idle 0 ds [] g tt in
    let all : whole 0 (ds ++ rs) ≡ onto idle (map (moved k) (whole 0 rs)) =
    onto_stacked 0 ds rs [] ∙ ap (λ m. onto idle (whole m rs)) (let e : 0 + length ds ≡ k + 0 = omega arith in e) ∙ ap (onto idle) (whole_moved k 0 rs) in
    let n = left_in (whole 0 (ds ++ rs)) in
    let many : left_in (whole 0 rs) ≤ n = omega (arith, left_in_onto idle (map (moved k) (whole 0 rs)), left_moved k (whole 0 rs), ap left_in all) in
    ap (matches_in n) all ∙ in_lifted k idle h n (whole 0 rs) ∙ ap (map (moved_match k)) (enough n (left_in (whole 0 rs)) (whole 0 rs) (whole_left 0 rs) many (omega arith))
