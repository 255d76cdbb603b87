-- One sweep over the runs takes what repeated searches from the left take.
use Rattle.std.proofs.Common.{◌≡◌, ℕ, zero, suc, ◌+◌, ◌-◌, ◌<◌, ◌≤◌, Bool, true, false, cond, eqb, List, [], ◌∷◌, ◌++◌, Option, Some, None, refl, sym, ap, ◌∙◌, subst, arith, length, take, drop, add-one, get_or}
use Rattle.std.proofs.lemmas.List.{take_more}
use Rattle.std.proofs.lemmas.Bool.Decides.{nat_tests}
use Rattle.std.specs.List.{AllByRecursion}
use Rattle.std.proofs.Math.Seq.{drop-cons}
use Rattle.std.specs.Option.{option_or}
use Rattle.mdpair.specs.declared.delimiter_runs.DelimiterRun.{DelimiterRun}
use Rattle.mdpair.specs.declared.emphasis.Match.{Match}
use Rattle.mdpair.specs.declared.emphasis.Remaining.{Remaining}
use Rattle.mdpair.specs.DelimiterRun.{is_admissible}
use Rattle.mdpair.proofs.Widths.{takes, opener_whole, closer_whole, pushed_left}
use Rattle.mdpair.specs.Matches.{nearest, width_of, taken_of, left_of, without, onto, stack, matched, after_match, match_with, first_match, and_on, matches_in, whole, left_in, matches, Rewrites, IsClear, IsLeft, IsBelow}

-- the stack of a longer list

onto_push : (xs : List Remaining) (y : Remaining) (zs : List Remaining) → onto (xs ++ y ∷ []) zs ≡ y ∷ onto xs zs
onto_push [] y zs = refl
onto_push (x ∷ xs) y zs = onto_push xs y (x ∷ zs)

pub stack_push : (xs : List Remaining) (y : Remaining) → stack (xs ++ y ∷ []) ≡ y ∷ stack xs
stack_push xs y = onto_push xs y []

pub stack_take : (xs : List Remaining) (i : ℕ) (d : Remaining) → i < length xs → stack (take (i + 1) xs) ≡ get_or xs i d ∷ stack (take i xs)
stack_take xs i d lt = ap stack (take_more xs i d lt) ∙ stack_push (take i xs) (get_or xs i d)

pub stack_at : (xs : List Remaining) (i : ℕ) (d : Remaining) → 0 < i → i ≤ length xs → stack (take i xs) ≡ get_or xs (i - 1) d ∷ stack (take (i - 1) xs)
stack_at xs i d low le =
    let same : i - 1 + 1 ≡ i = omega arith in
    ap (λ k. stack (take k xs)) (sym same) ∙ stack_take xs (i - 1) d (omega arith)

-- what is below the last run of a front keeps what holds of all
pub front_keeps : (Q : List Remaining → Type 0) → ((p : Remaining) (ps : List Remaining) → Q (p ∷ ps) → Q ps) → (xs : List Remaining) (i : ℕ) → 0 < i → i ≤ length xs →
    Q (stack (take i xs)) → Q (stack (take (i - 1) xs))
front_keeps Q tail [] i low le q = absurd (omega arith)
front_keeps Q tail (x ∷ xs) i low le q = tail _ _ (subst Q (stack_at (x ∷ xs) i x low le) q)

nearest_at : (c : DelimiterRun) (xs : List Remaining) (i : ℕ) (d : Remaining) → i < length xs →
    nearest c (stack (take (i + 1) xs)) ≡ cond (is_admissible (get_or xs i d).run c) (Some (get_or xs i d, stack (take i xs))) (nearest c (stack (take i xs)))
nearest_at c xs i d lt = ap (nearest c) (stack_take xs i d lt)

pub nearest_here : (c : DelimiterRun) (xs : List Remaining) (i : ℕ) (d : Remaining) → 0 < i → i ≤ length xs → is_admissible (get_or xs (i - 1) d).run c ≡ true →
    nearest c (stack (take i xs)) ≡ Some (get_or xs (i - 1) d, stack (take (i - 1) xs))
nearest_here c xs i d low le holds =
    let same : i - 1 + 1 ≡ i = omega arith in
    ap (λ k. nearest c (stack (take k xs))) (sym same) ∙ nearest_at c xs (i - 1) d (omega arith)
    ∙ ap (λ b. cond b (Some (get_or xs (i - 1) d, stack (take (i - 1) xs))) (nearest c (stack (take (i - 1) xs)))) holds

pub nearest_below : (c : DelimiterRun) (xs : List Remaining) (i : ℕ) (d : Remaining) → 0 < i → i ≤ length xs → is_admissible (get_or xs (i - 1) d).run c ≡ false →
    nearest c (stack (take i xs)) ≡ nearest c (stack (take (i - 1) xs))
nearest_below c xs i d low le fails =
    let same : i - 1 + 1 ≡ i = omega arith in
    ap (λ k. nearest c (stack (take k xs))) (sym same) ∙ nearest_at c xs (i - 1) d (omega arith)
    ∙ ap (λ b. cond b (Some (get_or xs (i - 1) d, stack (take (i - 1) xs))) (nearest c (stack (take (i - 1) xs)))) fails

-- a search from the left comes to where those passed are clear

takes_nothing : (c : Remaining) (rest : List Remaining) (b : Bool) (o : Option (Remaining × List Remaining)) → (b ≡ true → o ≡ None) → cond b (match_with c rest o) None ≡ None
takes_nothing c rest false o h = refl
takes_nothing c rest true o h = ap (match_with c rest) (h refl)

match_passed : (passed rest : List Remaining) → IsClear passed → first_match [] (onto passed rest) ≡ first_match passed rest
match_passed [] rest clear = refl
match_passed (c ∷ below) rest clear =
    match_passed below (c ∷ rest) clear.1 ∙ ap (λ here. option_or here (first_match (c ∷ below) rest)) (takes_nothing c rest c.run.can_close (nearest c.run below) clear.0)

taken_at : (c : Remaining) (rest : List Remaining) (b : Bool) (found : Option (Remaining × List Remaining)) (o : Remaining) (below : List Remaining) →
    b ≡ true → found ≡ Some (o, below) → cond b (match_with c rest found) None ≡ match_with c rest (Some (o, below))
taken_at c rest b found o below holds is = ap (λ b. cond b (match_with c rest found) None) holds ∙ ap (match_with c rest) is

pub match_taken : (passed rest : List Remaining) (c o : Remaining) (below : List Remaining) → IsClear passed → c.run.can_close ≡ true →
    nearest c.run passed ≡ Some (o, below) →
    first_match [] (onto passed (c ∷ rest)) ≡ Some (matched o c, after_match (taken_of o c) o below c rest)
match_taken passed rest c o below clear can_close is =
    match_passed passed (c ∷ rest) clear
    ∙ ap (λ here. option_or here (first_match (c ∷ passed) rest)) (taken_at c rest c.run.can_close (nearest c.run passed) o below can_close is)

pub no_match : (passed : List Remaining) → IsClear passed → first_match [] (onto passed []) ≡ None
no_match passed clear = match_passed passed [] clear

-- what is below an opener keeps what holds of all

module _ (Q : List Remaining → Type 0) (tail : (p : Remaining) (ps : List Remaining) → Q (p ∷ ps) → Q ps) where
  found : (b : Bool) (p : Remaining) (ps : List Remaining) (other : Option (Remaining × List Remaining)) (o : Remaining) (below : List Remaining) →
      (other ≡ Some (o, below) → Q (o ∷ below)) → Q (p ∷ ps) → cond b (Some (p, ps)) other ≡ Some (o, below) → Q (o ∷ below)
  found false p ps other o below later q e = later e
  found true p ps other o below later q e =
      let same : ◌≡◌ {A = Remaining × List Remaining} (p, ps) (o, below) = cc in subst (λ (z : Remaining × List Remaining). Q (z.0 ∷ z.1)) same q

  pub nearest_keeps : (c : DelimiterRun) (passed : List Remaining) (o : Remaining) (below : List Remaining) →
      nearest c passed ≡ Some (o, below) → Q passed → Q (o ∷ below)
  nearest_keeps c [] o below e q = cc
  nearest_keeps c (p ∷ ps) o below e q =
      found (is_admissible p.run c) p ps (nearest c ps) o below (λ e. nearest_keeps c ps o below e (tail p ps q)) q e

pub nearest_clear : (c : DelimiterRun) (passed : List Remaining) (o : Remaining) (below : List Remaining) →
    nearest c passed ≡ Some (o, below) → IsClear passed → IsClear (o ∷ below)
nearest_clear = nearest_keeps IsClear (λ p ps q. q.1)

pub nearest_admissible : (c : DelimiterRun) (passed : List Remaining) (o : Remaining) (below : List Remaining) →
    nearest c passed ≡ Some (o, below) → is_admissible o.run c ≡ true
nearest_admissible c [] o below e = cc
nearest_admissible c (p ∷ ps) o below e = at (is_admissible p.run c) refl (nearest_admissible c ps o below) e
  where
    at : (b : Bool) → is_admissible p.run c ≡ b → (nearest c ps ≡ Some (o, below) → is_admissible o.run c ≡ true) →
        cond b (Some (p, ps)) (nearest c ps) ≡ Some (o, below) → is_admissible o.run c ≡ true
    at false is later e = later e
    at true is later e =
        let same : ◌≡◌ {A = Remaining × List Remaining} (p, ps) (o, below) = cc in subst (λ (z : Remaining × List Remaining). is_admissible (z.0).run c ≡ true) same is

pub nearest_has_left : (c : DelimiterRun) (passed : List Remaining) (o : Remaining) (below : List Remaining) →
    nearest c passed ≡ Some (o, below) → AllByRecursion IsLeft passed → AllByRecursion IsLeft (o ∷ below)
nearest_has_left = nearest_keeps (AllByRecursion IsLeft) (λ p ps q. q.1)

-- what is left of an opener goes back onto the stack

pub left_of_clear : (n : ℕ) (o : Remaining) (below : List Remaining) → IsClear (o ∷ below) → IsClear (without n o ++ below)
left_of_clear n o below clear = at (eqb (o.left - n) 0)
  where
    at : (b : Bool) → IsClear (cond b [] (record { place = o.place; left = o.left - n; run = o.run } ∷ []) ++ below)
    at true = clear.1
    at false = clear

-- matches in a row

pub rewrites_push : (ls : List Remaining) (ts : List Match) (middle end : List Remaining) (t : Match) →
    Rewrites ls ts middle → first_match [] middle ≡ Some (t, end) → Rewrites ls (ts ++ t ∷ []) end
rewrites_push ls [] middle end t h e = (end, ap (first_match []) h ∙ e, refl)
rewrites_push ls (u ∷ ts) middle end t h e = (h.0, h.1, rewrites_push h.0 ts middle end t h.2 e)

-- such a row is the matches, where each of them takes something

rewritten_matches : (n : ℕ) (ls : List Remaining) (ts : List Match) (end : List Remaining) →
    Rewrites ls ts end → first_match [] end ≡ None → length ts ≤ n → matches_in n ls ≡ ts
unfolding matches_in
rewritten_matches zero ls [] end h stop few = refl
rewritten_matches (suc n) ls [] end h stop few = ap (λ o. and_on o (matches_in n)) (ap (first_match []) h ∙ stop)
rewritten_matches zero ls (t ∷ ts) end h stop few = absurd (omega arith)
rewritten_matches (suc n) ls (t ∷ ts) end h stop few =
    ap (λ o. and_on o (matches_in n)) h.1 ∙ ap (λ us. t ∷ us) (rewritten_matches n h.0 ts end h.2 stop (omega arith))

-- each time round the loop is one match

left_of_some : (place left : ℕ) (run : DelimiterRun) → 0 < left → left_of place left run ≡ record { place = place; left = left; run = run } ∷ []
left_of_some place left run some =
    let is : eqb left 0 ≡ false = grind (arith, nat_tests) in
    ap (λ b. cond b [] (record { place = place; left = left; run = run } ∷ [])) is

pub match_rewrites : (start rest : List Remaining) (ts new : List Match) (passed passed' below : List Remaining) (o : Remaining) (place left w : ℕ) (run : DelimiterRun) →
    IsClear passed → run.can_close ≡ true → 0 < left → nearest run passed ≡ Some (o, below) → w ≡ width_of run.delimiter run.length o.left left →
    new ≡ ts ++ (record { opener = o.place; closer = place; width = w }) ∷ [] →
    passed' ≡ left_of o.place (o.left - w) o.run ++ below →
    Rewrites start ts (onto passed (left_of place left run ++ rest)) →
    Rewrites start new (onto passed' (left_of place (left - w) run ++ rest))
match_rewrites start rest ts new passed passed' below o place left w run clear can_close some found wide pushed kept rewrites =
    let c : Remaining = record { place = place; left = left; run = run } in
    let before : Rewrites start ts (onto passed (c ∷ rest)) = subst (λ l. Rewrites start ts (onto passed (l ++ rest))) (left_of_some place left run some) rewrites in
    let taken = match_taken passed rest c o below clear can_close found in
    let t : Match = record { opener = o.place; closer = place; width = w } in
    let after : Rewrites start (ts ++ t ∷ []) (onto (left_of o.place (o.left - w) o.run ++ below) (left_of place (left - w) run ++ rest)) =
    rw wide (rewrites_push start ts _ _ (matched o c) before taken) in
    rw (pushed, kept) after

pub found_item : (c : DelimiterRun) (s items : List Remaining) (i : ℕ) (o : Remaining) → s ≡ items → o ≡ get_or items i o →
    nearest c (stack s) ≡ Some (get_or s i o, stack (take i s)) → nearest c (stack items) ≡ Some (o, stack (take i items))
found_item c s items i o same is h =
    subst (λ z. nearest c (stack z) ≡ Some (get_or z i o, stack (take i z))) same h ∙ ap (λ x. Some (x, stack (take i items))) (sym is)

-- each match leaves less

left_in_append : (xs ys : List Remaining) → left_in (xs ++ ys) ≡ left_in xs + left_in ys
left_in_append [] ys = omega arith
left_in_append (x ∷ xs) ys = omega (arith, left_in_append xs ys)

left_in_onto : (xs ys : List Remaining) → left_in (onto xs ys) ≡ left_in xs + left_in ys
left_in_onto [] ys = omega arith
left_in_onto (x ∷ xs) ys = omega (arith, left_in_onto xs (x ∷ ys))

left_in_left_of : (place left : ℕ) (run : DelimiterRun) → left_in (left_of place left run) ≡ left
left_in_left_of place left run = at (eqb left 0) refl
  where
    at : (b : Bool) → eqb left 0 ≡ b → left_in (cond b [] (record { place = place; left = left; run = run } ∷ [])) ≡ left
    at true e = grind (arith, nat_tests)
    at false e = omega arith

left_onto : (xs ys : List Remaining) → AllByRecursion IsLeft xs → AllByRecursion IsLeft ys → AllByRecursion IsLeft (onto xs ys)
left_onto [] ys p q = q
left_onto (x ∷ xs) ys p q = left_onto xs (x ∷ ys) p.1 (p.0, q)

abbrev IsLess : List Remaining → List Remaining → List Remaining → Type 0
IsLess passed rest next = (left_in next + 1 ≤ left_in passed + left_in rest) × AllByRecursion IsLeft next

taken_less : (c o : Remaining) (passed below rest : List Remaining) → AllByRecursion IsLeft passed → AllByRecursion IsLeft (c ∷ rest) →
    nearest c.run passed ≡ Some (o, below) →
    IsLess passed (c ∷ rest) (after_match (taken_of o c) o below c rest)
taken_less c o passed below rest p q found =
    let w = taken_of o c in
    let kept : AllByRecursion IsLeft (o ∷ below) = nearest_has_left c.run passed o below found p in
    let ok = nearest_admissible c.run passed o below found in
    let fits = takes o c.run c.left ok kept.0 q.0.0 q.0.1 in
    let fewer : left_in (o ∷ below) ≤ left_in passed = nearest_keeps (λ xs. left_in xs ≤ left_in passed) (λ p ps h. omega arith) c.run passed o below found (omega arith) in (
      omega (arith, fits.some, fits.opener, fits.closer, fewer, left_in_onto (without w o ++ below) (without w c ++ rest), left_in_append (without w o) below, left_in_append (without w c) rest, left_in_left_of o.place (o.left - w) o.run, left_in_left_of c.place (c.left - w) c.run),
      left_onto (without w o ++ below) (without w c ++ rest) (pushed_left o.place (o.left - w) o.run below (λ t some. absurd (omega (arith, opener_whole o c.run c.left ok kept.0 t))) kept.1)
          (pushed_left c.place (c.left - w) c.run rest (λ t some. absurd (omega (arith, closer_whole c.run o.left c.left q.0.1 t))) q.1),
    )

pub match_less : (passed rest : List Remaining) (t : Match) (next : List Remaining) → AllByRecursion IsLeft passed → AllByRecursion IsLeft rest →
    first_match passed rest ≡ Some (t, next) → IsLess passed rest next
match_less passed [] t next p q e = cc
match_less passed (c ∷ rest) t next p q e =
    at c.run.can_close (nearest c.run passed) (first_match (c ∷ passed) rest) (λ h. later (match_less (c ∷ passed) rest t next (q.0, p) q.1 h))
    (λ o below found. taken_less c o passed below rest p q found) e
  where
    later : IsLess (c ∷ passed) rest next → IsLess passed (c ∷ rest) next
    later h = (omega (arith, h.0), h.1)

    at : (b : Bool) (found : Option (Remaining × List Remaining)) (other : Option (Match × List Remaining)) →
        (other ≡ Some (t, next) → IsLess passed (c ∷ rest) next) →
        ((o : Remaining) (below : List Remaining) → found ≡ Some (o, below) → IsLess passed (c ∷ rest) (after_match (taken_of o c) o below c rest)) →
        option_or (cond b (match_with c rest found) None) other ≡ Some (t, next) → IsLess passed (c ∷ rest) next
    at false found other f g e = f e
    at true None other f g e = f e
    at true (Some (o, below)) other f g e =
        let same : ◌≡◌ {A = Match × List Remaining} (matched o c, after_match (taken_of o c) o below c rest) (t, next) = cc in
        subst (λ (z : Match × List Remaining). IsLess passed (c ∷ rest) (z.1)) same (g o below refl)

rewrites_few : (ls : List Remaining) (ts : List Match) (end : List Remaining) → AllByRecursion IsLeft ls → Rewrites ls ts end → length ts ≤ left_in ls
rewrites_few ls [] end p h = omega arith
rewrites_few ls (t ∷ ts) end p h =
    let less = match_less [] ls t h.0 tt p h.1 in omega (arith, less.0, rewrites_few h.0 ts end less.1 h.2)

pub whole_left : (n : ℕ) (rs : List DelimiterRun) → AllByRecursion IsLeft (whole n rs)
whole_left n [] = tt
whole_left n (r ∷ rs) = pushed_left n r.length r (whole (n + 1) rs) (λ _ _. refl) (whole_left (n + 1) rs)

-- matches in a row up to where there is none are all the matches
pub all_matches : (runs : List DelimiterRun) (ts : List Match) (passed : List Remaining) → IsClear passed →
    Rewrites (whole 0 runs) ts (onto passed []) → ts ≡ matches runs
unfolding matches
all_matches runs ts passed clear rewrites =
    sym (rewritten_matches (left_in (whole 0 runs)) (whole 0 runs) ts (onto passed []) rewrites (no_match passed clear) (rewrites_few (whole 0 runs) ts (onto passed []) (whole_left 0 runs) rewrites))

-- places

pub nearest_is_below : (k : ℕ) (c : DelimiterRun) (passed : List Remaining) (o : Remaining) (below : List Remaining) →
    nearest c passed ≡ Some (o, below) → AllByRecursion (IsBelow k) passed → AllByRecursion (IsBelow k) (o ∷ below)
nearest_is_below k = nearest_keeps (AllByRecursion (IsBelow k)) (λ p ps q. q.1)

pub left_of_below : (k place left : ℕ) (run : DelimiterRun) (below : List Remaining) → place < k → AllByRecursion (IsBelow k) below → AllByRecursion (IsBelow k) (left_of place left run ++ below)
left_of_below k place left run below lt each = at (eqb left 0)
  where
    at : (b : Bool) → AllByRecursion (IsBelow k) (cond b [] (record { place = place; left = left; run = run } ∷ []) ++ below)
    at true = each
    at false = (lt, each)

pub below_more : (k : ℕ) (ls : List Remaining) → AllByRecursion (IsBelow k) ls → AllByRecursion (IsBelow (k + 1)) ls
below_more k [] h = tt
below_more k (l ∷ ls) h = (omega (arith, h.0), below_more k ls h.1)

pub pushed_below : (n left : ℕ) (run : DelimiterRun) (ls : List Remaining) → AllByRecursion (IsBelow n) ls → AllByRecursion (IsBelow (n + 1)) (left_of n left run ++ ls)
pushed_below n left run ls h = left_of_below (n + 1) n left run ls (omega arith) (below_more n ls h)

pub onto_left : (ls rest : List Remaining) (place left : ℕ) (run : DelimiterRun) → onto (left_of place left run ++ ls) rest ≡ onto ls (left_of place left run ++ rest)
onto_left ls rest place left run = at (eqb left 0)
  where
    at : (b : Bool) → onto (cond b [] (record { place = place; left = left; run = run } ∷ []) ++ ls) rest ≡ onto ls (cond b [] (record { place = place; left = left; run = run } ∷ []) ++ rest)
    at true = refl
    at false = refl

pub lives_at : (rs : List DelimiterRun) (i : ℕ) (d : DelimiterRun) → i < length rs →
    whole i (drop i rs) ≡ left_of i (get_or rs i d).length (get_or rs i d) ++ whole (i + 1) (drop (i + 1) rs)
lives_at rs i d lt = let e : drop i rs ≡ get_or rs i d ∷ drop (i + 1) rs = rw (add-one, drop-cons rs i d) refl in ap (whole i) e
