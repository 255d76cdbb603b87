-- Why a search for an opener may stop at a bottom.
use Rattle.std.proofs.Common.{zero, suc, All, subst, length, take, get_or, ◌≡◌, ℕ, ◌+◌, ◌-◌, ◌%◌, ◌<◌, ◌≤◌, Bool, true, false, cond, eqb, not, ◌&&◌, ◌||◌, List, [], ◌∷◌, ◌++◌, Some, None, refl, sym, ap, ◌∙◌, arith}
use Rattle.std.proofs.Math.Nat.{add-mod}
use Rattle.std.proofs.lemmas.List.Elements.{All-weaker}
use Rattle.std.specs.List.{AllByRecursion}
use Rattle.mdpair.specs.declared.delimiter_runs.DelimiterChar.{DelimiterChar}
use Rattle.mdpair.specs.declared.delimiter_runs.DelimiterChar.TheVariants.{Asterisk, Underscore, Tilde}
use Rattle.mdpair.specs.declared.delimiter_runs.DelimiterRun.{DelimiterRun}
use Rattle.mdpair.specs.declared.emphasis.Remaining.{Remaining}
use Rattle.mdpair.specs.DelimiterRun.{same_delimiter, can_both, lengths_fit, lengths_match, is_admissible}
use Rattle.mdpair.specs.Matches.{nearest, without, left_of, stack, IsBelow}
use Rattle.mdpair.specs.declared.searches.Bottom.{Bottom}
use Rattle.mdpair.proofs.Sweep.{nearest_keeps, stack_at}
use Rattle.mdpair.specs.OpenersBottom.{IsSameKind, IsBottom, IsBottomUpTo, Descends}

lengths_same : (o c d : DelimiterRun) → c.length % 3 ≡ d.length % 3 → can_both c ≡ can_both d → lengths_fit o c ≡ lengths_fit o d
lengths_same o c d rest opens =
    let sum : (o.length + c.length) % 3 ≡ (o.length + d.length) % 3 =
    add-mod o.length c.length 3 ∙ ap (λ r. (o.length % 3 + r) % 3) rest ∙ sym (add-mod o.length d.length 3) in
    ap (λ b. not (can_both o || b) || not (eqb ((o.length + c.length) % 3) 0) || (eqb (o.length % 3) 0 && eqb (c.length % 3) 0)) opens
    ∙ ap (λ s. not (can_both o || can_both d) || not (eqb s 0) || (eqb (o.length % 3) 0 && eqb (c.length % 3) 0)) sum
    ∙ ap (λ r. not (can_both o || can_both d) || not (eqb ((o.length + d.length) % 3) 0) || (eqb (o.length % 3) 0 && eqb r 0)) rest

match_same : (m : DelimiterChar) (o c d : DelimiterRun) → c.length % 3 ≡ d.length % 3 → can_both c ≡ can_both d → (m ≡ Tilde → c.length ≡ d.length) → lengths_match m o c ≡ lengths_match m o d
match_same Tilde o c d rest opens tilde = ap (λ n. eqb o.length n) (tilde refl)
match_same Asterisk o c d rest opens tilde = lengths_same o c d rest opens
match_same Underscore o c d rest opens tilde = lengths_same o c d rest opens

pub same_kind : (o c d : DelimiterRun) → IsSameKind c d → is_admissible o c ≡ is_admissible o d
same_kind o c d k =
    ap (λ b. o.can_open && same_delimiter o.delimiter c.delimiter && b) (match_same c.delimiter o c d k.thirds k.both k.tildes)
    ∙ ap (λ m. o.can_open && same_delimiter o.delimiter m && lengths_match m o d) k.delimiter

none_below : (bottom k : ℕ) (c : DelimiterRun) (ls : List Remaining) → k ≤ bottom → AllByRecursion (IsBelow k) ls → IsBottom bottom c ls → nearest c ls ≡ None
none_below bottom k c [] le low sound = refl
none_below bottom k c (l ∷ ls) le low sound =
    ap (λ b. cond b (Some (l, ls)) (nearest c ls)) (sound.0 (omega arith)) ∙ none_below bottom k c ls le low.1 sound.1

-- a search that found nothing makes the place a bottom for each closer of the kind
pub missed : (p : ℕ) (c d : DelimiterRun) (ls : List Remaining) → nearest c ls ≡ None → IsSameKind c d → IsBottom p d ls
missed p c d [] none k = tt
missed p c d (l ∷ ls) none k = at (is_admissible l.run c) refl none (λ h. missed p c d ls h k)
  where
    at : (b : Bool) → is_admissible l.run c ≡ b → cond b (Some (l, ls)) (nearest c ls) ≡ None → (nearest c ls ≡ None → IsBottom p d ls) → IsBottom p d (l ∷ ls)
    at true e h later = cc
    at false e h later = (λ _. sym (same_kind l.run c d k) ∙ e, later h)

-- what a match leaves of the stack keeps its bottoms; so does a run that is put on it, above them
pub kept : (bottom n : ℕ) (c : DelimiterRun) (o : Remaining) (below : List Remaining) → IsBottom bottom c (o ∷ below) → IsBottom bottom c (without n o ++ below)
kept bottom n c o below sound = at (eqb (o.left - n) 0)
  where
    at : (b : Bool) → IsBottom bottom c (cond b [] (record { place = o.place; left = o.left - n; run = o.run } ∷ []) ++ below)
    at true = sound.1
    at false = sound

put_on : (bottom : ℕ) (c : DelimiterRun) (l : Remaining) (ls : List Remaining) → bottom ≤ l.place → IsBottom bottom c ls → IsBottom bottom c (l ∷ ls)
put_on bottom c l ls le sound = (λ lt. absurd (omega arith), sound)

-- below a run that stands below the bottom no run opens
pub none_at_bottom : (bottom : ℕ) (c : DelimiterRun) (l : Remaining) (ls : List Remaining) → l.place < bottom → Descends (l ∷ ls) → IsBottom bottom c (l ∷ ls) → nearest c (l ∷ ls) ≡ None
none_at_bottom bottom c l ls lt falls sound =
    ap (λ b. cond b (Some (l, ls)) (nearest c ls)) (sound.0 lt) ∙ none_below bottom l.place c ls (omega arith) falls.0 sound.1

pub nearest_descends : (c : DelimiterRun) (passed : List Remaining) (o : Remaining) (below : List Remaining) → nearest c passed ≡ Some (o, below) → Descends passed → Descends (o ∷ below)
nearest_descends = nearest_keeps Descends (λ p ps q. q.1)

pub nearest_bottom : (bottom : ℕ) (d c : DelimiterRun) (passed : List Remaining) (o : Remaining) (below : List Remaining) → nearest c passed ≡ Some (o, below) → IsBottom bottom d passed →
    IsBottom bottom d (o ∷ below)
nearest_bottom bottom d = nearest_keeps (IsBottom bottom d) (λ p ps q. q.1)

pub left_of_descends : (n : ℕ) (run : DelimiterRun) (o : Remaining) (below : List Remaining) → Descends (o ∷ below) → Descends (left_of o.place n run ++ below)
left_of_descends n run o below falls = at (eqb n 0)
  where
    at : (b : Bool) → Descends (cond b [] (record { place = o.place; left = n; run = run } ∷ []) ++ below)
    at true = falls.1
    at false = falls

-- what is left of a run goes onto the stack
pub pushed_bottom : (bottom : ℕ) (c : DelimiterRun) (place n : ℕ) (run : DelimiterRun) (ls : List Remaining) → bottom ≤ place → IsBottom bottom c ls → IsBottom bottom c (left_of place n run ++ ls)
pushed_bottom bottom c place n run ls le sound = at (eqb n 0)
  where
    at : (b : Bool) → IsBottom bottom c (cond b [] (record { place = place; left = n; run = run } ∷ []) ++ ls)
    at true = sound
    at false = put_on bottom c (record { place = place; left = n; run = run }) ls le sound

pub pushed_bottoms : (place n : ℕ) (run : DelimiterRun) (ls new : List Remaining) (bs : List Bottom) → new ≡ left_of place n run ++ ls → All (IsBottomUpTo place ls) bs → All (IsBottomUpTo (place + 1) new) bs
pushed_bottoms place n run ls new bs e h =
    All-weaker (IsBottomUpTo place ls) (IsBottomUpTo (place + 1) new)
    (λ b s. (omega (arith, s.0), subst (IsBottom b.place b.closer) (sym e) (pushed_bottom b.place b.closer place n run ls s.0 s.1))) bs h

-- a bottom is one for each closer of the kind
pub bottom_same : (p : ℕ) (c d : DelimiterRun) (ls : List Remaining) → IsSameKind c d → IsBottom p c ls → IsBottom p d ls
bottom_same p c d [] k h = tt
bottom_same p c d (l ∷ ls) k h = (λ lt. sym (same_kind l.run c d k) ∙ h.0 lt, bottom_same p c d ls k h.1)

pub front_none : (bottom : ℕ) (c : DelimiterRun) (xs : List Remaining) (i : ℕ) (d : Remaining) → 0 < i → i ≤ length xs → (get_or xs (i - 1) d).place < bottom →
    Descends (stack (take i xs)) → IsBottom bottom c (stack (take i xs)) → nearest c (stack (take i xs)) ≡ None
front_none bottom c xs i d low le lt falls sound =
    let here = stack_at xs i d low le in
    ap (nearest c) here ∙ none_at_bottom bottom c (get_or xs (i - 1) d) (stack (take (i - 1) xs)) lt (subst Descends here falls) (subst (IsBottom bottom c) here sound)

pub some_left : (n : ℕ) → (n ≡ 0 → ⊥) → 0 < n
some_left zero h = absurd (h refl)
some_left (suc n) h = omega arith

-- a closer that found no opener
pub missed_here : (place : ℕ) (c : DelimiterRun) (ls : List Remaining) → nearest c ls ≡ None → (place ≤ place) × IsBottom place c ls
missed_here place c ls none = (omega arith, missed place c c ls none (record { delimiter = refl; thirds = refl; both = refl; tildes = λ _. refl }))
