-- What was handed out stays as it is: no run in it is taken by a match.
use Rattle.std.proofs.Common.{◌≡◌, ℕ, suc, ◌+◌, ◌-◌, ◌<◌, ◌≤◌, Bool, true, false, ◌==◌, List, [], ◌∷◌, ◌++◌, length, length-append, reverse, map, replicate, refl, ap, sym, ◌∙◌, subst, arith, append_assoc, append-nil}
use Rattle.std.proofs.lemmas.List.{reverse-append}
use Rattle.std.proofs.lemmas.Grind.{reverse_onto}
use Rattle.std.proofs.lemmas.Bool.Decides.{nat_tests}
use Rattle.mdpair.specs.declared.emphasis.Match.{Match}
use Rattle.mdpair.specs.declared.delimiter_runs.DelimiterChar.{DelimiterChar}
use Rattle.mdpair.specs.declared.delimiter_runs.DelimiterRun.{DelimiterRun}
use Rattle.mdpair.specs.Matches.{matches}
use Rattle.mdpair.specs.Neighbours.{byte_of}
use Rattle.mdpair.proofs.IdleRuns.{OpenNothing, moved_match, idle_runs}
use Rattle.inlinespec.specs.InlineEvents.{Event, written}
use Rattle.inlinespec.specs.Pieces.{Piece, Made, Run, Opening, bracket_text}
use Rattle.inlinespec.specs.Emphasis.{runs_of, settled, settled_from, run_events, taken, ends, begins}
use Rattle.mdinline.specs.held.ReadMarks.{ones, marks, marks_back}
use Rattle.mdinline.specs.declared.bracket_stack.Opening as held
use Rattle.mdinline.specs.held.UnusedOpeners.{openers}
use Rattle.mdinline.specs.held.ReadState.{AreIdle, as_text, text_back, IsHanded, Shows}
use Rattle.mdinline.proofs.ReadMarks.{marks_reverse, runs_append, same_runs, same_settled}
use Rattle.mdinline.proofs.ReadState.{grown, all_handed, text_append, text_reverse, text_marks, ones_same, opener_there, openers_both}

-- a list that is empty at both ends

second_empty : {X : Type 0} (xs ys : List X) → xs ++ ys ≡ [] → ys ≡ []
second_empty [] ys e = e
second_empty (x ∷ xs) ys e = cc

first_empty : {X : Type 0} (xs ys : List X) → xs ++ ys ≡ [] → xs ≡ []
first_empty [] ys e = refl
first_empty (x ∷ xs) ys e = cc

-- where no run is shown, all that was read may be handed out

runs_back : (p : Piece) (ps : List Piece) → runs_of (reverse (p ∷ ps)) ≡ runs_of (reverse ps) ++ runs_of (p ∷ [])
runs_back p ps = ap runs_of (reverse_onto ps p []) ∙ runs_append (reverse ps) (p ∷ [])

idle_back : (ps : List Piece) → openers ps ≡ [] → runs_of (reverse ps) ≡ [] → AreIdle ps
idle_back [] e f = tt
idle_back (Made l es ∷ ps) e f = idle_back ps e (first_empty (runs_of (reverse ps)) [] (sym (runs_back (Made l es) ps) ∙ f))
idle_back (Run r ∷ ps) e f = (let none : r ∷ [] ≡ [] = second_empty (runs_of (reverse ps)) (r ∷ []) (sym (runs_back (Run r) ps) ∙ f) in cc)
idle_back (Opening image begin ∷ ps) e f = absurd (opener_there (openers ps) (image, begin) e)

idle_both : (ps qs : List Piece) → AreIdle ps → AreIdle qs → AreIdle (ps ++ qs)
idle_both [] qs h k = k
idle_both (Made l es ∷ ps) qs h k = idle_both ps qs h k
idle_both (Run r ∷ ps) qs h k = (h.0, idle_both ps qs h.1 k)
idle_both (Opening image begin ∷ ps) qs h k = absurd h

pub idle_quiet : (ps : List Piece) → AreIdle ps → openers ps ≡ []
idle_quiet [] h = refl
idle_quiet (Made l es ∷ ps) h = idle_quiet ps h
idle_quiet (Run r ∷ ps) h = idle_quiet ps h.1
idle_quiet (Opening image begin ∷ ps) h = absurd h

back_text : (ps qs : List Piece) → text_back (ps ++ qs) ≡ text_back qs ++ text_back ps
back_text ps qs = sym (text_reverse (ps ++ qs)) ∙ ap as_text (reverse-append ps qs) ∙ text_append (reverse qs) (reverse ps) ∙ ap (λ es. es ++ as_text (reverse ps)) (text_reverse qs) ∙ ap (λ es. text_back qs ++ es) (text_reverse ps)

pub all_idle : (handed : List Event) (shown ps : List Piece) → IsHanded handed shown ps → openers ps ≡ [] → runs_of shown ≡ [] → AreIdle ps × (text_back ps ≡ handed ++ as_text shown)
all_idle handed shown ps h e none =
    let back = h.back in
    let quiet : openers back ≡ [] = second_empty (openers h.front) (openers back) (sym (openers_both back h.front) ∙ ap openers (sym h.pieces) ∙ e) in
    let same : marks (reverse back) ≡ marks shown = marks_reverse back ∙ sym h.same in
    let settled : runs_of (reverse back) ≡ [] = same_runs (reverse back) shown same ∙ none in
    let text : text_back back ≡ as_text shown =
    sym (text_reverse back) ∙ ones_same (as_text (reverse back)) (as_text shown) (sym (text_marks (reverse back) settled) ∙ same ∙ text_marks shown none) in (
      subst AreIdle (sym h.pieces) (idle_both back h.front (idle_back back quiet settled) h.idle),
      ap text_back h.pieces ∙ back_text back h.front ∙ ap (λ es. es ++ text_back back) h.events ∙ ap (λ es. handed ++ es) text,
    )

pub handed_all : (handed : List Event) (ps : List Piece) → AreIdle ps → text_back ps ≡ handed → Shows [] handed [] ps
handed_all handed ps h e = (
  idle_quiet ps h,
  record { back = []; front = ps; pieces = refl; idle = h; events = e; same = refl },
)

pub flushed : (handed : List Event) (shown ps : List Piece) → Shows [] handed shown ps → runs_of shown ≡ [] → Shows [] (handed ++ as_text shown) [] ps
flushed handed shown ps h none = (let all = all_idle handed shown ps h.1 h.0 none in handed_all (handed ++ as_text shown) ps all.0 all.1)

-- where nothing is shown, no bracket is unused

pub nothing_open : (os : List held.Opening) (handed : List Event) (ps : List Piece) → Shows os handed [] ps → os ≡ []
nothing_open [] handed ps h = refl
nothing_open (o ∷ os) handed ps h =
    let parts = h.4.parts in
    let text = Made false (bracket_text o.is_image) in
    let long : 0 ≡ length (h.0 ++ text ∷ h.1) = ap (λ xs. length xs) parts in
    absurd (omega (arith, long, length-append h.0 (text ∷ h.1)))

-- and what comes next is handed out at once

pub straight : (os : List held.Opening) (handed es : List Event) (ps qs : List Piece) → Shows os handed [] ps → openers qs ≡ [] → marks_back qs ≡ ones es → Shows os (handed ++ es) [] (qs ++ ps)
straight [] handed es ps qs h quiet same =
    subst (λ fs. Shows [] (handed ++ fs) [] (qs ++ ps)) (append-nil es)
    (flushed handed (Made false es ∷ []) (qs ++ ps) (grown [] handed [] ps (Made false es ∷ []) qs quiet (append-nil (ones es) ∙ sym same) h) refl)
straight (o ∷ os) handed es ps qs h quiet same = (let none : o ∷ os ≡ [] = nothing_open (o ∷ os) handed ps h in cc)

pub idle_run : (os : List held.Opening) (handed : List Event) (ps : List Piece) (r : DelimiterRun) → Shows os handed [] ps → r.can_open ≡ false →
    Shows os (handed ++ written (replicate r.length (byte_of r.delimiter))) [] (Run r ∷ ps)
idle_run [] handed ps r h closed =
    let all = all_idle handed [] ps h.1 h.0 refl in
    let text = written (replicate r.length (byte_of r.delimiter)) in
    handed_all (handed ++ text) (Run r ∷ ps) (closed, all.0) (ap (λ es. es ++ (text ++ [])) all.1 ∙ ap (λ es. es ++ (text ++ [])) (append-nil handed) ∙ ap (λ es. handed ++ es) (append-nil text))
idle_run (o ∷ os) handed ps r h closed = (let none : o ∷ os ≡ [] = nothing_open (o ∷ os) handed ps h in cc)

-- runs that open nothing are text

off : (a k n : ℕ) → (k + a == k + n) ≡ (a == n)
off a k n = by (a == n) refl
  where
    by : (t : Bool) → (a == n) ≡ t → (k + a == k + n) ≡ t
    by true e = (let same : a ≡ n = grind (arith, nat_tests, e) in grind (arith, nat_tests, same))
    by false e = (let other : a ≡ n → ⊥ = grind (arith, nat_tests, e) in grind (arith, nat_tests, other))

moved_taken : (k n : ℕ) (ts : List Match) → taken (k + n) (map (moved_match k) ts) ≡ taken n ts
moved_taken k n [] = refl
moved_taken k n (t ∷ ts) = rw (off t.opener k n, off t.closer k n, moved_taken k n ts) refl

moved_ends : (k n : ℕ) (ts : List Match) → ends (k + n) (map (moved_match k) ts) ≡ ends n ts
moved_ends k n [] = refl
moved_ends k n (t ∷ ts) = rw (off t.closer k n, moved_ends k n ts) refl

moved_begins : (k n : ℕ) (d : DelimiterChar) (ts : List Match) → begins (k + n) d (map (moved_match k) ts) ≡ begins n d ts
moved_begins k n d [] = refl
moved_begins k n d (t ∷ ts) = rw (off t.opener k n, moved_begins k n d ts) refl

moved_events : (k n : ℕ) (ts : List Match) (r : DelimiterRun) → run_events (k + n) (map (moved_match k) ts) r ≡ run_events n ts r
moved_events k n ts r = rw (moved_ends k n ts, moved_taken k n ts, moved_begins k n r.delimiter ts) refl

moved_settled : (k n : ℕ) (ts : List Match) (ps : List Piece) → settled_from (k + n) (map (moved_match k) ts) ps ≡ settled_from n ts ps
moved_settled k n ts [] = refl
moved_settled k n ts (Made l es ∷ ps) = ap (λ fs. es ++ fs) (moved_settled k n ts ps)
moved_settled k n ts (Opening image begin ∷ ps) = ap (λ fs. bracket_text image ++ fs) (moved_settled k n ts ps)
moved_settled k n ts (Run r ∷ ps) =
    ap (λ m. run_events (k + n) (map (moved_match k) ts) r ++ settled_from m (map (moved_match k) ts) ps) (let e : k + n + 1 ≡ k + (n + 1) = omega arith in e)
    ∙ ap (λ fs. run_events (k + n) (map (moved_match k) ts) r ++ fs) (moved_settled k (n + 1) ts ps) ∙ ap (λ fs. fs ++ settled_from (n + 1) ts ps) (moved_events k n ts r)

apart : (a n k : ℕ) → n < k → (k + a == n) ≡ false
apart a n k lt = (let other : k + a ≡ n → ⊥ = λ e. omega (arith, e, lt) in grind (arith, nat_tests, other))

not_taken : (k n : ℕ) (ts : List Match) → n < k → taken n (map (moved_match k) ts) ≡ 0
not_taken k n [] lt = refl
not_taken k n (t ∷ ts) lt = rw (apart t.opener n k lt, apart t.closer n k lt, not_taken k n ts lt) refl

no_ends : (k n : ℕ) (ts : List Match) → n < k → ends n (map (moved_match k) ts) ≡ []
no_ends k n [] lt = refl
no_ends k n (t ∷ ts) lt = rw (apart t.closer n k lt, no_ends k n ts lt) refl

no_begins : (k n : ℕ) (d : DelimiterChar) (ts : List Match) → n < k → begins n d (map (moved_match k) ts) ≡ []
no_begins k n d [] lt = refl
no_begins k n d (t ∷ ts) lt = rw (apart t.opener n k lt, no_begins k n d ts lt) refl

text_events : (k n : ℕ) (ts : List Match) (r : DelimiterRun) → n < k → run_events n (map (moved_match k) ts) r ≡ written (replicate r.length (byte_of r.delimiter))
text_events k n ts r lt =
    rw (no_ends k n ts lt, no_begins k n r.delimiter ts lt, not_taken k n ts lt)
    (append-nil _ ∙ ap (λ m. written (replicate m (byte_of r.delimiter))) (let e : r.length - 0 ≡ r.length = omega arith in e))

front_settled : (k n : ℕ) (ts : List Match) (ps qs : List Piece) → n + length (runs_of ps) ≤ k →
    settled_from n (map (moved_match k) ts) (ps ++ qs) ≡ as_text ps ++ settled_from (n + length (runs_of ps)) (map (moved_match k) ts) qs
front_settled k n ts [] qs le = ap (λ m. settled_from m (map (moved_match k) ts) qs) (let e : n ≡ n + 0 = omega arith in e)
front_settled k n ts (Made l es ∷ ps) qs le = ap (λ fs. es ++ fs) (front_settled k n ts ps qs le) ∙ sym (append_assoc es (as_text ps) _)
front_settled k n ts (Opening image begin ∷ ps) qs le = ap (λ fs. bracket_text image ++ fs) (front_settled k n ts ps qs le) ∙ sym (append_assoc (bracket_text image) (as_text ps) _)
front_settled k n ts (Run r ∷ ps) qs le =
    ap (λ fs. run_events n (map (moved_match k) ts) r ++ fs) (front_settled k (n + 1) ts ps qs (omega (arith, le)))
    ∙ ap (λ fs. fs ++ (as_text ps ++ settled_from (n + 1 + length (runs_of ps)) (map (moved_match k) ts) qs)) (text_events k n ts r (omega (arith, le)))
    ∙ sym (append_assoc (written (replicate r.length (byte_of r.delimiter))) (as_text ps) _)
    ∙ ap (λ m. (written (replicate r.length (byte_of r.delimiter)) ++ as_text ps) ++ settled_from m (map (moved_match k) ts) qs) (let e : n + 1 + length (runs_of ps) ≡ n + suc (length (runs_of ps)) = omega arith in e)

open_nothing : (ps : List Piece) → AreIdle ps → OpenNothing (runs_of ps)
open_nothing [] h = tt
open_nothing (Made l es ∷ ps) h = open_nothing ps h
open_nothing (Run r ∷ ps) h = (h.0, open_nothing ps h.1)
open_nothing (Opening image begin ∷ ps) h = absurd h

reverse_idle : (ps : List Piece) → AreIdle ps → AreIdle (reverse ps)
reverse_idle [] h = tt
reverse_idle (p ∷ ps) h = subst AreIdle (sym (reverse_onto ps p [])) (idle_both (reverse ps) (p ∷ []) (reverse_idle ps (rest p h)) (one p h))
  where
    rest : (p : Piece) → AreIdle (p ∷ ps) → AreIdle ps
    rest (Made l es) h = h
    rest (Run r) h = h.1
    rest (Opening image begin) h = absurd h

    one : (p : Piece) → AreIdle (p ∷ ps) → AreIdle (p ∷ [])
    one (Made l es) h = tt
    one (Run r) h = (h.0, tt)
    one (Opening image begin) h = absurd h

pub idle_settled : (ps qs : List Piece) → AreIdle ps → settled (ps ++ qs) ≡ as_text ps ++ settled qs
unfolding settled
idle_settled ps qs h =
    let k = length (runs_of ps) in
    let ts = matches (runs_of qs) in
    let all : matches (runs_of (ps ++ qs)) ≡ map (moved_match k) ts = ap matches (runs_append ps qs) ∙ idle_runs (runs_of ps) (runs_of qs) (open_nothing ps h) in
    ap (λ xs. settled_from 0 xs (ps ++ qs)) all ∙ front_settled k 0 ts ps qs (omega arith)
    ∙ ap (λ m. as_text ps ++ settled_from m (map (moved_match k) ts) qs) (let e : 0 + k ≡ k + 0 = omega arith in e)
    ∙ ap (λ es. as_text ps ++ es) (moved_settled k 0 ts qs)

-- What was handed out and what is shown, settled, are the events of the pieces.
pub all_settled : (os : List held.Opening) (handed : List Event) (shown ps : List Piece) → Shows os handed shown ps → settled (reverse ps) ≡ handed ++ settled shown
all_settled os handed shown ps h =
    let is = all_handed os handed shown ps h in
    ap (λ xs. settled (reverse xs)) is.pieces ∙ ap settled (reverse-append is.back is.front)
    ∙ idle_settled (reverse is.front) (reverse is.back) (reverse_idle is.front is.idle)
    ∙ ap (λ es. es ++ settled (reverse is.back)) (text_reverse is.front ∙ is.events)
    ∙ ap (λ es. handed ++ es) (same_settled (reverse is.back) shown (marks_reverse is.back ∙ sym is.same))
