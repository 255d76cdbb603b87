-- Pieces of which the same is seen settle to the same events.
use Rattle.std.proofs.Common.{◌≡◌, ℕ, zero, suc, ◌+◌, ◌<◌, List, [], ◌∷◌, ◌++◌, length, reverse, get_or, set, refl, ap, sym, ◌∙◌, arith, append_assoc, append-nil}
use Rattle.std.proofs.lemmas.List.{map-append}
use Rattle.std.proofs.lemmas.Grind.{reverse_onto}
use Rattle.mdpair.specs.declared.emphasis.Match.{Match}
use Rattle.mdpair.specs.declared.delimiter_runs.DelimiterRun.{DelimiterRun}
use Rattle.mdpair.specs.Matches.{matches}
use Rattle.inlinespec.specs.InlineEvents.{Event}
use Rattle.inlinespec.specs.Pieces.{Piece, Made, Run, Opening, bracket_text}
use Rattle.inlinespec.specs.Emphasis.{run_events, runs_of, settled, settled_from}
use Rattle.mdinline.specs.held.ReadMarks.{Mark, One, Pending, ones, marks, marks_back, places_of, marked, AreEventsOf}

pub marks_first : (p : Piece) (ps : List Piece) → marks (p ∷ ps) ≡ marks (p ∷ []) ++ marks ps
marks_first (Made l es) ps = ap (λ ms. ms ++ marks ps) (sym (append-nil (ones es)))
marks_first (Run r) ps = refl
marks_first (Opening image begin) ps = ap (λ ms. ms ++ marks ps) (sym (append-nil (ones (bracket_text image))))

pub marks_append : (ps qs : List Piece) → marks (ps ++ qs) ≡ marks ps ++ marks qs
marks_append [] qs = refl
marks_append (Made l es ∷ ps) qs = ap (λ ms. ones es ++ ms) (marks_append ps qs) ∙ sym (append_assoc (ones es) (marks ps) (marks qs))
marks_append (Run r ∷ ps) qs = ap (λ ms. Pending r ∷ ms) (marks_append ps qs)
marks_append (Opening image begin ∷ ps) qs = ap (λ ms. ones (bracket_text image) ++ ms) (marks_append ps qs) ∙ sym (append_assoc (ones (bracket_text image)) (marks ps) (marks qs))

pub marks_reverse : (ps : List Piece) → marks (reverse ps) ≡ marks_back ps
marks_reverse [] = refl
marks_reverse (p ∷ ps) = ap marks (reverse_onto ps p []) ∙ marks_append (reverse ps) (p ∷ []) ∙ ap (λ ms. ms ++ marks (p ∷ [])) (marks_reverse ps)

pub back_append : (ps qs : List Piece) → marks_back (ps ++ qs) ≡ marks_back qs ++ marks_back ps
back_append [] qs = sym (append-nil (marks_back qs))
back_append (p ∷ ps) qs = ap (λ ms. ms ++ marks (p ∷ [])) (back_append ps qs) ∙ append_assoc (marks_back qs) (marks_back ps) (marks (p ∷ []))

pub ones_append : (es fs : List Event) → ones (es ++ fs) ≡ ones es ++ ones fs
ones_append es fs = map-append (λ e. One e) es fs

-- settling looks at marks alone

settled_marks : List Mark → ℕ → List Match → List Event
settled_marks [] n ts = []
settled_marks (One e ∷ ms) n ts = e ∷ settled_marks ms n ts
settled_marks (Pending r ∷ ms) n ts = run_events n ts r ++ settled_marks ms (n + 1) ts

runs_in : List Mark → List DelimiterRun
runs_in [] = []
runs_in (One e ∷ ms) = runs_in ms
runs_in (Pending r ∷ ms) = r ∷ runs_in ms

past_ones : (es : List Event) (ms : List Mark) (n : ℕ) (ts : List Match) → settled_marks (ones es ++ ms) n ts ≡ es ++ settled_marks ms n ts
unfolding settled_marks
past_ones [] ms n ts = refl
past_ones (e ∷ es) ms n ts = ap (λ xs. e ∷ xs) (past_ones es ms n ts)

no_runs : (es : List Event) (ms : List Mark) → runs_in (ones es ++ ms) ≡ runs_in ms
unfolding runs_in
no_runs [] ms = refl
no_runs (e ∷ es) ms = no_runs es ms

settled_is : (ps : List Piece) (n : ℕ) (ts : List Match) → settled_from n ts ps ≡ settled_marks (marks ps) n ts
unfolding settled_marks
settled_is [] n ts = refl
settled_is (Made l es ∷ ps) n ts = ap (λ xs. es ++ xs) (settled_is ps n ts) ∙ sym (past_ones es (marks ps) n ts)
settled_is (Run r ∷ ps) n ts = ap (λ xs. run_events n ts r ++ xs) (settled_is ps (n + 1) ts)
settled_is (Opening image begin ∷ ps) n ts = ap (λ xs. bracket_text image ++ xs) (settled_is ps n ts) ∙ sym (past_ones (bracket_text image) (marks ps) n ts)

runs_are : (ps : List Piece) → runs_of ps ≡ runs_in (marks ps)
unfolding runs_in
runs_are [] = refl
runs_are (Made l es ∷ ps) = runs_are ps ∙ sym (no_runs es (marks ps))
runs_are (Run r ∷ ps) = ap (λ rs. r ∷ rs) (runs_are ps)
runs_are (Opening image begin ∷ ps) = runs_are ps ∙ sym (no_runs (bracket_text image) (marks ps))

pub same_runs : (ps qs : List Piece) → marks ps ≡ marks qs → runs_of ps ≡ runs_of qs
same_runs ps qs e = runs_are ps ∙ ap runs_in e ∙ sym (runs_are qs)

pub same_settled_from : (ps qs : List Piece) (n : ℕ) (ts : List Match) → marks ps ≡ marks qs → settled_from n ts ps ≡ settled_from n ts qs
same_settled_from ps qs n ts e = settled_is ps n ts ∙ ap (λ ms. settled_marks ms n ts) e ∙ sym (settled_is qs n ts)

pub same_settled : (ps qs : List Piece) → marks ps ≡ marks qs → settled ps ≡ settled qs
unfolding settled
same_settled ps qs e = same_settled_from ps qs 0 (matches (runs_of ps)) e ∙ ap (λ rs. settled_from 0 (matches rs) qs) (same_runs ps qs e)

-- runs that are settled

pub events_marked : (ps qs : List Piece) (n : ℕ) (ts : List Match) → AreEventsOf n ts (runs_of ps) qs → marks (marked ps zero qs) ≡ ones (settled_from n ts ps)
events_marked [] qs n ts h = refl
events_marked (Made l es ∷ ps) qs n ts h = ap (λ ms. ones es ++ ms) (events_marked ps qs n ts h) ∙ sym (ones_append es (settled_from n ts ps))
events_marked (Opening image begin ∷ ps) qs n ts h = ap (λ ms. ones (bracket_text image) ++ ms) (events_marked ps qs n ts h) ∙ sym (ones_append (bracket_text image) (settled_from n ts ps))
events_marked (Run r ∷ ps) [] n ts h = absurd h
events_marked (Run r ∷ ps) (q ∷ qs) n ts h =
    marks_first q (marked ps zero qs) ∙ ap (λ p. marks (p ∷ []) ++ marks (marked ps zero qs)) h.0
    ∙ ap (λ ms. ms ++ marks (marked ps zero qs)) (append-nil (ones (run_events n ts r)))
    ∙ ap (λ ms. ones (run_events n ts r) ++ ms) (events_marked ps qs (n + 1) ts h.1)
    ∙ sym (ones_append (run_events n ts r) (settled_from (n + 1) ts ps))

pub runs_append : (ps qs : List Piece) → runs_of (ps ++ qs) ≡ runs_of ps ++ runs_of qs
runs_append [] qs = refl
runs_append (Made l es ∷ ps) qs = runs_append ps qs
runs_append (Run r ∷ ps) qs = ap (λ rs. r ∷ rs) (runs_append ps qs)
runs_append (Opening image begin ∷ ps) qs = runs_append ps qs

pub places_append : (ps qs : List Piece) (at : ℕ) → places_of (ps ++ qs) at ≡ places_of ps at ++ places_of qs (at + length ps)
places_append [] qs at = ap (places_of qs) (let e : at ≡ at + 0 = omega arith in e)
places_append (Made l es ∷ ps) qs at = places_append ps qs (at + 1) ∙ ap (λ k. places_of ps (at + 1) ++ places_of qs k) (let e : at + 1 + length ps ≡ at + suc (length ps) = omega arith in e)
places_append (Opening image begin ∷ ps) qs at = places_append ps qs (at + 1) ∙ ap (λ k. places_of ps (at + 1) ++ places_of qs k) (let e : at + 1 + length ps ≡ at + suc (length ps) = omega arith in e)
places_append (Run r ∷ ps) qs at =
    ap (λ ks. at ∷ ks) (places_append ps qs (at + 1)) ∙ ap (λ k. at ∷ places_of ps (at + 1) ++ places_of qs k) (let e : at + 1 + length ps ≡ at + suc (length ps) = omega arith in e)

pub places_all : (ps : List Piece) (at : ℕ) → length (places_of ps at) ≡ length (runs_of ps)
places_all [] at = refl
places_all (Made l es ∷ ps) at = places_all ps (at + 1)
places_all (Opening image begin ∷ ps) at = places_all ps (at + 1)
places_all (Run r ∷ ps) at = ap suc (places_all ps (at + 1))

pub marked_behind : (ps xs qs : List Piece) → marked (ps ++ xs) (length (runs_of ps)) qs ≡ ps ++ marked xs zero qs
marked_behind [] xs qs = refl
marked_behind (Made l es ∷ ps) xs qs = ap (λ l. Made l es ∷ marked (ps ++ xs) (length (runs_of ps)) qs) refl ∙ ap (λ rs. Made l es ∷ rs) (marked_behind ps xs qs)
marked_behind (Opening image begin ∷ ps) xs qs = ap (λ rs. Opening image begin ∷ rs) (marked_behind ps xs qs)
marked_behind (Run r ∷ ps) xs qs = ap (λ rs. Run r ∷ rs) (marked_behind ps xs qs)

pub all_marked : (ps qs : List Piece) (n : ℕ) (ts : List Match) → AreEventsOf n ts (runs_of ps) qs → runs_of (marked ps zero qs) ≡ []
all_marked [] qs n ts h = refl
all_marked (Made l es ∷ ps) qs n ts h = all_marked ps qs n ts h
all_marked (Opening image begin ∷ ps) qs n ts h = all_marked ps qs n ts h
all_marked (Run r ∷ ps) [] n ts h = absurd h
all_marked (Run r ∷ ps) (q ∷ qs) n ts h = ap (λ p. runs_of (p ∷ marked ps zero qs)) h.0 ∙ all_marked ps qs (n + 1) ts h.1

-- one run more

place_of : List Piece → ℕ → ℕ
place_of [] n = 0
place_of (Made l es ∷ ps) n = suc (place_of ps n)
place_of (Opening image begin ∷ ps) n = suc (place_of ps n)
place_of (Run r ∷ ps) zero = 0
place_of (Run r ∷ ps) (suc n) = suc (place_of ps n)

place_is : (ps : List Piece) (at n d : ℕ) → n < length (runs_of ps) → get_or (places_of ps at) n d ≡ at + place_of ps n
unfolding place_of
place_is [] at n d lt = absurd (omega (arith, lt))
place_is (Made l es ∷ ps) at n d lt = place_is ps (at + 1) n d lt ∙ (let e : at + 1 + place_of ps n ≡ at + suc (place_of ps n) = omega arith in e)
place_is (Opening image begin ∷ ps) at n d lt = place_is ps (at + 1) n d lt ∙ (let e : at + 1 + place_of ps n ≡ at + suc (place_of ps n) = omega arith in e)
place_is (Run r ∷ ps) at zero d lt = (let e : at ≡ at + 0 = omega arith in e)
place_is (Run r ∷ ps) at (suc n) d lt = place_is ps (at + 1) n d (omega (arith, lt)) ∙ (let e : at + 1 + place_of ps n ≡ at + suc (place_of ps n) = omega arith in e)

mark_there : (ps : List Piece) (n j : ℕ) (qs : List Piece) (q : Piece) → j ≡ n + length qs → j < length (runs_of ps) → set (marked ps n qs) (place_of ps j) q ≡ marked ps n (qs ++ q ∷ [])
unfolding place_of
mark_there [] n j qs q e lt = absurd (omega (arith, lt))
mark_there (Made l es ∷ ps) n j qs q e lt = ap (λ xs. Made l es ∷ xs) (mark_there ps n j qs q e lt)
mark_there (Opening image begin ∷ ps) n j qs q e lt = ap (λ xs. Opening image begin ∷ xs) (mark_there ps n j qs q e lt)
mark_there (Run r ∷ ps) (suc n) (suc j) qs q e lt = ap (λ xs. Run r ∷ xs) (mark_there ps n j qs q (omega (arith, e)) (omega (arith, lt)))
mark_there (Run r ∷ ps) (suc n) zero qs q e lt = absurd (omega (arith, e))
mark_there (Run r ∷ ps) zero zero [] q e lt = refl
mark_there (Run r ∷ ps) zero (suc j) [] q e lt = absurd (omega (arith, e))
mark_there (Run r ∷ ps) zero zero (x ∷ qs) q e lt = absurd (omega (arith, e))
mark_there (Run r ∷ ps) zero (suc j) (x ∷ qs) q e lt = ap (λ xs. x ∷ xs) (mark_there ps zero j qs q (omega (arith, e)) (omega (arith, lt)))

pub none_marked : (ps : List Piece) (n : ℕ) → marked ps n [] ≡ ps
none_marked [] n = refl
none_marked (Made l es ∷ ps) n = ap (λ xs. Made l es ∷ xs) (none_marked ps n)
none_marked (Opening image begin ∷ ps) n = ap (λ xs. Opening image begin ∷ xs) (none_marked ps n)
none_marked (Run r ∷ ps) zero = ap (λ xs. Run r ∷ xs) (none_marked ps zero)
none_marked (Run r ∷ ps) (suc n) = ap (λ xs. Run r ∷ xs) (none_marked ps n)

pub mark_next : (ps : List Piece) (n i place d : ℕ) (qs : List Piece) (q : Piece) → i ≡ length qs → n + i < length (runs_of ps) → place ≡ get_or (places_of ps 0) (n + i) d →
    set (marked ps n qs) place q ≡ marked ps n (qs ++ q ∷ [])
mark_next ps n i place d qs q e lt is =
    let there : place ≡ place_of ps (n + i) = is ∙ place_is ps 0 (n + i) d lt ∙ (let z : 0 + place_of ps (n + i) ≡ place_of ps (n + i) = omega arith in z) in
    ap (λ k. set (marked ps n qs) k q) there ∙ mark_there ps n (n + i) qs q (omega (arith, e)) lt
