-- What the reader holds, as pieces are added and settled.
use Rattle.std.proofs.Common.{◌≡◌, ℕ, zero, Bool, false, not, ◌||◌, List, [], ◌∷◌, ◌++◌, length, length-append, reverse, drop, set, Some, refl, ap, sym, ◌∙◌, subst, arith, append_assoc, append-nil}
use Rattle.std.proofs.lemmas.List.{drop_at, set_at}
use Rattle.std.proofs.lemmas.Grind.{reverse_onto}
use Rattle.mdpair.specs.Matches.{matches}
use Rattle.inlinespec.specs.InlineEvents.{Event, Enter, Leave, within}
use Rattle.inlinespec.specs.LabelMap.{LinkTarget}
use Rattle.inlinespec.specs.Pieces.{Piece, Made, Run, Opening, bracket_text}
use Rattle.inlinespec.specs.Emphasis.{runs_of, settled}
use Rattle.inlinespec.specs.Links.{opened_with, nearest_opener, linked, holds_link}
use Rattle.inlinespec.specs.TextReading.{spent}
use Rattle.inlinespec.specs.Images.{span_to}
use Rattle.mdinline.specs.held.ReadMarks.{One, ones, marks, marks_back, marked, AreEventsOf}
use Rattle.mdinline.specs.declared.bracket_stack.Opening as held
use Rattle.mdinline.specs.held.UnusedOpeners.{openers}
use Rattle.mdinline.specs.held.ReadState.{as_text, text_back, IsHanded, Shows}
use Rattle.mdinline.proofs.ReadMarks.{marks_append, back_append, marks_reverse, runs_append, ones_append, same_settled, events_marked, marked_behind}

-- openers

pub openers_both : (ps qs : List Piece) → openers (ps ++ qs) ≡ openers qs ++ openers ps
openers_both [] qs = sym (append-nil (openers qs))
openers_both (Made l es ∷ ps) qs = openers_both ps qs
openers_both (Run r ∷ ps) qs = openers_both ps qs
openers_both (Opening image begin ∷ ps) qs = ap (λ os. os ++ (image, begin) ∷ []) (openers_both ps qs) ∙ append_assoc (openers qs) (openers ps) ((image, begin) ∷ [])

no_openers : (ps qs : List Piece) → openers ps ≡ [] → openers qs ≡ [] → openers (ps ++ qs) ≡ []
no_openers ps qs e f = openers_both ps qs ∙ ap (λ os. os ++ openers ps) f ∙ e

pub opener_there : (os : List (Bool × ℕ)) (x : Bool × ℕ) → os ++ x ∷ [] ≡ [] → ⊥
opener_there os x e = (let some : length (os ++ x ∷ []) ≡ 0 = ap (λ l. length l) e in omega (arith, some, length-append os (x ∷ [])))

-- behind pieces without openers stands the nearest one

found_behind : (back inside below : List Piece) (image : Bool) (begin : ℕ) → openers back ≡ [] →
    opened_with inside (back ++ Opening image begin ∷ below) ≡ Some (record { image = image; begin = begin; inside = reverse back ++ inside; below = below })
found_behind [] inside below image begin e = refl
found_behind (Made l es ∷ back) inside below image begin e =
    found_behind back (Made l es ∷ inside) below image begin e
    ∙ ap (λ xs. Some (record { image = image; begin = begin; inside = xs; below = below })) (sym (ap (λ xs. xs ++ inside) (reverse_onto back (Made l es) []) ∙ append_assoc (reverse back) (Made l es ∷ []) inside))
found_behind (Run r ∷ back) inside below image begin e =
    found_behind back (Run r ∷ inside) below image begin e
    ∙ ap (λ xs. Some (record { image = image; begin = begin; inside = xs; below = below })) (sym (ap (λ xs. xs ++ inside) (reverse_onto back (Run r) []) ∙ append_assoc (reverse back) (Run r ∷ []) inside))
found_behind (Opening i b ∷ back) inside below image begin e = absurd (opener_there (openers back) (i, b) e)

nearest_behind : (back below : List Piece) (image : Bool) (begin : ℕ) → openers back ≡ [] →
    nearest_opener (back ++ Opening image begin ∷ below) ≡ Some (record { image = image; begin = begin; inside = reverse back; below = below })
nearest_behind back below image begin e = found_behind back [] below image begin e ∙ ap (λ xs. Some (record { image = image; begin = begin; inside = xs; below = below })) (append-nil (reverse back))

spent_behind : (back below : List Piece) (image : Bool) (begin : ℕ) → openers back ≡ [] →
    spent (back ++ Opening image begin ∷ below) ≡ back ++ Made false (bracket_text image) ∷ below
spent_behind [] below image begin e = refl
spent_behind (Made l es ∷ back) below image begin e = ap (λ ps. Made l es ∷ ps) (spent_behind back below image begin e)
spent_behind (Run r ∷ back) below image begin e = ap (λ ps. Run r ∷ ps) (spent_behind back below image begin e)
spent_behind (Opening i b ∷ back) below image begin e = absurd (opener_there (openers back) (i, b) e)

-- pieces that are added

pub grown : (os : List held.Opening) (handed : List Event) (shown ps ws qs : List Piece) → openers qs ≡ [] → marks ws ≡ marks_back qs → Shows os handed shown ps → Shows os handed (shown ++ ws) (qs ++ ps)
grown [] handed shown ps ws qs quiet same h =
    let is = h.1 in (
      no_openers qs ps quiet h.0,
      record {
        back = qs ++ is.back;
        front = is.front;
        pieces = ap (λ xs. qs ++ xs) is.pieces ∙ sym (append_assoc qs is.back is.front);
        idle = is.idle;
        events = is.events;
        same = marks_append shown ws ∙ ap (λ ms. ms ++ marks ws) is.same ∙ ap (λ ms. marks_back is.back ++ ms) same ∙ sym (back_append qs is.back);
      },
    )
grown (o ∷ os) handed shown ps ws qs quiet same h =
    let before = h.0 in
    let after = h.1 in
    let back = h.2 in
    let below = h.3 in
    let is = h.4 in (
      before,
      after ++ ws,
      qs ++ back,
      below,
      record {
        pieces = ap (λ xs. qs ++ xs) is.pieces ∙ sym (append_assoc qs back (Opening o.is_image o.begin ∷ below));
        quiet = no_openers qs back quiet is.quiet;
        parts = ap (λ xs. xs ++ ws) is.parts ∙ append_assoc before (Made false (bracket_text o.is_image) ∷ after) ws;
        place = is.place;
        runs = is.runs;
        same = marks_append after ws ∙ ap (λ ms. ms ++ marks ws) is.same ∙ ap (λ ms. marks_back back ++ ms) same ∙ sym (back_append qs back);
      },
      h.5,
    )

pub opened : (os : List held.Opening) (handed : List Event) (shown ps : List Piece) (o : held.Opening) → o.token ≡ length shown → o.runs ≡ length (runs_of shown) → Shows os handed shown ps →
    Shows (o ∷ os) handed (shown ++ Made false (bracket_text o.is_image) ∷ []) (Opening o.is_image o.begin ∷ ps)
opened os handed shown ps o place runs h = (
  shown,
  [],
  [],
  ps,
  record { pieces = refl; quiet = refl; parts = refl; place = place; runs = runs; same = refl },
  h,
)

-- the nearest bracket is text

pub spends : (os : List held.Opening) (handed : List Event) (shown ps : List Piece) (o : held.Opening) → Shows (o ∷ os) handed shown ps → Shows os handed shown (spent ps)
spends os handed shown ps o h =
    let before = h.0 in
    let after = h.1 in
    let back = h.2 in
    let below = h.3 in
    let is = h.4 in
    let text = Made false (bracket_text o.is_image) in
    let behind : marks (text ∷ after) ≡ marks_back (back ++ text ∷ []) =
    ap (λ ms. ones (bracket_text o.is_image) ++ ms) is.same ∙ ap (λ ms. ms ++ marks_back back) (sym (append-nil (ones (bracket_text o.is_image)))) ∙ sym (back_append back (text ∷ [])) in
    let all = grown os handed before below (text ∷ after) (back ++ text ∷ []) (no_openers back (text ∷ []) is.quiet refl) behind h.5 in
    let pieces : (back ++ text ∷ []) ++ below ≡ spent ps =
    append_assoc back (text ∷ []) below ∙ sym (spent_behind back below o.is_image o.begin is.quiet) ∙ sym (ap spent is.pieces) in
    subst (λ xs. Shows os handed xs (spent ps)) (sym is.parts) (subst (λ xs. Shows os handed (before ++ text ∷ after) xs) pieces all)

-- a link or an image is made of the nearest bracket

pub links : (os : List held.Opening) (handed : List Event) (shown new ps qs : List Piece) (o : held.Opening) (t : LinkTarget) →
    AreEventsOf 0 (matches (drop o.runs (runs_of shown))) (drop o.runs (runs_of shown)) qs →
    new ≡ set (marked shown o.runs qs) o.token (Made false (Enter (span_to o.is_image t) ∷ [])) ++ Made false (Leave ∷ []) ∷ [] →
    Shows (o ∷ os) handed shown ps → Shows os handed new (linked t ps (nearest_opener ps))
unfolding settled
links os handed shown new ps qs o t paired e h =
    let before = h.0 in
    let after = h.1 in
    let back = h.2 in
    let below = h.3 in
    let is = h.4 in
    let text = Made false (bracket_text o.is_image) in
    let enter = Made false (Enter (span_to o.is_image t) ∷ []) in
    let leave = Made false (Leave ∷ []) in
    let front : before ++ text ∷ after ≡ (before ++ text ∷ []) ++ after = sym (append_assoc before (text ∷ []) after) in
    let count : o.runs ≡ length (runs_of (before ++ text ∷ [])) = is.runs ∙ ap (λ rs. length rs) (sym (runs_append before (text ∷ []) ∙ append-nil (runs_of before))) in
    let left : drop o.runs (runs_of shown) ≡ runs_of after =
    ap (λ xs. drop o.runs (runs_of xs)) (is.parts ∙ front) ∙ ap (drop o.runs) (runs_append (before ++ text ∷ []) after) ∙ drop_at (runs_of (before ++ text ∷ [])) (runs_of after) o.runs (sym count) in
    let events = subst (λ rs. AreEventsOf 0 (matches rs) rs qs) left paired in
    let marked_is : marked shown o.runs qs ≡ before ++ text ∷ marked after zero qs =
    ap (λ xs. marked xs o.runs qs) (is.parts ∙ front) ∙ ap (λ n. marked ((before ++ text ∷ []) ++ after) n qs) count
    ∙ marked_behind (before ++ text ∷ []) after qs ∙ append_assoc before (text ∷ []) (marked after zero qs) in
    let ws = enter ∷ marked after zero qs ++ leave ∷ [] in
    let whole : new ≡ before ++ ws =
    e ∙ ap (λ xs. set xs o.token enter ++ leave ∷ []) marked_is
    ∙ ap (λ xs. xs ++ leave ∷ []) (set_at before text (marked after zero qs) enter o.token (sym is.place))
    ∙ append_assoc before (enter ∷ marked after zero qs) (leave ∷ []) in
    let span = span_to o.is_image t in
    let inside : marks (marked after zero qs) ≡ ones (settled (reverse back)) =
    events_marked after qs 0 (matches (runs_of after)) events ∙ ap ones (same_settled after (reverse back) (is.same ∙ sym (marks_reverse back))) in
    let made : Piece = Made (not o.is_image || holds_link (reverse back)) (within span (settled (reverse back))) in
    let same : marks ws ≡ marks_back (made ∷ []) =
    ap (λ ms. One (Enter span) ∷ ms) (marks_append (marked after zero qs) (leave ∷ []) ∙ ap (λ ms. ms ++ One Leave ∷ []) inside ∙ sym (ones_append (settled (reverse back)) (Leave ∷ [])))
    ∙ sym (append-nil (ones (within span (settled (reverse back))))) in
    let pieces : made ∷ below ≡ linked t ps (nearest_opener ps) =
    sym (ap (λ xs. linked t xs (nearest_opener xs)) is.pieces ∙ ap (linked t (back ++ Opening o.is_image o.begin ∷ below)) (nearest_behind back below o.is_image o.begin is.quiet)) in
    subst (λ xs. Shows os handed xs (linked t ps (nearest_opener ps))) (sym whole)
    (subst (λ xs. Shows os handed (before ++ ws) xs) pieces (grown os handed before below ws (made ∷ []) refl same h.5))

-- the bracket of a link stands where it is said to stand, whatever is made of the runs behind it
pub bracket_stands : (os : List held.Opening) (handed : List Event) (shown ps qs : List Piece) (o : held.Opening) → Shows (o ∷ os) handed shown ps →
    (before behind : List Piece) × (marked shown o.runs qs ≡ before ++ Made false (bracket_text o.is_image) ∷ behind) × (o.token ≡ length before)
bracket_stands os handed shown ps qs o h =
    let before = h.0 in
    let after = h.1 in
    let is = h.4 in
    let text = Made false (bracket_text o.is_image) in
    let front : before ++ text ∷ after ≡ (before ++ text ∷ []) ++ after = sym (append_assoc before (text ∷ []) after) in
    let count : o.runs ≡ length (runs_of (before ++ text ∷ [])) = is.runs ∙ ap (λ rs. length rs) (sym (runs_append before (text ∷ []) ∙ append-nil (runs_of before))) in (
      before,
      marked after zero qs,
      ap (λ xs. marked xs o.runs qs) (is.parts ∙ front) ∙ ap (λ n. marked ((before ++ text ∷ []) ++ after) n qs) count
          ∙ marked_behind (before ++ text ∷ []) after qs ∙ append_assoc before (text ∷ []) (marked after zero qs),
      is.place,
    )

-- all that is shown, whatever is open

pub all_handed : (os : List held.Opening) (handed : List Event) (shown ps : List Piece) → Shows os handed shown ps → IsHanded handed shown ps
all_handed [] handed shown ps h = h.1
all_handed (o ∷ os) handed shown ps h =
    let before = h.0 in
    let after = h.1 in
    let back = h.2 in
    let below = h.3 in
    let is = h.4 in
    let low = all_handed os handed before below h.5 in
    let text = Made false (bracket_text o.is_image) in
    let opening = Opening o.is_image o.begin in
    record {
      back = back ++ opening ∷ low.back;
      front = low.front;
      pieces = is.pieces ∙ ap (λ xs. back ++ opening ∷ xs) low.pieces ∙ sym (append_assoc back (opening ∷ low.back) low.front);
      idle = low.idle;
      events = low.events;
      same = ap marks is.parts ∙ marks_append before (text ∷ after) ∙ ap (λ ms. ms ++ (ones (bracket_text o.is_image) ++ marks after)) low.same
          ∙ ap (λ ms. marks_back low.back ++ (ones (bracket_text o.is_image) ++ ms)) is.same
          ∙ sym (append_assoc (marks_back low.back) (ones (bracket_text o.is_image)) (marks_back back))
          ∙ ap (λ ms. (marks_back low.back ++ ms) ++ marks_back back) (sym (append-nil (ones (bracket_text o.is_image))))
          ∙ sym (back_append back (opening ∷ low.back));
    }

-- where no run is left, all may be handed out

text_first : (p : Piece) (ps : List Piece) → as_text (p ∷ ps) ≡ as_text (p ∷ []) ++ as_text ps
text_first (Made l es) ps = ap (λ xs. xs ++ as_text ps) (sym (append-nil es))
text_first (Run r) ps = ap (λ xs. xs ++ as_text ps) (sym (append-nil _))
text_first (Opening image begin) ps = ap (λ xs. xs ++ as_text ps) (sym (append-nil (bracket_text image)))

pub text_append : (ps qs : List Piece) → as_text (ps ++ qs) ≡ as_text ps ++ as_text qs
text_append [] qs = refl
text_append (p ∷ ps) qs = text_first p (ps ++ qs) ∙ ap (λ xs. as_text (p ∷ []) ++ xs) (text_append ps qs) ∙ sym (append_assoc (as_text (p ∷ [])) (as_text ps) (as_text qs)) ∙ ap (λ xs. xs ++ as_text qs) (sym (text_first p ps))

pub text_reverse : (ps : List Piece) → as_text (reverse ps) ≡ text_back ps
text_reverse [] = refl
text_reverse (p ∷ ps) = ap as_text (reverse_onto ps p []) ∙ text_append (reverse ps) (p ∷ []) ∙ ap (λ es. es ++ as_text (p ∷ [])) (text_reverse ps)

pub text_marks : (ps : List Piece) → runs_of ps ≡ [] → marks ps ≡ ones (as_text ps)
text_marks [] e = refl
text_marks (Made l es ∷ ps) e = ap (λ ms. ones es ++ ms) (text_marks ps e) ∙ sym (ones_append es (as_text ps))
text_marks (Opening image begin ∷ ps) e = ap (λ ms. ones (bracket_text image) ++ ms) (text_marks ps e) ∙ sym (ones_append (bracket_text image) (as_text ps))
text_marks (Run r ∷ ps) e = cc

pub ones_same : (es fs : List Event) → ones es ≡ ones fs → es ≡ fs
ones_same [] [] e = refl
ones_same [] (f ∷ fs) e = cc
ones_same (x ∷ es) [] e = cc
ones_same (x ∷ es) (f ∷ fs) e =
    let first : x ≡ f = cc in
    let rest : ones es ≡ ones fs = cc in
    ap (λ z. z ∷ es) first ∙ ap (λ zs. f ∷ zs) (ones_same es fs rest)
