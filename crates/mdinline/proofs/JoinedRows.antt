-- Rows of a tree that is built, in which texts are joined.
use Rattle.std.proofs.Common.{◌≡◌, ◌<◌, ◌≤◌, ◌==◌, ℕ, Bool, false, List, [], ◌∷◌, ◌++◌, String, Vec, Global, drop, length, map, reverse, string_bytes, take, refl, sym, ap, ◌∙◌, subst, true≢false, append_assoc, append-nil, arith}
use Rattle.std.proofs.lemmas.List.{drop-append-le, drop_all, length-take-le, map-append, take_all}
use Rattle.inlinespec.specs.InlineEvents.{InlineSpan, Emphasis, StrongEmphasis, Strikethrough, LinkTo, ImageOf, Event, span_tree, tree_of, written}
use Rattle.inlinespec.specs.InlineTree.{Inline, Inlines, inline, inlines_of, text, code, raw, soft, hard, emph, strong, strike, link, image}
use Rattle.inlinespec.specs.JoinedTexts.{AreJoined, IsApart, begins_with_text}
use Rattle.inlinespec.proofs.TreeEvents.{tree_is}
use Rattle.mdinline.specs.TreeView.{inline_step, inline_view, inlines_view}
use Rattle.mdinline.specs.declared.inlines.Inline as c
use Rattle.mdinline.specs.declared.inlines.Inline.TheOpen.{Inline-F}
use Rattle.mdinline.specs.declared.inlines.Inline.TheFolds.{fold-roll-Inline}
use Rattle.mdinline.specs.declared.inlines.Inline.TheBlock as made
use Rattle.mdinline.specs.declared.inlines.Inline.TheViews.{roll-Inline}
use Rattle.mdinline.specs.declared.trees.Frame.{Frame}
use Rattle.mdinline.specs.declared.trees.TreeBuilder.{TreeBuilder}
use Rattle.mdinline.specs.held.OpenRows.{AreJoinedRows, AreNested, AreOpenRows, AreOuterJoined, EndsWithText, IsNoText, IsOpenRow, IsTextRow, innermost, row_events, spread}
use Rattle.mdinline.specs.held.TreeBuilding.{IsJoined}
use Rattle.mdinline.proofs.BuiltRows.{text_events}
use Rattle.mdinline.proofs.NestedRows.{inner_more, nested_leave, outer_more, turned}
use denote.Hole.Carrier.{roll}

same_front : (i : Inline) (one other : Inlines) → begins_with_text (inline i one) ≡ begins_with_text (inline i other)
same_front (text s) one other = refl
same_front (code s) one other = refl
same_front (raw s) one other = refl
same_front soft one other = refl
same_front hard one other = refl
same_front (emph k) one other = refl
same_front (strong k) one other = refl
same_front (strike k) one other = refl
same_front (link u t k) one other = refl
same_front (image u t k) one other = refl

-- what stands apart from the rest of a row still does where that row grows
apart_still : (x : Inline) (xs : List Inline) (i : Inline) (ys : List Inline) → IsNoText i → IsApart x (inlines_of xs) → IsApart x (inlines_of (xs ++ i ∷ ys))
apart_still (text s) [] i ys h k = (k.0, h.front (inlines_of ys))
apart_still (text s) (x ∷ xs) i ys h k = (k.0, same_front x (inlines_of (xs ++ i ∷ ys)) (inlines_of xs) ∙ k.1)
apart_still (code s) xs i ys h k = tt
apart_still (raw s) xs i ys h k = tt
apart_still soft xs i ys h k = tt
apart_still hard xs i ys h k = tt
apart_still (emph inside) xs i ys h k = tt
apart_still (strong inside) xs i ys h k = tt
apart_still (strike inside) xs i ys h k = tt
apart_still (link u t inside) xs i ys h k = tt
apart_still (image u t inside) xs i ys h k = tt

joined_around : (xs : List Inline) (i : Inline) (ys : List Inline) → IsNoText i → AreJoined (inlines_of xs) → AreJoined (inlines_of ys) → AreJoined (inlines_of (xs ++ i ∷ ys))
joined_around [] i ys h k l = (h.apart (inlines_of ys), h.inside, l)
joined_around (x ∷ xs) i ys h k l = (apart_still x xs i ys h k.0, k.1, joined_around xs i ys h k.2 l)

text_joined : (s : List ℕ) → 0 < length s → AreJoined (inlines_of (text s ∷ []))
text_joined s some = ((some, refl), tt, tt)

pub some_text : (s t : List ℕ) (empty : Bool) → t ≡ s → empty ≡ (length s == 0) → empty ≡ false → 0 < length t
some_text [] t empty same e f = absurd (true≢false (sym e ∙ f))
some_text (b ∷ s) t empty same e f = subst (λ bytes. 0 < length bytes) (sym same) (omega arith)

-- no inlines

pub open_row : (is : List c.Inline) → is ≡ [] → IsOpenRow is
open_row is none = subst IsOpenRow (sym none) (record { joined = tt; with_text = λ s some. text_joined s some })

-- a row with an inline more

seen_more : (is js : List c.Inline) (i : c.Inline) → js ≡ is ++ i ∷ [] → map inline_view js ≡ map inline_view is ++ inline_view i ∷ []
seen_more is js i e = ap (map inline_view) e ∙ map-append inline_view is (i ∷ [])

pub row_more : (is js : List c.Inline) (i : c.Inline) → js ≡ is ++ i ∷ [] → IsNoText (inline_view i) → AreJoined (inlines_view is) → IsOpenRow js
row_more is js i e h k = record {
  joined = subst (λ row. AreJoined (inlines_of row)) (sym (seen_more is js i e)) (joined_around (map inline_view is) (inline_view i) [] h k tt);
  with_text = λ s some.
      subst (λ row. AreJoined (inlines_of (row ++ text s ∷ []))) (sym (seen_more is js i e))
      (subst (λ row. AreJoined (inlines_of row)) (sym (append_assoc (map inline_view is) (inline_view i ∷ []) (text s ∷ [])))
      (joined_around (map inline_view is) (inline_view i) (text s ∷ []) h k (text_joined s some)));
}

pub row_text : (is js : List c.Inline) (t : String Global) → js ≡ is ++ made.Text t ∷ [] → 0 < length (string_bytes t) → IsOpenRow is → AreJoined (inlines_view js)
unfolding roll-Inline roll
row_text is js t e some h =
    subst (λ row. AreJoined (inlines_of row)) (sym (seen_more is js (made.Text t) e ∙ ap (λ i. map inline_view is ++ i ∷ []) (fold-roll-Inline Inline inline_step (Inline-F.Text t))))
    (h.with_text (string_bytes t) some)

-- the tree at the end
pub tree_whole : (frames : List Frame) (is : List c.Inline) (t : List ℕ) (all : List Event) → frames ≡ [] → t ≡ [] →
    (spread (reverse frames) is ++ row_events (innermost (reverse frames) is)) ++ written t ≡ all → AreJoined (inlines_view (innermost (reverse frames) is)) → inlines_view is ≡ tree_of all
tree_whole frames is t all none empty built joined =
    let whole : row_events is ++ written t ≡ all = subst (λ (fs : List Frame). (spread (reverse fs) is ++ row_events (innermost (reverse fs) is)) ++ written t ≡ all) none built in
    let row : AreJoined (inlines_view is) = subst (λ (fs : List Frame). AreJoined (inlines_view (innermost (reverse fs) is))) none joined in
    sym (tree_is (inlines_view is) row) ∙ ap tree_of (sym (append-nil (row_events is)) ∙ ap (λ s. row_events is ++ written s) (sym empty) ∙ whole)

-- the rows of the spans that are open

pub none_joined : (fs : List Frame) (row : List c.Inline) → fs ≡ [] → row ≡ [] → AreOpenRows (reverse fs) row
none_joined fs row none empty = subst (λ (gs : List Frame). AreOpenRows (reverse gs) row) (sym none) (record { before = tt; last = open_row row empty })

-- a text behind the last inline
pub text_kept : (old new : TreeBuilder) → IsJoined old → new.frames ≡ old.frames → new.row ≡ old.row → IsJoined new
text_kept old new h frames row =
    subst (λ (v : Vec Frame Global). AreOpenRows (reverse v.items) new.row.items) (sym frames)
    (subst (λ (v : Vec c.Inline Global). AreOpenRows (reverse old.frames.items) v.items) (sym row) h)

pub text_row : (t : String Global) (s : List ℕ) → string_bytes t ≡ s → 0 < length (string_bytes t) → IsTextRow s (made.Text t ∷ [])
text_row t s same some = record { events = text_events t s same; joined = λ is h. row_text is (is ++ made.Text t ∷ []) t refl some h }

pub no_text_row : (s : List ℕ) → s ≡ [] → IsTextRow s []
no_text_row s none = record { events = ap written (sym none); joined = λ is h. subst (λ (js : List c.Inline). AreJoined (inlines_view js)) (sym (append-nil is)) h.joined }

pub cut_inside : (row next inside : List c.Inline) (begin : ℕ) (s : List ℕ) → begin ≤ length row → EndsWithText row s next → inside ≡ drop begin next → EndsWithText (drop begin row) s inside
cut_inside row next inside begin s le h e = record { tail = h.tail; row_is = e ∙ ap (λ (is : List c.Inline). drop begin is) h.row_is ∙ drop-append-le begin row h.tail le; text = h.text }

pub text_more : (fs : List Frame) (row next ts : List c.Inline) (s : List ℕ) → AreNested fs (length row) → next ≡ row ++ ts → IsTextRow s ts → AreOpenRows fs row → AreJoinedRows fs next
text_more fs row next ts s nested e ended h = record {
  before = outer_more fs row next ts nested e h.before;
  last = subst (λ (is : List c.Inline). AreJoined (inlines_view is)) (sym (inner_more fs row next ts nested e)) (ended.joined (innermost fs row) h.last);
}

pub inline_more : (fs : List Frame) (row next : List c.Inline) (i : c.Inline) → AreNested fs (length row) → next ≡ row ++ i ∷ [] → IsNoText (inline_view i) →
    AreJoinedRows fs row → AreOpenRows fs next
inline_more fs row next i nested e apart h = record {
  before = outer_more fs row next (i ∷ []) nested e h.before;
  last = row_more (innermost fs row) (innermost fs next) i (inner_more fs row next (i ∷ []) nested e) apart h.last;
}

pub span_begun : (fs gs : List Frame) (f : Frame) (row : List c.Inline) → gs ≡ fs ++ f ∷ [] → f.begin ≡ length row →
    AreJoinedRows (reverse fs) row → AreOpenRows (reverse gs) row
span_begun fs gs f row e same h =
    let whole : take f.begin row ≡ row = take_all f.begin row (omega (arith, same)) in
    let none : drop f.begin row ≡ [] = drop_all f.begin row (omega (arith, same)) in
    subst (λ (xs : List Frame). AreOpenRows xs row) (sym (turned fs gs f e)) (record {
      before = subst (λ (is : List c.Inline). AreJoined (inlines_view (innermost (reverse fs) is)) × AreOuterJoined (reverse fs) is) (sym whole) (h.last, h.before);
      last = open_row (drop f.begin row) none;
    })

pub span_ended : (fs gs : List Frame) (f : Frame) (row next inside ts : List c.Inline) (i : c.Inline) (s : List ℕ) → AreNested (reverse fs) (length row) → fs ≡ gs ++ f ∷ [] →
    next ≡ take f.begin row ++ i ∷ [] → inside ≡ drop f.begin row ++ ts → IsTextRow s ts → (AreJoined (inlines_view inside) → IsNoText (inline_view i)) →
    AreOpenRows (reverse fs) row → AreOpenRows (reverse gs) next
span_ended fs gs f row next inside ts i s nested e pushed cut ended apart h =
    let parts = nested_leave fs gs f (length row) e nested in
    let whole : length (take f.begin row) ≡ f.begin = length-take-le f.begin row parts.0 in
    let rows = subst (λ (xs : List Frame). AreOpenRows xs row) (turned gs fs f e) h in
    let joined = subst (λ (is : List c.Inline). AreJoined (inlines_view is)) (sym cut) (ended.joined (drop f.begin row) rows.last) in
    inline_more (reverse gs) (take f.begin row) next i (subst (λ n. AreNested (reverse gs) n) (sym whole) parts.1) pushed (apart joined)
    (record { before = rows.before.1; last = rows.before.0 })

-- inlines that are no text

code_stands : (s : List ℕ) → IsNoText (code s)
code_stands s = record { apart = λ after. tt; front = λ after. refl; inside = tt }

raw_stands : (s : List ℕ) → IsNoText (raw s)
raw_stands s = record { apart = λ after. tt; front = λ after. refl; inside = tt }

soft_stands : IsNoText soft
soft_stands = record { apart = λ after. tt; front = λ after. refl; inside = tt }

hard_stands : IsNoText hard
hard_stands = record { apart = λ after. tt; front = λ after. refl; inside = tt }

span_stands : (span : InlineSpan) (inside : Inlines) → AreJoined inside → IsNoText (span_tree span inside)
span_stands Emphasis inside h = record { apart = λ after. tt; front = λ after. refl; inside = h }
span_stands StrongEmphasis inside h = record { apart = λ after. tt; front = λ after. refl; inside = h }
span_stands Strikethrough inside h = record { apart = λ after. tt; front = λ after. refl; inside = h }
span_stands (LinkTo t) inside h = record { apart = λ after. tt; front = λ after. refl; inside = h }
span_stands (ImageOf t) inside h = record { apart = λ after. tt; front = λ after. refl; inside = h }

pub code_apart : (s : String Global) → IsNoText (inline_view (made.Code s))
unfolding roll-Inline roll
code_apart s = subst IsNoText (sym (fold-roll-Inline Inline inline_step (Inline-F.Code s))) (code_stands (string_bytes s))

pub html_apart : (html : String Global) → IsNoText (inline_view (made.Html html))
unfolding roll-Inline roll
html_apart html = subst IsNoText (sym (fold-roll-Inline Inline inline_step (Inline-F.Html html))) (raw_stands (string_bytes html))

pub soft_apart : IsNoText (inline_view made.Soft)
unfolding roll-Inline roll
soft_apart = subst IsNoText (sym (fold-roll-Inline Inline inline_step Inline-F.Soft)) soft_stands

pub hard_apart : IsNoText (inline_view made.Hard)
unfolding roll-Inline roll
hard_apart = subst IsNoText (sym (fold-roll-Inline Inline inline_step Inline-F.Hard)) hard_stands

pub span_apart : (i : Inline) (span : InlineSpan) (inside : Inlines) → i ≡ span_tree span inside → AreJoined inside → IsNoText i
span_apart i span inside e h = subst IsNoText (sym e) (span_stands span inside h)
