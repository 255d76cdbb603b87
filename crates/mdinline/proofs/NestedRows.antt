-- The rows of the spans that are open, where their row grows or a span ends.
use Rattle.std.proofs.Common.{◌≡◌, ◌≤◌, ◌+◌, ℕ, List, [], ◌∷◌, ◌++◌, drop, length, reverse, take, refl, sym, ap, ◌∙◌, subst, arith}
use Rattle.std.proofs.lemmas.List.{drop-append-le, length_push, reverse-append, take-append-le}
use Rattle.inlinespec.specs.InlineEvents.{Enter}
use Rattle.inlinespec.specs.JoinedTexts.{AreJoined}
use Rattle.mdinline.specs.TreeView.{inlines_view}
use Rattle.mdinline.specs.held.OpenRows.{AreNested, AreOuterJoined, innermost, open_span, row_events, spread}
use Rattle.mdinline.specs.declared.inlines.Inline.{Inline}
use Rattle.mdinline.specs.declared.trees.Frame.{Frame}

-- the frame that was pushed last is the innermost
pub turned : (fs gs : List Frame) (f : Frame) → gs ≡ fs ++ f ∷ [] → reverse gs ≡ f ∷ reverse fs
turned fs gs f e = ap reverse e ∙ reverse-append fs (f ∷ [])

pub nested_none : (fs : List Frame) (n : ℕ) → fs ≡ [] → AreNested (reverse fs) n
nested_none fs n none = subst (λ (xs : List Frame). AreNested (reverse xs) n) (sym none) tt

pub nested_longer : (fs : List Frame) (m n : ℕ) → m ≤ n → AreNested fs m → AreNested fs n
nested_longer [] m n le h = tt
nested_longer (f ∷ fs) m n le h = (omega (arith, h.0), h.1)

pub nested_push : (fs : List Frame) (row next : List Inline) (i : Inline) → next ≡ row ++ i ∷ [] → AreNested fs (length row) → AreNested fs (length next)
nested_push fs row next i e h =
    let longer : length next ≡ length row + 1 = ap length e ∙ length_push row i in
    nested_longer fs (length row) (length next) (omega (arith, longer)) h

pub nested_enter : (fs gs : List Frame) (f : Frame) (n : ℕ) → gs ≡ fs ++ f ∷ [] → f.begin ≡ n → AreNested (reverse fs) n → AreNested (reverse gs) n
nested_enter fs gs f n e same h =
    subst (λ (xs : List Frame). AreNested xs n) (sym (turned fs gs f e)) (omega (arith, same), subst (λ m. AreNested (reverse fs) m) (sym same) h)

pub nested_leave : (fs gs : List Frame) (f : Frame) (n : ℕ) → fs ≡ gs ++ f ∷ [] → AreNested (reverse fs) n → (f.begin ≤ n) × AreNested (reverse gs) f.begin
nested_leave fs gs f n e h = subst (λ (xs : List Frame). AreNested xs n) (turned gs fs f e) h

pub nested_left : (fs gs : List Frame) (f : Frame) (m n : ℕ) → fs ≡ gs ++ f ∷ [] → f.begin ≤ m → AreNested (reverse fs) n → AreNested (reverse gs) m
nested_left fs gs f m n e le h = nested_longer (reverse gs) f.begin m le (nested_leave fs gs f n e h).1

-- a row with more behind it

pub inner_more : (fs : List Frame) (row next ts : List Inline) → AreNested fs (length row) → next ≡ row ++ ts → innermost fs next ≡ innermost fs row ++ ts
inner_more [] row next ts h e = e
inner_more (f ∷ fs) row next ts h e = ap (λ (is : List Inline). drop f.begin is) e ∙ drop-append-le f.begin row ts h.0

pub spread_more : (fs : List Frame) (row next ts : List Inline) → AreNested fs (length row) → next ≡ row ++ ts → spread fs next ≡ spread fs row
spread_more [] row next ts h e = refl
spread_more (f ∷ fs) row next ts h e =
    ap (λ (is : List Inline). spread fs is ++ row_events (innermost fs is) ++ Enter (open_span f.span) ∷ [])
    (ap (λ (is : List Inline). take f.begin is) e ∙ take-append-le f.begin row ts h.0)

pub outer_more : (fs : List Frame) (row next ts : List Inline) → AreNested fs (length row) → next ≡ row ++ ts → AreOuterJoined fs row → AreOuterJoined fs next
outer_more [] row next ts h e k = tt
outer_more (f ∷ fs) row next ts h e k =
    subst (λ (is : List Inline). AreJoined (inlines_view (innermost fs is)) × AreOuterJoined fs is) (sym (ap (λ (is : List Inline). take f.begin is) e ∙ take-append-le f.begin row ts h.0)) k
