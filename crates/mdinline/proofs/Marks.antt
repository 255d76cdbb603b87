-- Places beside ASCII bytes.
use Rattle.std.proofs.Common.{◌≡◌, ℕ, zero, suc, ◌+◌, ◌-◌, ◌<◌, ◌≤◌, true, false, eqb, refl, List, [], ◌∷◌, length, get_or, drop, length-drop, Option, Some, None, IfSome, Result, Ok, Err, IfOk, sym, ap, ◌∙◌, subst, arith}
use Rattle.std.specs.Prelude.{slice_index}
use Rattle.std.specs.Str.{IsUtf8, IsCharBoundary}
use Rattle.std.proofs.lemmas.Str.{IsCharBoundary-after_ascii}
use Rattle.std.proofs.lemmas.List.{get_or-drop}
use Rattle.std.proofs.lemmas.Bool.Decides.{nat_tests}
use Rattle.inlinespec.specs.LineBreaks.{spaces}
use Rattle.mdscan.specs.Blanks.{begins_with}
use Rattle.mdscan.specs.Spans.{IsEndAfter, EndsAfterMark, IsEnclosed}
use Rattle.mdscan.specs.declared.spans.Span.{Span}
use Rattle.mdinline.specs.held.Brackets.{IsLinkEnd}
use Rattle.mdinline.specs.held.Ticks.{AreTicksFrom}
use Rattle.mdinline.specs.declared.code_spans.Ticks.{Ticks}

-- a place behind an ASCII byte
pub behind : (text line : List ℕ) (at : ℕ) → line ≡ text → IsUtf8 text → at < length line → slice_index line at < 128 → IsCharBoundary text (at + 1)
behind text line at same u inside mark =
    IsCharBoundary-after_ascii text at u (subst (λ t. at < length t) same inside) (subst (λ t. slice_index t at < 128) same mark)

pub behind_next : (text line : List ℕ) (at feed end : ℕ) → line ≡ text → IsUtf8 text → at ≤ feed → EndsAfterMark line feed end → IsEndAfter text at end
behind_next text line at feed end same u from h =
    let f = subst (λ t. EndsAfterMark t feed end) same h in
    let later = f.later in
    let within = f.within in
    record {
      later = omega arith;
      within = within;
      whole = subst (λ k. IsCharBoundary text k) (let e : end - 1 + 1 ≡ end = omega arith in e) (IsCharBoundary-after_ascii text (end - 1) u (omega arith) f.mark);
    }

first_mark : (mark : ℕ) (xs : List ℕ) → begins_with mark xs ≡ true → (0 < length xs) × (get_or xs 0 0 ≡ mark)
first_mark mark [] h = cc
first_mark mark (b ∷ bs) h = (omega arith, grind (arith, nat_tests))

-- a mark that stands at a place
pub mark_there : (mark : ℕ) (text : List ℕ) (k : ℕ) → begins_with mark (drop k text) ≡ true → (k < length text) × (get_or text k 0 ≡ mark)
mark_there mark text k h =
    let f = first_mark mark (drop k text) h in
    (omega (arith, f.0, length-drop k text), ap (λ i. get_or text i 0) (let e : k ≡ k + 0 = omega arith in e) ∙ sym (get_or-drop k text 0 0) ∙ f.1)

-- no space stands before a line feed that stands at a place
pub none_before_feed : (text : List ℕ) (at : ℕ) → get_or text at 0 ≡ 10 → spaces (drop at text) ≡ 0
none_before_feed text at e = by (drop at text) (get_or-drop at text 0 0 ∙ ap (λ k. get_or text k 0) (let z : at + 0 ≡ at = omega arith in z) ∙ e)
  where
    by : (xs : List ℕ) → get_or xs 0 0 ≡ 10 → spaces xs ≡ 0
    by [] first = refl
    by (b ∷ rest) first = let other : eqb b 32 ≡ false = grind (arith, nat_tests, first) in rw other refl

present : (text : List ℕ) (i : ℕ) → 0 < get_or text i 0 → i < length text
present [] i h = absurd (omega (arith, h))
present (b ∷ bs) zero h = omega arith
present (b ∷ bs) (suc i) h = let later = present bs i h in omega (arith, later)

pub same_place : (at : ℕ) → at ≤ at
same_place at = omega arith

pub after_next : (text line : List ℕ) (at end : ℕ) → line ≡ text → IsUtf8 text → at + 1 < length line → slice_index line (at + 1) < 128 → end ≡ at + 1 + 1 → IsEndAfter text at end
after_next text line at end same u inside mark e =
    let within : at + 1 < length text = subst (λ t. at + 1 < length t) same inside in
    record {
      later = omega (arith, e);
      within = omega (arith, e, within);
      whole = subst (λ k. IsCharBoundary text k) (sym e) (behind text line (at + 1) same u inside mark);
    }

-- the place behind a reference, whose `&` stands at a place
pub reference_end : (text rest : List ℕ) (at len : ℕ) → rest ≡ drop (at + 1) text → IsUtf8 text → 2 ≤ len → slice_index rest (len - 2) ≡ 59 → IsEndAfter text at (at + len)
reference_end text rest at len e u two last =
    let there : get_or (drop (at + 1) text) (len - 2) 0 ≡ 59 = subst (λ r. get_or r (len - 2) 0 ≡ 59) e last in
    let mark : get_or text (at + 1 + (len - 2)) 0 ≡ 59 = sym (get_or-drop (at + 1) text (len - 2) 0) ∙ there in
    let inside : at + 1 + (len - 2) < length text = present text _ (omega (arith, mark)) in
    let sum : at + 1 + (len - 2) + 1 ≡ at + len = omega (arith, two) in
    record {
      later = omega (arith, two);
      within = omega (arith, sum, inside);
      whole = subst (λ k. IsCharBoundary text k) sum (IsCharBoundary-after_ascii text (at + 1 + (len - 2)) u inside (omega (arith, mark)));
    }

-- the place behind a code span
pub past_code : (text line : List ℕ) (at start : ℕ) (run : Ticks) (end : ℕ) → line ≡ text → IsUtf8 text → EndsAfterMark line at start → AreTicksFrom line start run → end ≡ run.end → IsEndAfter text at end
past_code text line at start run end same u h t e =
    let later = h.later in
    let from = t.from_there in
    subst (λ k. IsEndAfter text at k) (sym e) (behind_next text line at run.start run.end same u (omega (arith, later, from)) t.ends)

-- the place behind `[]`
pub past_pair : (text line : List ℕ) (after : ℕ) → line ≡ text → IsUtf8 text → after + 1 < length line → slice_index line (after + 1) ≡ 93 → IsLinkEnd text after (after + 2)
past_pair text line after same u inside mark =
    record {
      from = omega arith;
      whole = subst (λ k. IsCharBoundary text k) (let e : after + 1 + 1 ≡ after + 2 = omega arith in e) (behind text line (after + 1) same u inside (omega (arith, mark)));
    }

-- the place behind a label
pub label_link : (text : List ℕ) (after : ℕ) (label : Span) → IsUtf8 text → IsEnclosed text after label → IsLinkEnd text after (label.end + 1)
label_link text after label u h =
    let starts = h.starts in
    let ordered = h.ordered in
    record {
      from = omega (arith, starts, ordered);
      whole = IsCharBoundary-after_ascii text label.end u h.within h.closes;
    }

pub linked : {X E : Type 0} (f : X → ℕ) (r : Result (Option X) E) (text : List ℕ) (after end : ℕ) → IfOk r (λ found. IfSome found (λ x. f x ≡ end)) → IsLinkEnd text after end →
    IfOk r (λ found. IfSome found (λ x. IsLinkEnd text after (f x)))
linked f (Ok (Some x)) text after end h k = subst (λ e. IsLinkEnd text after e) (sym h) k
linked f (Ok None) text after end h k = tt
linked f (Err e) text after end h k = tt

pub if_ok : {X E : Type 0} (r : Result X E) (P Q : X → Type 0) → ((x : X) → P x → Q x) → IfOk r P → IfOk r Q
if_ok (Ok x) P Q f h = f x h
if_ok (Err e) P Q f h = h
