-- Ends and spans that ASCII bytes mark cut no character. Where line holds the text's bytes.
use Rattle.std.proofs.Common.{◌≡◌, ℕ, ◌+◌, ◌-◌, ◌<◌, List, length, Option, Some, None, IfSome, arith, subst, sym}
use Rattle.std.specs.Str.{IsUtf8, IsCharBoundary}
use Rattle.std.proofs.lemmas.Str.{IsCharBoundary-before_ascii, IsCharBoundary-after_ascii}
use Rattle.std.specs.Option.{option_or}
use Rattle.mdscan.specs.LinkDefinition.{AreDefSpans}
use Rattle.mdscan.specs.declared.link_definitions.Def.{Def}
use Rattle.mdscan.specs.declared.link_destinations.Dest.{Dest}
use Rattle.mdscan.specs.declared.spans.Span.{Span}
use Rattle.mdscan.specs.Spans.{IsSpanOf, IsEndAfter, EndsAfterMark, IsEnclosed}

-- what follows from a fact on the value, if there is one
pub if_some : {X : Type 0} (r : Option X) (P Q : X → Type 0) → ((x : X) → P x → Q x) → IfSome r P → IfSome r Q
if_some None P Q f h = h
if_some (Some x) P Q f h = f x h

end_of : (text : List ℕ) (at end : ℕ) → IsUtf8 text → EndsAfterMark text at end → IsEndAfter text at end
end_of text at end u h =
    let later = h.later in
    let within = h.within in
    let inside : end - 1 < length text = omega arith in
    let e : end - 1 + 1 ≡ end = omega arith in
    record { later = later; within = within; whole = subst (λ (i : ℕ). IsCharBoundary text i) e (IsCharBoundary-after_ascii text (end - 1) u inside h.mark) }

pub end_is : (text line : List ℕ) (at end : ℕ) → line ≡ text → IsUtf8 text → EndsAfterMark line at end → IsEndAfter text at end
end_is text line at end same u h = end_of text at end u (subst (λ (t : List ℕ). EndsAfterMark t at end) same h)

pub span_of : (text : List ℕ) (at : ℕ) (span : Span) → IsUtf8 text → IsEnclosed text at span → IsSpanOf text span
span_of text at span u h =
    let ordered = h.ordered in
    let within = h.within in
    let starts = h.starts in
    let inside : at < length text = omega arith in
    record {
      ordered = ordered;
      within = omega arith;
      starts_whole = subst (λ (i : ℕ). IsCharBoundary text i) (sym starts) (IsCharBoundary-after_ascii text at u inside h.opens);
      ends_whole = IsCharBoundary-before_ascii text span.end within h.closes;
    }

pub span_is : (text line : List ℕ) (at : ℕ) (span : Span) → line ≡ text → IsUtf8 text → IsEnclosed line at span → IsSpanOf text span
span_is text line at span same u h = span_of text at span u (subst (λ (t : List ℕ). IsEnclosed t at span) same h)

-- just after what two ASCII bytes enclose
pub after_enclosed : (text line : List ℕ) (at : ℕ) (span : Span) (end : ℕ) → line ≡ text → IsUtf8 text → IsEnclosed line at span → end ≡ span.end + 1 → IsEndAfter text at end
after_enclosed text line at span end same u h e =
    let f = subst (λ (t : List ℕ). IsEnclosed t at span) same h in
    let ordered = f.ordered in
    let within = f.within in
    let starts = f.starts in
    record {
      later = omega arith;
      within = omega arith;
      whole = subst (λ (i : ℕ). IsCharBoundary text i) (sym e) (IsCharBoundary-after_ascii text span.end u within f.closes);
    }

-- what follows from two facts on the value, if there is one
pub if_both : {X : Type 0} (r : Option X) (P Q R : X → Type 0) → ((x : X) → P x → Q x → R x) → IfSome r P → IfSome r Q → IfSome r R
if_both None P Q R f h k = h
if_both (Some x) P Q R f h k = f x h k

-- a fact on either of two, if there is one
pub or_some : {X : Type 0} (a b : Option X) (P : X → Type 0) → IfSome a P → IfSome b P → IfSome (option_or a b) P
or_some None b P h k = k
or_some (Some x) b P h k = h

-- the parts of a definition
pub def_spans : (text : List ℕ) (label : Span) (dest : Dest) (title : Option Span) (end : Option ℕ) (r : Option Def) → IfSome r (λ def. Some def.end ≡ end) → IfSome r (λ def. def.label ≡ label) → IfSome r (λ def. def.destination ≡ dest.span) → IfSome r (λ def. def.title ≡ title) → IsSpanOf text label → IsSpanOf text dest.span → IfSome title (λ span. IsSpanOf text span) → IfSome end (λ n. IsCharBoundary text n) → IfSome r (λ def. AreDefSpans text def)
def_spans text label dest title end None e l d t hl hd ht he = e
def_spans text label dest title end (Some def) e l d t hl hd ht he = record {
  label = subst (λ (s : Span). IsSpanOf text s) (sym l) hl;
  destination = subst (λ (s : Span). IsSpanOf text s) (sym d) hd;
  title = subst (λ (s : Option Span). IfSome s (λ span. IsSpanOf text span)) (sym t) ht;
  whole = subst (λ (n : Option ℕ). IfSome n (λ n. IsCharBoundary text n)) (sym e) he;
}
