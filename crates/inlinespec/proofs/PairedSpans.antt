-- Events in which spans begin and end in pairs, by the rows that they leave.
use Rattle.std.proofs.Common.{◌≡◌, ℕ, zero, suc, ◌+◌, ◌<◌, ◌≤◌, List, [], ◌∷◌, ◌++◌, length, sym, ap, ◌∙◌, arith, append-nil}
use Rattle.inlinespec.specs.InlineTree.{Inlines, inline, code, raw, soft, hard}
use Rattle.inlinespec.specs.InlineEvents.{InlineSpan, Event, Byte, CodeSpan, RawHtml, SoftBreak, HardBreak, Enter, Leave, with_byte, in_front, closed, rows_of}
use Rattle.inlinespec.specs.SpanEnds.{EndSpans}
use Rattle.inlinespec.proofs.BalancedEvents.{same_rows, closed_rows}
use Rattle.inlinespec.proofs.TreeEvents.{some_more, some_rows}

-- one row for each span that ends though it began before, and one more
pub rows_by : (es : List Event) (n : ℕ) → EndSpans n es → length (rows_of es) ≡ suc n
unfolding rows_of
rows_by [] n h = ap suc (sym h)
rows_by (Byte b ∷ es) n h = same_rows (with_byte b) (rows_of es) ∙ rows_by es n h
rows_by (CodeSpan s ∷ es) n h = same_rows (inline (code s)) (rows_of es) ∙ rows_by es n h
rows_by (RawHtml s ∷ es) n h = same_rows (inline (raw s)) (rows_of es) ∙ rows_by es n h
rows_by (SoftBreak ∷ es) n h = same_rows (inline soft) (rows_of es) ∙ rows_by es n h
rows_by (HardBreak ∷ es) n h = same_rows (inline hard) (rows_of es) ∙ rows_by es n h
rows_by (Enter span ∷ es) n h = let rest = rows_by es (suc n) h in let one = closed_rows span (rows_of es) (omega arith) in omega arith
rows_by (Leave ∷ es) zero h = absurd h
rows_by (Leave ∷ es) (suc n) h = ap suc (rows_by es n h)

-- Where one row more stands behind the events, there is one more in front of them at most. There is none more where a beginning closed no row.

front_more : (f : Inlines → Inlines) (xs ys : List Inlines) → length ys ≤ length xs + 1 → length (in_front f ys) ≤ length (in_front f xs) + 1
front_more f xs ys h = let one = same_rows f xs in let two = same_rows f ys in omega arith

closed_more : (span : InlineSpan) (xs ys : List Inlines) → 0 < length xs → length ys ≤ length xs + 1 → length (closed span ys) ≤ length (closed span xs) + 1
closed_more span [] ys some h = absurd (omega arith)
closed_more span (x ∷ xs) [] some h = omega arith
closed_more span (x ∷ xs) (y ∷ []) some h = omega arith
closed_more span (x ∷ []) (y ∷ z ∷ ys) some h = omega arith
closed_more span (x ∷ w ∷ xs) (y ∷ z ∷ ys) some h = omega arith

rows_more : (es : List Event) → length (rows_of (es ++ Leave ∷ [])) ≤ length (rows_of es) + 1
unfolding rows_of
rows_more [] = omega arith
rows_more (Byte b ∷ es) = front_more (with_byte b) (rows_of es) (rows_of (es ++ Leave ∷ [])) (rows_more es)
rows_more (CodeSpan s ∷ es) = front_more (inline (code s)) (rows_of es) (rows_of (es ++ Leave ∷ [])) (rows_more es)
rows_more (RawHtml s ∷ es) = front_more (inline (raw s)) (rows_of es) (rows_of (es ++ Leave ∷ [])) (rows_more es)
rows_more (SoftBreak ∷ es) = front_more (inline soft) (rows_of es) (rows_of (es ++ Leave ∷ [])) (rows_more es)
rows_more (HardBreak ∷ es) = front_more (inline hard) (rows_of es) (rows_of (es ++ Leave ∷ [])) (rows_more es)
rows_more (Enter span ∷ es) = closed_more span (rows_of es) (rows_of (es ++ Leave ∷ [])) (some_more (rows_of es) (some_rows es)) (rows_more es)
rows_more (Leave ∷ es) = let more = rows_more es in omega arith

-- a beginning that closed a row, also of one row less
both_closed : (span : InlineSpan) (xs ys : List Inlines) (n : ℕ) → length (closed span xs) ≡ suc n → length (closed span ys) ≡ suc (suc n) → length ys ≤ length xs + 1 →
    (length xs ≡ suc (suc n)) × (length ys ≡ suc (suc (suc n)))
both_closed span xs [] n h k m = absurd (omega arith)
both_closed span xs (y ∷ []) n h k m = absurd (omega arith)
both_closed span [] (y ∷ z ∷ ys) n h k m = absurd (omega arith)
both_closed span (x ∷ []) (y ∷ z ∷ ys) n h k m = absurd (omega arith)
both_closed span (x ∷ w ∷ xs) (y ∷ z ∷ ys) n h k m = (omega arith, omega arith)

paired : (es : List Event) (n : ℕ) → length (rows_of es) ≡ suc n → length (rows_of (es ++ Leave ∷ [])) ≡ suc (suc n) → EndSpans n es
unfolding rows_of
paired [] n h k = omega arith
paired (Byte b ∷ es) n h k = paired es n (sym (same_rows (with_byte b) (rows_of es)) ∙ h) (sym (same_rows (with_byte b) (rows_of (es ++ Leave ∷ []))) ∙ k)
paired (CodeSpan s ∷ es) n h k = paired es n (sym (same_rows (inline (code s)) (rows_of es)) ∙ h) (sym (same_rows (inline (code s)) (rows_of (es ++ Leave ∷ []))) ∙ k)
paired (RawHtml s ∷ es) n h k = paired es n (sym (same_rows (inline (raw s)) (rows_of es)) ∙ h) (sym (same_rows (inline (raw s)) (rows_of (es ++ Leave ∷ []))) ∙ k)
paired (SoftBreak ∷ es) n h k = paired es n (sym (same_rows (inline soft) (rows_of es)) ∙ h) (sym (same_rows (inline soft) (rows_of (es ++ Leave ∷ []))) ∙ k)
paired (HardBreak ∷ es) n h k = paired es n (sym (same_rows (inline hard) (rows_of es)) ∙ h) (sym (same_rows (inline hard) (rows_of (es ++ Leave ∷ []))) ∙ k)
paired (Enter span ∷ es) n h k =
    let both = both_closed span (rows_of es) (rows_of (es ++ Leave ∷ [])) n h k (rows_more es) in
    paired es (suc n) both.0 both.1
paired (Leave ∷ es) zero h k = let some = some_more (rows_of es) (some_rows es) in absurd (omega arith)
paired (Leave ∷ es) (suc n) h k = paired es n (omega arith) (omega arith)

-- events that neither close a row of what follows them nor begin one
pub spans_paired : (es : List Event) → ((rest : List Event) → length (rows_of (es ++ rest)) ≡ length (rows_of rest)) → EndSpans 0 es
unfolding rows_of
spans_paired es h = paired es 0 (ap (λ fs. length (rows_of fs)) (sym (append-nil es)) ∙ h []) (h (Leave ∷ []))
