-- A tree is as deep as spans are open at once among its events.
use Rattle.std.proofs.Common.{◌≡◌, ℕ, zero, suc, ◌<◌, max, List, [], ◌∷◌, length, arith}
use Rattle.inlinespec.specs.InlineTree.{Inline, Inlines, no_inlines, inline, text, code, raw, soft, hard, emph, strong, strike, link, image}
use Rattle.inlinespec.specs.InlineEvents.{InlineSpan, Emphasis, StrongEmphasis, Strikethrough, LinkTo, ImageOf, Event, Byte, CodeSpan, RawHtml, SoftBreak, HardBreak, Enter, Leave, span_tree, with_byte, in_front, closed, rows_of, first_row, tree_of}
use Rattle.inlinespec.specs.Nesting.{nest, nest_of}
use Rattle.inlinespec.specs.SpanEnds.{EndSpans, most_open}
use Rattle.inlinespec.proofs.OpenSpans.{deepest}
use Rattle.inlinespec.proofs.PairedSpans.{rows_by}

byte_as_deep : (b : ℕ) (is : Inlines) → nest (with_byte b is) ≡ nest is
unfolding nest
byte_as_deep b no_inlines = omega arith
byte_as_deep b (inline (text s) is) = omega arith
byte_as_deep b (inline (code s) is) = omega arith
byte_as_deep b (inline (raw s) is) = omega arith
byte_as_deep b (inline soft is) = omega arith
byte_as_deep b (inline hard is) = omega arith
byte_as_deep b (inline (emph k) is) = omega arith
byte_as_deep b (inline (strong k) is) = omega arith
byte_as_deep b (inline (strike k) is) = omega arith
byte_as_deep b (inline (link u t k) is) = omega arith
byte_as_deep b (inline (image u t k) is) = omega arith

leaf_as_deep : (i : Inline) → nest_of i ≡ 0 → (is : Inlines) → nest (inline i is) ≡ nest is
unfolding nest
leaf_as_deep i flat is = omega arith

span_as_deep : (span : InlineSpan) (inside : Inlines) → nest_of (span_tree span inside) ≡ suc (nest inside)
unfolding nest
span_as_deep Emphasis inside = omega arith
span_as_deep StrongEmphasis inside = omega arith
span_as_deep Strikethrough inside = omega arith
span_as_deep (LinkTo t) inside = omega arith
span_as_deep (ImageOf t) inside = omega arith

front_as_deep : (f : Inlines → Inlines) (rows : List Inlines) → ((row : Inlines) → nest (f row) ≡ nest row) → deepest (in_front f rows) ≡ deepest rows
unfolding deepest
front_as_deep f [] h = omega arith
front_as_deep f (row ∷ rows) h = let same = h row in omega arith

closed_as_deep : (span : InlineSpan) (rows : List Inlines) → 1 < length rows → deepest (closed span rows) ≡ deepest rows
unfolding deepest nest
closed_as_deep span [] more = absurd (omega arith)
closed_as_deep span (row ∷ []) more = absurd (omega arith)
closed_as_deep span (inside ∷ after ∷ rows) more = let same = span_as_deep span inside in omega arith

rows_as_deep : (es : List Event) (n : ℕ) → EndSpans n es → deepest (rows_of es) ≡ max n (most_open n es)
unfolding deepest rows_of nest
rows_as_deep [] n h = omega arith
rows_as_deep (Byte b ∷ es) n h = let same = front_as_deep (with_byte b) (rows_of es) (byte_as_deep b) in let rest = rows_as_deep es n h in omega arith
rows_as_deep (CodeSpan s ∷ es) n h = let same = front_as_deep (inline (code s)) (rows_of es) (leaf_as_deep (code s) (omega arith)) in let rest = rows_as_deep es n h in omega arith
rows_as_deep (RawHtml s ∷ es) n h = let same = front_as_deep (inline (raw s)) (rows_of es) (leaf_as_deep (raw s) (omega arith)) in let rest = rows_as_deep es n h in omega arith
rows_as_deep (SoftBreak ∷ es) n h = let same = front_as_deep (inline soft) (rows_of es) (leaf_as_deep soft (omega arith)) in let rest = rows_as_deep es n h in omega arith
rows_as_deep (HardBreak ∷ es) n h = let same = front_as_deep (inline hard) (rows_of es) (leaf_as_deep hard (omega arith)) in let rest = rows_as_deep es n h in omega arith
rows_as_deep (Enter span ∷ es) n h =
    let all = rows_by es (suc n) h in
    let more : 1 < length (rows_of es) = omega arith in
    let same = closed_as_deep span (rows_of es) more in
    let rest = rows_as_deep es (suc n) h in
    omega arith
rows_as_deep (Leave ∷ es) zero h = absurd h
rows_as_deep (Leave ∷ es) (suc n) h = let all = rows_by es n h in let rest = rows_as_deep es n h in omega arith

only_as_deep : (rows : List Inlines) → length rows ≡ 1 → nest (first_row rows) ≡ deepest rows
unfolding deepest
only_as_deep [] h = absurd (omega arith)
only_as_deep (row ∷ []) h = omega arith
only_as_deep (row ∷ next ∷ rows) h = absurd (omega arith)

pub as_deep : (es : List Event) → EndSpans 0 es → nest (tree_of es) ≡ most_open 0 es
as_deep es h =
    let only = only_as_deep (rows_of es) (rows_by es 0 h) in
    let all = rows_as_deep es 0 h in
    omega arith
