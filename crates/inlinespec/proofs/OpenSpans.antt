-- No more spans are open at a place of a text than its tree is deep.
use Rattle.std.proofs.Common.{◌≡◌, ℕ, suc, ◌+◌, ◌≤◌, max, List, [], ◌∷◌, ◌++◌, length, arith}
use Rattle.inlinespec.specs.InlineTree.{Inline, Inlines, no_inlines, inline, text, code, raw, soft, hard, emph, strong, strike, link, image}
use Rattle.inlinespec.specs.InlineEvents.{InlineSpan, Emphasis, StrongEmphasis, Strikethrough, LinkTo, ImageOf, Event, Byte, CodeSpan, RawHtml, SoftBreak, HardBreak, Enter, Leave, span_tree, with_byte, in_front, closed, with_event, rows_of, first_row, tree_of}
use Rattle.inlinespec.specs.Nesting.{nest, nest_of}

-- the deepest of these rows, each in as many spans as rows follow it
unfoldable pub deepest : List Inlines → ℕ
deepest [] = 0
deepest (row ∷ rows) = max (nest row + length rows) (deepest rows)

byte_nests : (b : ℕ) (is : Inlines) → nest is ≤ nest (with_byte b is)
unfolding nest
byte_nests b no_inlines = omega arith
byte_nests b (inline (text s) is) = omega arith
byte_nests b (inline (code s) is) = omega arith
byte_nests b (inline (raw s) is) = omega arith
byte_nests b (inline soft is) = omega arith
byte_nests b (inline hard is) = omega arith
byte_nests b (inline (emph k) is) = omega arith
byte_nests b (inline (strong k) is) = omega arith
byte_nests b (inline (strike k) is) = omega arith
byte_nests b (inline (link u t k) is) = omega arith
byte_nests b (inline (image u t k) is) = omega arith

before_nests : (i : Inline) (is : Inlines) → nest is ≤ nest (inline i is)
unfolding nest
before_nests i is = omega arith

span_nests : (span : InlineSpan) (inside : Inlines) → suc (nest inside) ≤ nest_of (span_tree span inside)
unfolding nest
span_nests Emphasis inside = omega arith
span_nests StrongEmphasis inside = omega arith
span_nests Strikethrough inside = omega arith
span_nests (LinkTo t) inside = omega arith
span_nests (ImageOf t) inside = omega arith

front_deeper : (f : Inlines → Inlines) (rows : List Inlines) → ((row : Inlines) → nest row ≤ nest (f row)) → deepest rows ≤ deepest (in_front f rows)
unfolding deepest
front_deeper f [] h = omega arith
front_deeper f (row ∷ rows) h = let more = h row in omega arith

closed_deeper : (span : InlineSpan) (rows : List Inlines) → deepest rows ≤ deepest (closed span rows)
unfolding deepest nest
closed_deeper span [] = omega arith
closed_deeper span (row ∷ []) = omega arith
closed_deeper span (inside ∷ after ∷ rows) = let more = span_nests span inside in omega arith

event_deeper : (e : Event) (rows : List Inlines) → deepest rows ≤ deepest (with_event e rows)
unfolding deepest
event_deeper (Byte b) rows = front_deeper (with_byte b) rows (byte_nests b)
event_deeper (CodeSpan s) rows = front_deeper (inline (code s)) rows (before_nests (code s))
event_deeper (RawHtml s) rows = front_deeper (inline (raw s)) rows (before_nests (raw s))
event_deeper SoftBreak rows = front_deeper (inline soft) rows (before_nests soft)
event_deeper HardBreak rows = front_deeper (inline hard) rows (before_nests hard)
event_deeper (Enter span) rows = closed_deeper span rows
event_deeper Leave rows = omega arith

events_deeper : (front rest : List Event) → deepest (rows_of rest) ≤ deepest (rows_of (front ++ rest))
unfolding rows_of
events_deeper [] rest = omega arith
events_deeper (e ∷ front) rest = let more = events_deeper front rest in let one = event_deeper e (rows_of (front ++ rest)) in omega arith

open_row : (rows : List Inlines) → nest (first_row rows) + length rows ≤ 1 + deepest rows
unfolding deepest nest
open_row [] = omega arith
open_row (row ∷ rows) = omega arith

only_row : (rows : List Inlines) → length rows ≡ 1 → deepest rows ≤ nest (first_row rows)
unfolding deepest
only_row [] h = omega arith
only_row (row ∷ []) h = omega arith
only_row (row ∷ next ∷ rows) h = absurd (omega arith)

pub open_nests : (front rest : List Event) → length (rows_of (front ++ rest)) ≡ 1 → nest (first_row (rows_of rest)) + length (rows_of rest) ≤ 1 + nest (tree_of (front ++ rest))
open_nests front rest one =
    let here = open_row (rows_of rest) in
    let more = events_deeper front rest in
    let whole = only_row (rows_of (front ++ rest)) one in
    omega arith
