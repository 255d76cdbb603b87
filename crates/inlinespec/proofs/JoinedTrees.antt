-- The tree of a list of events has no empty text and no two texts side by side.
use Rattle.std.proofs.Common.{ℕ, ◌<◌, List, [], ◌∷◌, length, refl, arith}
use Rattle.inlinespec.specs.InlineTree.{Inlines, no_inlines, inline, text, code, raw, soft, hard, emph, strong, strike, link, image}
use Rattle.inlinespec.specs.InlineEvents.{InlineSpan, Emphasis, StrongEmphasis, Strikethrough, LinkTo, ImageOf, Event, Byte, CodeSpan, RawHtml, SoftBreak, HardBreak, Enter, Leave, span_tree, with_byte, with_event, rows_of, first_row, tree_of}
use Rattle.inlinespec.specs.JoinedTexts.{AreJoined}

AreRowsJoined : List Inlines → Type 0
AreRowsJoined [] = Unit {0}
AreRowsJoined (row ∷ rows) = AreJoined row × AreRowsJoined rows

abbrev one_byte : (b : ℕ) → 0 < length (b ∷ [])
one_byte b = omega arith

byte_joined : (b : ℕ) (is : Inlines) → AreJoined is → AreJoined (with_byte b is)
byte_joined b no_inlines h = ((one_byte b, refl), tt, tt)
byte_joined b (inline (text s) is) h = ((omega arith, h.0.1), tt, h.2)
byte_joined b (inline (code s) is) h = ((one_byte b, refl), tt, h)
byte_joined b (inline (raw s) is) h = ((one_byte b, refl), tt, h)
byte_joined b (inline soft is) h = ((one_byte b, refl), tt, h)
byte_joined b (inline hard is) h = ((one_byte b, refl), tt, h)
byte_joined b (inline (emph k) is) h = ((one_byte b, refl), tt, h)
byte_joined b (inline (strong k) is) h = ((one_byte b, refl), tt, h)
byte_joined b (inline (strike k) is) h = ((one_byte b, refl), tt, h)
byte_joined b (inline (link u t k) is) h = ((one_byte b, refl), tt, h)
byte_joined b (inline (image u t k) is) h = ((one_byte b, refl), tt, h)

span_joined : (span : InlineSpan) (inside after : Inlines) → AreJoined inside → AreJoined after → AreJoined (inline (span_tree span inside) after)
span_joined Emphasis inside after h k = (tt, h, k)
span_joined StrongEmphasis inside after h k = (tt, h, k)
span_joined Strikethrough inside after h k = (tt, h, k)
span_joined (LinkTo t) inside after h k = (tt, h, k)
span_joined (ImageOf t) inside after h k = (tt, h, k)

event_joined : (e : Event) (rows : List Inlines) → AreRowsJoined rows → AreRowsJoined (with_event e rows)
unfolding AreRowsJoined
event_joined (Byte b) [] h = tt
event_joined (Byte b) (row ∷ rows) h = (byte_joined b row h.0, h.1)
event_joined (CodeSpan s) [] h = tt
event_joined (CodeSpan s) (row ∷ rows) h = ((tt, tt, h.0), h.1)
event_joined (RawHtml s) [] h = tt
event_joined (RawHtml s) (row ∷ rows) h = ((tt, tt, h.0), h.1)
event_joined SoftBreak [] h = tt
event_joined SoftBreak (row ∷ rows) h = ((tt, tt, h.0), h.1)
event_joined HardBreak [] h = tt
event_joined HardBreak (row ∷ rows) h = ((tt, tt, h.0), h.1)
event_joined (Enter span) [] h = h
event_joined (Enter span) (row ∷ []) h = h
event_joined (Enter span) (inside ∷ after ∷ rows) h = (span_joined span inside after h.0 h.1.0, h.1.1)
event_joined Leave rows h = (tt, h)

rows_joined : (es : List Event) → AreRowsJoined (rows_of es)
unfolding AreRowsJoined rows_of
rows_joined [] = (tt, tt)
rows_joined (e ∷ es) = event_joined e (rows_of es) (rows_joined es)

first_joined : (rows : List Inlines) → AreRowsJoined rows → AreJoined (first_row rows)
unfolding AreRowsJoined
first_joined [] h = tt
first_joined (row ∷ rows) h = h.0

pub tree_joined : (es : List Event) → AreJoined (tree_of es)
tree_joined es = first_joined (rows_of es) (rows_joined es)
