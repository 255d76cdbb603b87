-- A tree whose texts are joined is the tree of its events.
use Rattle.std.proofs.Common.{◌≡◌, ℕ, ◌<◌, false, List, [], ◌∷◌, ◌++◌, length, refl, sym, ap, ◌∙◌, append_assoc, append-nil, arith}
use Rattle.inlinespec.specs.InlineTree.{Inline, Inlines, no_inlines, inline, text, code, raw, soft, hard, emph, strong, strike, link, image}
use Rattle.inlinespec.specs.InlineEvents.{InlineSpan, Emphasis, StrongEmphasis, Strikethrough, LinkTo, ImageOf, Event, Byte, CodeSpan, RawHtml, SoftBreak, HardBreak, Enter, Leave, written, within, span_tree, with_byte, in_front, closed, with_event, rows_of, first_row, tree_of, tree_events, inline_events}
use Rattle.inlinespec.specs.JoinedTexts.{begins_with_text, IsApart, AreJoined, IsJoinedInside}

with_bytes : List ℕ → Inlines → Inlines
with_bytes [] row = row
with_bytes (b ∷ bs) row = with_byte b (with_bytes bs row)

put : Inline → Inlines → Inlines
put (text s) row = with_bytes s row
put i row = inline i row

put_all : Inlines → Inlines → Inlines
put_all no_inlines row = row
put_all (inline i is) row = put i (put_all is row)

-- rows

unchanged : (rows : List Inlines) → rows ≡ in_front (λ row. row) rows
unchanged [] = refl
unchanged (row ∷ rows) = refl

in_turn : (f g : Inlines → Inlines) (rows : List Inlines) → in_front f (in_front g rows) ≡ in_front (λ row. f (g row)) rows
in_turn f g [] = refl
in_turn f g (row ∷ rows) = refl

unfoldable pub AreSome : List Inlines → Type 0
AreSome [] = ⊥
AreSome (row ∷ rows) = Unit {0}

still_some : (f : Inlines → Inlines) (rows : List Inlines) → AreSome rows → AreSome (in_front f rows)
unfolding AreSome
still_some f [] h = h
still_some f (row ∷ rows) h = tt

some_closed : (span : InlineSpan) (rows : List Inlines) → AreSome rows → AreSome (closed span rows)
unfolding AreSome
some_closed span [] h = h
some_closed span (row ∷ []) h = tt
some_closed span (row ∷ after ∷ rows) h = tt

some_after : (e : Event) (rows : List Inlines) → AreSome rows → AreSome (with_event e rows)
unfolding AreSome
some_after (Byte b) rows h = still_some (with_byte b) rows h
some_after (CodeSpan s) rows h = still_some (inline (code s)) rows h
some_after (RawHtml s) rows h = still_some (inline (raw s)) rows h
some_after SoftBreak rows h = still_some (inline soft) rows h
some_after HardBreak rows h = still_some (inline hard) rows h
some_after (Enter span) rows h = some_closed span rows h
some_after Leave rows h = tt

pub some_rows : (es : List Event) → AreSome (rows_of es)
unfolding AreSome rows_of
some_rows [] = tt
some_rows (e ∷ es) = some_after e (rows_of es) (some_rows es)

pub some_more : (rs : List Inlines) → AreSome rs → 0 < length rs
unfolding AreSome
some_more [] h = absurd h
some_more (r ∷ rs) h = omega arith

-- texts

text_rows : (s : List ℕ) (es : List Event) → rows_of (written s ++ es) ≡ in_front (with_bytes s) (rows_of es)
unfolding rows_of with_bytes
text_rows [] es = unchanged (rows_of es)
text_rows (b ∷ bs) es = ap (in_front (with_byte b)) (text_rows bs es) ∙ in_turn (with_byte b) (with_bytes bs) (rows_of es)

new_text : (b : ℕ) (is : Inlines) → begins_with_text is ≡ false → with_byte b is ≡ inline (text (b ∷ [])) is
new_text b no_inlines h = refl
new_text b (inline (text s) is) h = cc
new_text b (inline (code s) is) h = refl
new_text b (inline (raw s) is) h = refl
new_text b (inline soft is) h = refl
new_text b (inline hard is) h = refl
new_text b (inline (emph k) is) h = refl
new_text b (inline (strong k) is) h = refl
new_text b (inline (strike k) is) h = refl
new_text b (inline (link u t k) is) h = refl
new_text b (inline (image u t k) is) h = refl

whole_text : (b : ℕ) (bs : List ℕ) (is : Inlines) → begins_with_text is ≡ false → with_bytes (b ∷ bs) is ≡ inline (text (b ∷ bs)) is
unfolding with_bytes
whole_text b [] is h = new_text b is h
whole_text b (c ∷ bs) is h = ap (with_byte b) (whole_text c bs is h)

put_apart : (i : Inline) (is : Inlines) → IsApart i is → put i is ≡ inline i is
unfolding put
put_apart (text []) is h = absurd (omega (arith, h.0))
put_apart (text (b ∷ bs)) is h = whole_text b bs is h.1
put_apart (code s) is h = refl
put_apart (raw s) is h = refl
put_apart soft is h = refl
put_apart hard is h = refl
put_apart (emph k) is h = refl
put_apart (strong k) is h = refl
put_apart (strike k) is h = refl
put_apart (link u t k) is h = refl
put_apart (image u t k) is h = refl

stays : (is : Inlines) → AreJoined is → put_all is no_inlines ≡ is
unfolding put_all
stays no_inlines h = refl
stays (inline i is) h = ap (put i) (stays is h.2) ∙ put_apart i is h.0

-- a span

closed_row : (span : InlineSpan) (inside : Inlines) (rows : List Inlines) → AreSome rows → closed span (inside ∷ rows) ≡ in_front (inline (span_tree span inside)) rows
unfolding AreSome
closed_row span inside [] h = absurd h
closed_row span inside (row ∷ rows) h = refl

span_rows : (span : InlineSpan) (inside : Inlines) (es : List Event) → AreJoined inside →
    rows_of (tree_events inside ++ Leave ∷ es) ≡ in_front (put_all inside) (rows_of (Leave ∷ es)) →
    rows_of (within span (tree_events inside) ++ es) ≡ in_front (inline (span_tree span inside)) (rows_of es)
unfolding rows_of
span_rows span inside es joined h =
    ap (λ l. closed span (rows_of l)) (append_assoc (tree_events inside) (Leave ∷ []) es)
    ∙ ap (closed span) h
    ∙ ap (λ (row : Inlines). closed span (row ∷ rows_of es)) (stays inside joined)
    ∙ closed_row span inside (rows_of es) (some_rows es)

mutual
  unfolding put put_all rows_of

  tree_rows : (is : Inlines) (es : List Event) → AreJoined is → rows_of (tree_events is ++ es) ≡ in_front (put_all is) (rows_of es)
  tree_rows no_inlines es h = unchanged (rows_of es)
  tree_rows (inline i is) es h =
      ap rows_of (append_assoc (inline_events i) (tree_events is) es)
      ∙ inline_rows i (tree_events is ++ es) h.1
      ∙ ap (in_front (put i)) (tree_rows is es h.2)
      ∙ in_turn (put i) (put_all is) (rows_of es)

  inline_rows : (i : Inline) (es : List Event) → IsJoinedInside i → rows_of (inline_events i ++ es) ≡ in_front (put i) (rows_of es)
  inline_rows (text s) es h = text_rows s es
  inline_rows (code s) es h = refl
  inline_rows (raw s) es h = refl
  inline_rows soft es h = refl
  inline_rows hard es h = refl
  inline_rows (emph k) es h = span_rows Emphasis k es h (tree_rows k (Leave ∷ es) h)
  inline_rows (strong k) es h = span_rows StrongEmphasis k es h (tree_rows k (Leave ∷ es) h)
  inline_rows (strike k) es h = span_rows Strikethrough k es h (tree_rows k (Leave ∷ es) h)
  inline_rows (link u t k) es h = span_rows (LinkTo (record { url = u; title = t })) k es h (tree_rows k (Leave ∷ es) h)
  inline_rows (image u t k) es h = span_rows (ImageOf (record { url = u; title = t })) k es h (tree_rows k (Leave ∷ es) h)

pub tree_is : (is : Inlines) → AreJoined is → tree_of (tree_events is) ≡ is
unfolding rows_of
tree_is is h =
    ap (λ l. first_row (rows_of l)) (sym (append-nil (tree_events is)))
    ∙ ap first_row (tree_rows is [] h)
    ∙ stays is h
