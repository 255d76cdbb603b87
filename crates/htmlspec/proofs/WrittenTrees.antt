-- The HTML of inlines that come from left to right is that of their tree.
use Rattle.std.proofs.Common.{◌≡◌, ℕ, zero, suc, Bool, true, false, List, [], ◌∷◌, ◌++◌, length, codes, refl, sym, ap, ◌∙◌, append_assoc, append-nil}
use Rattle.std.specs.Prelude.{◌<◌}
use Rattle.std.proofs.Common.{arith}
use Rattle.std.proofs.lemmas.Grind.{flat_map-append}
use Rattle.mdtext.specs.EntityTable.{EntityTable}
use Rattle.mdtext.specs.HtmlEscapes.{escaped, escaped_byte}
use Rattle.inlinespec.specs.InlineTree.{Inline, Inlines, no_inlines, inline, text, code, raw, soft, hard, emph, strong, strike, link, image}
use Rattle.inlinespec.specs.InlineEvents.{InlineSpan, Emphasis, StrongEmphasis, Strikethrough, LinkTo, ImageOf, Event, Byte, CodeSpan, RawHtml, SoftBreak, HardBreak, Enter, Leave, span_tree, with_byte, in_front, closed, rows_of, first_row, tree_of}
use Rattle.inlinespec.specs.LinkTails.{Table}
use Rattle.inlinespec.specs.SpanEnds.{EndSpans}
use Rattle.inlinespec.specs.TextReading.{reading}
use Rattle.inlinespec.specs.TextTree.{events_of, inl}
use Rattle.inlinespec.proofs.PairedSpans.{rows_by}
use Rattle.inlinespec.proofs.ReadingBalanced.{reading_paired}
use Rattle.htmlspec.specs.declared.options.Options.{Options}
use Rattle.htmlspec.specs.InlineHtml.{link_open, image_begins, image_ends, alt, alts, inline_html, inlines_html}
use Rattle.htmlspec.specs.InlineWriting.{SpanEnd, EndTag, EndImage, NoTag, Writing, writing, shows, shown_in, span_begins, span_ends, ends_by, after_events}
use Rattle.htmlspec.specs.WrittenUnits.{read_html}
use Rattle.htmlspec.proofs.WrittenEvents.{shows_nothing, shows_more, tags_whole}

-- inlines where they stand, in an image or not
abbrev pub row_html : Options → Bool → Inlines → List ℕ
row_html o in_image row = shown_in in_image (escaped (alts row)) (inlines_html o row)

abbrev pub one_html : Options → Bool → Inline → List ℕ
one_html o in_image i = shown_in in_image (escaped (alt i)) (inline_html o i)

-- what is written in the end of these rows, the first of which stands in the innermost spans span
abbrev pub finished : Options → Writing → List Inlines → Writing
finished o w [] = w
finished o w (r ∷ []) = shows w (row_html o w.in_image r)
finished o w (r ∷ s ∷ rows) = finished o (span_ends (shows w (row_html o w.in_image r))) (s ∷ rows)

-- an inline in front of a row
row_front : (o : Options) (t : Bool) (i : Inline) (row : Inlines) → row_html o t (inline i row) ≡ one_html o t i ++ row_html o t row
row_front o true i row = flat_map-append escaped_byte (alt i) (alts row)
row_front o false i row = refl

byte_alone : (o : Options) (t : Bool) (b : ℕ) → one_html o t (text (b ∷ [])) ≡ escaped_byte b
byte_alone o true b = append-nil (escaped_byte b)
byte_alone o false b = append-nil (escaped_byte b)

byte_before : (o : Options) (t : Bool) (b : ℕ) (i : Inline) (row : Inlines)
    → row_html o t (inline (text (b ∷ [])) (inline i row)) ≡ escaped_byte b ++ row_html o t (inline i row)
byte_before o t b i row = row_front o t (text (b ∷ [])) (inline i row) ∙ ap (λ x. x ++ row_html o t (inline i row)) (byte_alone o t b)

text_longer : (o : Options) (t : Bool) (b : ℕ) (s : List ℕ) → one_html o t (text (b ∷ s)) ≡ escaped_byte b ++ one_html o t (text s)
text_longer o true b s = refl
text_longer o false b s = refl

-- a byte in front of a row, which may join its text
byte_front : (o : Options) (t : Bool) (b : ℕ) (row : Inlines) → row_html o t (with_byte b row) ≡ escaped_byte b ++ row_html o t row
byte_front o t b no_inlines =
    row_front o t (text (b ∷ [])) no_inlines ∙ ap (λ x. x ++ row_html o t no_inlines) (byte_alone o t b)
byte_front o t b (inline (text s) row) =
    row_front o t (text (b ∷ s)) row ∙ ap (λ x. x ++ row_html o t row) (text_longer o t b s)
    ∙ append_assoc (escaped_byte b) (one_html o t (text s)) (row_html o t row)
    ∙ ap (λ x. escaped_byte b ++ x) (sym (row_front o t (text s) row))
byte_front o t b (inline (code s) row) = byte_before o t b (code s) row
byte_front o t b (inline (raw s) row) = byte_before o t b (raw s) row
byte_front o t b (inline soft row) = byte_before o t b soft row
byte_front o t b (inline hard row) = byte_before o t b hard row
byte_front o t b (inline (emph k) row) = byte_before o t b (emph k) row
byte_front o t b (inline (strong k) row) = byte_before o t b (strong k) row
byte_front o t b (inline (strike k) row) = byte_before o t b (strike k) row
byte_front o t b (inline (link u v k) row) = byte_before o t b (link u v k) row
byte_front o t b (inline (image u v k) row) = byte_before o t b (image u v k) row

-- what stands in front of a row is written before it
finished_front : (o : Options) (w : Writing) (x : List ℕ) (r s : Inlines) (rows : List Inlines)
    → row_html o w.in_image s ≡ x ++ row_html o w.in_image r → finished o w (s ∷ rows) ≡ finished o (shows w x) (r ∷ rows)
finished_front o w x r s [] e = ap (shows w) e ∙ sym (shows_more w x (row_html o w.in_image r))
finished_front o w x r s (t ∷ rows) e = ap (λ v. finished o (span_ends v) (t ∷ rows)) (ap (shows w) e ∙ sym (shows_more w x (row_html o w.in_image r)))

-- a leaf in front of the rows
leaf_front : (o : Options) (w : Writing) (f : Inlines → Inlines) (x : List ℕ) (rows : List Inlines) → 0 < length rows
    → ((r : Inlines) → row_html o w.in_image (f r) ≡ x ++ row_html o w.in_image r) → finished o w (in_front f rows) ≡ finished o (shows w x) rows
leaf_front o w f x [] some e = absurd (omega arith)
leaf_front o w f x (r ∷ rows) some e = finished_front o w x r (f r) rows (e r)

alt_inside : (span : InlineSpan) (inside : Inlines) → alts inside ≡ alt (span_tree span inside)
alt_inside Emphasis inside = refl
alt_inside StrongEmphasis inside = refl
alt_inside Strikethrough inside = refl
alt_inside (LinkTo t) inside = refl
alt_inside (ImageOf t) inside = refl

alternative_whole : (html : List ℕ) (span : InlineSpan) (inside : Inlines) → (html ++ []) ++ escaped (alts inside) ≡ html ++ escaped (alt (span_tree span inside))
alternative_whole html span inside = ap (λ x. x ++ escaped (alts inside)) (append-nil html) ∙ ap (λ x. html ++ escaped x) (alt_inside span inside)

link_whole : (html a inside c : List ℕ) → ((html ++ a) ++ inside) ++ c ≡ html ++ ((a ++ inside) ++ c)
link_whole html a inside c = simp append_assoc

span_where : (o : Options) (html : List ℕ) (ends : List SpanEnd) (in_image : Bool) (span : InlineSpan) (inside : Inlines) → let w = writing html ends in_image in
    span_ends (shows (span_begins o w span) (row_html o (span_begins o w span).in_image inside)) ≡ shows w (one_html o in_image (span_tree span inside))
span_where o html ends true span inside = ap (λ x. writing x ends true) (alternative_whole html span inside)
span_where o html ends false Emphasis inside = ap (λ x. writing x ends false) (tags_whole html (codes "<") (codes "em") (codes ">") (inlines_html o inside) (codes "</"))
span_where o html ends false StrongEmphasis inside = ap (λ x. writing x ends false) (tags_whole html (codes "<") (codes "strong") (codes ">") (inlines_html o inside) (codes "</"))
span_where o html ends false Strikethrough inside = ap (λ x. writing x ends false) (tags_whole html (codes "<") (codes "del") (codes ">") (inlines_html o inside) (codes "</"))
span_where o html ends false (LinkTo t) inside = ap (λ x. writing x ends false) (link_whole html (link_open o t.url t.title) (inlines_html o inside) (codes "</a>"))
span_where o html ends false (ImageOf t) inside =
    ap (λ x. writing x ends false) (link_whole html (image_begins o t.url) (escaped (alts inside)) (image_ends t.title))

-- a span as it is written: its beginning, its inside, its end
span_whole : (o : Options) (w : Writing) (span : InlineSpan) (inside : Inlines)
    → span_ends (shows (span_begins o w span) (row_html o (span_begins o w span).in_image inside)) ≡ shows w (one_html o w.in_image (span_tree span inside))
span_whole o w span inside = span_where o w.html w.ends w.in_image span inside

-- a span in front of the rows that follow its inside
span_front : (o : Options) (w : Writing) (span : InlineSpan) (rows : List Inlines) → 1 < length rows
    → finished o w (closed span rows) ≡ finished o (span_begins o w span) rows
span_front o w span [] some = absurd (omega arith)
span_front o w span (r ∷ []) some = absurd (omega arith)
span_front o w span (r ∷ s ∷ rows) some =
    finished_front o w (one_html o w.in_image (span_tree span r)) s (inline (span_tree span r) s) rows (row_front o w.in_image (span_tree span r) s)
    ∙ ap (λ v. finished o v (s ∷ rows)) (sym (span_whole o w span r))

-- how many spans are open behind an event

begun_where : (o : Options) (html : List ℕ) (ends : List SpanEnd) (in_image : Bool) (span : InlineSpan)
    → length (span_begins o (writing html ends in_image) span).ends ≡ suc (length ends)
begun_where o html ends true span = refl
begun_where o html ends false Emphasis = refl
begun_where o html ends false StrongEmphasis = refl
begun_where o html ends false Strikethrough = refl
begun_where o html ends false (LinkTo t) = refl
begun_where o html ends false (ImageOf t) = refl

left_length : (w : Writing) (ends : List SpanEnd) (n : ℕ) → length ends ≡ suc n → length (ends_by w ends).ends ≡ n
left_length w [] n h = omega (arith, h)
left_length w (EndTag tag ∷ ends) n h = omega (arith, h)
left_length w (EndImage title ∷ ends) n h = omega (arith, h)
left_length w (NoTag ∷ ends) n h = omega (arith, h)

begun_open : (o : Options) (w : Writing) (span : InlineSpan) → length (span_begins o w span).ends ≡ suc (length w.ends)
begun_open o w span = begun_where o w.html w.ends w.in_image span

left_open : (w : Writing) (n : ℕ) → length w.ends ≡ suc n → length (span_ends w).ends ≡ n
left_open w n h = left_length w w.ends n h

some_by : (es : List Event) (n : ℕ) → EndSpans n es → 0 < length (rows_of es)
some_by es n h = omega (arith, rows_by es n h)

nothing_shown : (o : Options) (t : Bool) → row_html o t no_inlines ≡ []
nothing_shown o true = refl
nothing_shown o false = refl

leaf_shown : (o : Options) (w : Writing) (i : Inline) (es : List Event) (n : ℕ) → EndSpans n es
    → after_events o (shows w (one_html o w.in_image i)) es ≡ finished o (shows w (one_html o w.in_image i)) (rows_of es)
    → after_events o (shows w (one_html o w.in_image i)) es ≡ finished o w (in_front (inline i) (rows_of es))
leaf_shown o w i es n h shown = shown ∙ sym (leaf_front o w (inline i) (one_html o w.in_image i) (rows_of es) (some_by es n h) (row_front o w.in_image i))

-- an empty row in front, behind which a span ends
row_begun : (o : Options) (w : Writing) (rows : List Inlines) → 0 < length rows → finished o (span_ends w) rows ≡ finished o w (no_inlines ∷ rows)
row_begun o w [] some = absurd (omega (arith, some))
row_begun o w (r ∷ rows) some = ap (λ v. finished o (span_ends v) (r ∷ rows)) (sym (shows_nothing w) ∙ ap (shows w) (sym (nothing_shown o w.in_image)))

one_row : (o : Options) (w : Writing) (rows : List Inlines) → length rows ≡ 1 → finished o w rows ≡ shows w (row_html o w.in_image (first_row rows))
one_row o w [] h = absurd (omega (arith, h))
one_row o w (r ∷ []) h = refl
one_row o w (r ∷ s ∷ rows) h = absurd (omega (arith, h))

-- What these events write is what their rows show.
events_shown : (o : Options) (w : Writing) (es : List Event) (n : ℕ) → length w.ends ≡ n → EndSpans n es
    → after_events o w es ≡ finished o w (rows_of es)
unfolding after_events rows_of escaped_byte
events_shown o w [] n e h = sym (shows_nothing w) ∙ ap (shows w) (sym (nothing_shown o w.in_image))
events_shown o w (Byte b ∷ es) n e h =
    events_shown o (shows w (escaped_byte b)) es n e h
    ∙ sym (leaf_front o w (with_byte b) (escaped_byte b) (rows_of es) (some_by es n h) (byte_front o w.in_image b))
events_shown o w (CodeSpan s ∷ es) n e h = leaf_shown o w (code s) es n h (events_shown o (shows w (one_html o w.in_image (code s))) es n e h)
events_shown o w (RawHtml s ∷ es) n e h = leaf_shown o w (raw s) es n h (events_shown o (shows w (one_html o w.in_image (raw s))) es n e h)
events_shown o w (SoftBreak ∷ es) n e h = leaf_shown o w soft es n h (events_shown o (shows w (one_html o w.in_image soft)) es n e h)
events_shown o w (HardBreak ∷ es) n e h = leaf_shown o w hard es n h (events_shown o (shows w (one_html o w.in_image hard)) es n e h)
events_shown o w (Enter span ∷ es) n e h =
    events_shown o (span_begins o w span) es (suc n) (begun_open o w span ∙ ap suc e) h
    ∙ sym (span_front o w span (rows_of es) (omega (arith, rows_by es (suc n) h)))
events_shown o w (Leave ∷ es) zero e h = absurd h
events_shown o w (Leave ∷ es) (suc n) e h =
    events_shown o (span_ends w) es n (left_open w n e) h ∙ row_begun o w (rows_of es) (some_by es n h)

-- The HTML of events in which spans begin and end in pairs is that of their tree.
pub tree_shown : (o : Options) (w : Writing) (es : List Event) → w.ends ≡ [] → EndSpans 0 es
    → after_events o w es ≡ shows w (row_html o w.in_image (tree_of es))
tree_shown o w es none h = events_shown o w es 0 (ap length none) h ∙ one_row o w (rows_of es) (rows_by es 0 h)

-- The HTML of a text that is read, with nothing written before.
pub read_shown : (o : Options) (entities : EntityTable) (table : Table) (s : List ℕ)
    → (after_events o (writing [] [] false) (events_of (reading entities table s))).html ≡ read_html o entities table s
unfolding inl
read_shown o entities table s = ap (λ w. w.html) (tree_shown o (writing [] [] false) (events_of (reading entities table s)) refl (reading_paired entities table s))
