-- What the writer of inlines holds after a step.
use Rattle.std.proofs.Common.{◌≡◌, ℕ, true, false, List, [], ◌∷◌, ◌++◌, Result, OnOk, String, Global, string_bytes, length, map, reverse, refl, sym, ap, ◌∙◌, append_assoc, append-nil, arith}
use Rattle.std.proofs.lemmas.List.{reverse-append, map-append}
use Rattle.std.proofs.lemmas.Grind.{flat_map-append}
use Rattle.std.proofs.lemmas.Result.{on_ok_weaker}
use Rattle.mdtext.specs.HtmlEscapes.{escaped, escaped_byte}
use Rattle.inlinespec.specs.CodeSpans.{as_one_line}
use Rattle.inlinespec.specs.InlineEvents.{InlineSpan, Event, Enter, Leave, written}
use Rattle.inlinespec.proofs.CodeContents.{IsOneLine, stays}
use Rattle.htmlspec.specs.declared.options.Options.{Options}
use Rattle.mdhtml.specs.declared.inline_writer.InlineWriter.{InlineWriter}
use Rattle.mdhtml.specs.declared.inline_writer.OpenSpan.{OpenSpan}
use Rattle.htmlspec.specs.InlineWriting.{SpanEnd, NoTag, Writing, writing, shows, begins, tag_begins, span_begins, ends_by, after_event, after_events}
use Rattle.mdhtml.specs.held.InlineWriter.{end_of, writing_of, Takes}
use Rattle.htmlspec.proofs.WrittenEvents.{text_shown}

abbrev pub with_html : InlineWriter → String Global → InlineWriter
with_html w html = record { alloc = w.alloc; options = w.options; html = html; spans = w.spans; in_image = w.in_image }

pub html_shown : (w : InlineWriter) (html : String Global) (bytes : List ℕ) → string_bytes html ≡ string_bytes w.html ++ bytes
    → writing_of (with_html w html) ≡ shows (writing_of w) bytes
html_shown w html bytes e = ap (λ h. writing h (reverse (map end_of w.spans.items)) w.in_image) e

pub takes_text : (w : InlineWriter) (html : String Global) (s : List ℕ) → string_bytes html ≡ string_bytes w.html ++ escaped s
    → Takes w (written s) (with_html w html)
takes_text w html s e = record { options = refl; writing = html_shown w html (escaped s) e ∙ sym (text_shown w.options (writing_of w) s) }

-- an event that shows these bytes
pub takes_leaf : (w : InlineWriter) (html : String Global) (leaf : Event) (bytes : List ℕ) → after_event w.options (writing_of w) leaf ≡ shows (writing_of w) bytes
    → string_bytes html ≡ string_bytes w.html ++ bytes → Takes w (leaf ∷ []) (with_html w html)
unfolding after_events
takes_leaf w html leaf bytes s e = record { options = refl; writing = html_shown w html bytes e ∙ sym s }

-- a span begins

in_image_begins : (o : Options) (w : Writing) (span : InlineSpan) → w.in_image ≡ true → begins w [] NoTag ≡ span_begins o w span
in_image_begins o w span e = rw e refl

tag_there : (o : Options) (w : Writing) (span : InlineSpan) → w.in_image ≡ false → tag_begins o w span ≡ span_begins o w span
tag_there o w span e = rw e refl

pub takes_in_image : {T E : Type 0} (r : Result T E) (old new : InlineWriter) (span : InlineSpan) → old.in_image ≡ true → new.options ≡ old.options
    → OnOk r (writing_of new ≡ begins (writing_of old) [] NoTag) → OnOk r (Takes old (Enter span ∷ []) new)
unfolding after_events
takes_in_image r old new span t o w = on_ok_weaker r (λ begun. record { options = o; writing = begun ∙ in_image_begins old.options (writing_of old) span t }) w

pub takes_tag : (old new : InlineWriter) (span : InlineSpan) → old.in_image ≡ false → new.options ≡ old.options
    → writing_of new ≡ tag_begins old.options (writing_of old) span → Takes old (Enter span ∷ []) new
unfolding after_events
takes_tag old new span f o w = record { options = o; writing = w ∙ tag_there old.options (writing_of old) span f }

-- a span ends

pub ends_pushed : (xs : List OpenSpan) (x : OpenSpan) → reverse (map end_of (xs ++ x ∷ [])) ≡ end_of x ∷ reverse (map end_of xs)
ends_pushed xs x = ap reverse (map-append end_of xs (x ∷ [])) ∙ reverse-append (map end_of xs) (end_of x ∷ [])

pub none_open : (xs : List OpenSpan) → length xs ≡ 0 → reverse (map end_of xs) ≡ []
none_open [] h = refl
none_open (x ∷ xs) h = absurd (omega (arith, h))

pub takes_end : (old new : InlineWriter) (ends : List SpanEnd) → reverse (map end_of old.spans.items) ≡ ends → new.options ≡ old.options
    → writing_of new ≡ ends_by (writing_of old) ends → Takes old (Leave ∷ []) new
unfolding after_events
takes_end old new ends e o w = record { options = o; writing = w ∙ ap (ends_by (writing_of old)) (sym e) }

-- a code span's content, line by line

line_escaped : (line after rest : List ℕ) → IsOneLine line → rest ≡ line ++ 10 ∷ after → escaped (as_one_line rest) ≡ escaped line ++ 32 ∷ escaped (as_one_line after)
unfolding escaped_byte
line_escaped line after rest h e =
    ap (λ r. escaped (as_one_line r)) e ∙ ap escaped (stays line (10 ∷ after) h) ∙ flat_map-append escaped_byte line (32 ∷ as_one_line after)

pub line_written : (out line after rest all : List ℕ) → IsOneLine line → rest ≡ line ++ 10 ∷ after → out ++ escaped (as_one_line rest) ≡ all
    → ((out ++ escaped line) ++ 32 ∷ []) ++ escaped (as_one_line after) ≡ all
line_written out line after rest all h e w = simp append_assoc (ap (λ x. out ++ x) (sym (line_escaped line after rest h e)) ∙ w)

pub last_written : (out rest all : List ℕ) → IsOneLine rest → out ++ escaped (as_one_line rest) ≡ all → out ++ escaped rest ≡ all
last_written out rest all h w = ap (λ r. out ++ escaped r) (sym (append-nil rest) ∙ sym (stays rest [] h) ∙ ap as_one_line (append-nil rest)) ∙ w
