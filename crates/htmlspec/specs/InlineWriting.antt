-- HTML of inlines that come from left to right, each span by its beginning and its end (CommonMark 6; GFM Strikethrough (extension)).
use Rattle.std.specs.Prelude.{ℕ, Bool, true, false, List, [], ◌∷◌, ◌++◌, codes, if◌then◌else◌}
use Rattle.std.specs.List.{fold}
use Rattle.mdtext.specs.HtmlEscapes.{escaped, escaped_byte}
use Rattle.inlinespec.specs.InlineEvents.{InlineSpan, Emphasis, StrongEmphasis, Strikethrough, LinkTo, ImageOf, Event, Byte, CodeSpan, RawHtml, SoftBreak, HardBreak, Enter, Leave}
use Rattle.htmlspec.specs.declared.options.Options.{Options}
use Rattle.htmlspec.specs.InlineHtml.{wrapped, break_html, raw_html, link_open, image_begins, image_ends}

-- How a span that is open ends: with a tag; or it is an image, with its title behind the alternative text; or it stands in an image, where no tags are.
pub data SpanEnd : Type 0 where
  EndTag : List ℕ → SpanEnd
  EndImage : (title : List ℕ) → SpanEnd
  NoTag : SpanEnd

-- What is written so far; the ends of the spans that are open, the innermost first; whether an image is among them.
pub record Writing : Type 0 where
  pub html : List ℕ
  pub ends : List SpanEnd
  pub in_image : Bool

abbrev pub writing : List ℕ → List SpanEnd → Bool → Writing
writing html ends in_image = record { html = html; ends = ends; in_image = in_image }

abbrev pub shows : Writing → List ℕ → Writing
shows w bytes = writing (w.html ++ bytes) w.ends w.in_image

-- one of two, by where it is shown
abbrev pub shown_in : (in_image : Bool) → (inside outside : List ℕ) → List ℕ
shown_in in_image inside outside = if in_image then inside else outside

abbrev pub begins : Writing → (tag : List ℕ) → SpanEnd → Writing
begins w tag end = writing (w.html ++ tag) (end ∷ w.ends) w.in_image

abbrev pub tag_begins : Options → Writing → InlineSpan → Writing
tag_begins o w Emphasis = begins w (codes "<em>") (EndTag (codes "</em>"))
tag_begins o w StrongEmphasis = begins w (codes "<strong>") (EndTag (codes "</strong>"))
tag_begins o w Strikethrough = begins w (codes "<del>") (EndTag (codes "</del>"))
tag_begins o w (LinkTo t) = begins w (link_open o t.url t.title) (EndTag (codes "</a>"))
tag_begins o w (ImageOf t) = writing (w.html ++ image_begins o t.url) (EndImage t.title ∷ w.ends) true

abbrev pub span_begins : Options → Writing → InlineSpan → Writing
span_begins o w span = if w.in_image then begins w [] NoTag else tag_begins o w span

-- a span ends that is open no more
abbrev pub ended : Writing → SpanEnd → Writing
ended w (EndTag tag) = writing (w.html ++ tag) w.ends w.in_image
ended w (EndImage title) = writing (w.html ++ image_ends title) w.ends false
ended w NoTag = w

-- The span that began last ends; where none is open nothing happens.
abbrev pub ends_by : Writing → List SpanEnd → Writing
ends_by w [] = w
ends_by w (end ∷ ends) = ended (writing w.html ends w.in_image) end

abbrev pub span_ends : Writing → Writing
span_ends w = ends_by w w.ends

abbrev pub after_event : Options → Writing → Event → Writing
after_event o w (Byte b) = shows w (escaped_byte b)
after_event o w (CodeSpan s) = shows w (shown_in w.in_image (escaped s) (wrapped (codes "code") (escaped s)))
after_event o w (RawHtml s) = shows w (shown_in w.in_image (escaped s) (raw_html o s))
after_event o w SoftBreak = shows w (shown_in w.in_image (codes " ") (break_html o.breaks))
after_event o w HardBreak = shows w (shown_in w.in_image (codes " ") (codes "<br />\n"))
after_event o w (Enter span) = span_begins o w span
after_event o w Leave = span_ends w

-- what is written after these events
unfoldable pub after_events : Options → Writing → List Event → Writing
after_events o w es = fold (after_event o) w es
