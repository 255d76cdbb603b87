-- The trees that the crate's values stand for.
use Rattle.std.specs.Prelude.{List, map, string_bytes}
use Rattle.inlinespec.specs.InlineTree.{Inline, Inlines, inlines_of, text, code, raw, soft, hard, emph, strong, strike, link, image}
use Rattle.mdinline.specs.declared.inlines.Inline as c
use Rattle.mdinline.specs.declared.inlines.Inline.TheOpen.{Inline-F}
use Rattle.mdinline.specs.declared.inlines.Inline.TheFolds.{fold-Inline}

-- one level, with each inline inside already seen as its tree
abbrev pub inline_step : Inline-F Inline → Inline
inline_step (Inline-F.Text s) = text (string_bytes s)
inline_step (Inline-F.Code s) = code (string_bytes s)
inline_step (Inline-F.Html s) = raw (string_bytes s)
inline_step Inline-F.Soft = soft
inline_step Inline-F.Hard = hard
inline_step (Inline-F.Emph v) = emph (inlines_of v.items)
inline_step (Inline-F.Strong v) = strong (inlines_of v.items)
inline_step (Inline-F.Strike v) = strike (inlines_of v.items)
inline_step (Inline-F.Link t v) = link (string_bytes t.url) (string_bytes t.title) (inlines_of v.items)
inline_step (Inline-F.Image t v) = image (string_bytes t.url) (string_bytes t.title) (inlines_of v.items)

abbrev pub inline_view : c.Inline → Inline
inline_view = fold-Inline Inline inline_step

abbrev pub inlines_view : List c.Inline → Inlines
inlines_view is = inlines_of (map inline_view is)
