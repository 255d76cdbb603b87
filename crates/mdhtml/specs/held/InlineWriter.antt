-- What the writer of inlines holds, as what is written so far.
use Rattle.std.specs.Prelude.{◌≡◌, List, [], ◌++◌, map, reverse, string_bytes, refl}
use Rattle.std.proofs.Common.{sym, ap, ◌∙◌}
use Rattle.std.proofs.lemmas.List.Sums.{fold-append}
use Rattle.inlinespec.specs.InlineEvents.{Event}
use Rattle.mdhtml.specs.declared.inline_writer.InlineWriter.{InlineWriter}
use Rattle.mdhtml.specs.declared.inline_writer.OpenSpan.{OpenSpan}
use Rattle.mdhtml.specs.declared.inline_writer.OpenSpan.TheVariants.{Tag, Image, Alternative}
use Rattle.htmlspec.specs.InlineWriting.{SpanEnd, EndTag, EndImage, NoTag, Writing, writing, after_event, after_events}

abbrev pub end_of : OpenSpan → SpanEnd
end_of (Tag end) = EndTag end.now
end_of (Image title) = EndImage (string_bytes title)
end_of Alternative = NoTag

abbrev pub writing_of : InlineWriter → Writing
writing_of w = writing (string_bytes w.html) (reverse (map end_of w.spans.items)) w.in_image

-- the writer that has taken these events
pub record Takes (old : InlineWriter) (es : List Event) (new : InlineWriter) : Type 0 where
  pub options : new.options ≡ old.options
  pub writing : writing_of new ≡ after_events old.options (writing_of old) es

-- no event changes nothing, and several that are taken one after the other are taken together

pub takes_nothing : (a : InlineWriter) → Takes a [] a
unfolding after_events
takes_nothing a = record { options = refl; writing = refl }

pub takes_both : (a b c : InlineWriter) (es fs : List Event) → Takes a es b → Takes b fs c → Takes a (es ++ fs) c
unfolding after_events
takes_both a b c es fs f g = record {
  options = g.options ∙ f.options;
  writing = g.writing ∙ ap (λ o. after_events o (writing_of b) fs) f.options ∙ ap (λ w. after_events a.options w fs) f.writing
      ∙ sym (fold-append (after_event a.options) (writing_of a) es fs);
}
