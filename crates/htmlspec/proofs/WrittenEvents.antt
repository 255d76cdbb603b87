-- What the writer of inlines writes of several events.
use Rattle.std.proofs.Common.{◌≡◌, ℕ, List, [], ◌∷◌, ◌++◌, sym, ap, ◌∙◌, append_assoc, append-nil}
use Rattle.mdtext.specs.HtmlEscapes.{escaped, escaped_byte}
use Rattle.inlinespec.specs.InlineEvents.{written}
use Rattle.htmlspec.specs.declared.options.Options.{Options}
use Rattle.htmlspec.specs.InlineWriting.{Writing, writing, shows, after_events}

pub shows_nothing : (w : Writing) → shows w [] ≡ w
shows_nothing w = ap (λ h. writing h w.ends w.in_image) (append-nil w.html)

pub shows_more : (w : Writing) (one two : List ℕ) → shows (shows w one) two ≡ shows w (one ++ two)
shows_more w one two = ap (λ h. writing h w.ends w.in_image) (append_assoc w.html one two)

pub text_shown : (o : Options) (w : Writing) (s : List ℕ) → after_events o w (written s) ≡ shows w (escaped s)
unfolding after_events
text_shown o w [] = sym (shows_nothing w)
text_shown o w (b ∷ bs) = text_shown o (shows w (escaped_byte b)) bs ∙ shows_more w (escaped_byte b) (escaped bs)

-- a beginning, an inside and an end, as they are put together
pub tags_whole : (html a t b inside c : List ℕ) → ((html ++ ((a ++ t) ++ b)) ++ inside) ++ ((c ++ t) ++ b) ≡ html ++ ((((((a ++ t) ++ b) ++ inside) ++ c) ++ t) ++ b)
tags_whole html a t b inside c = simp append_assoc
