-- Strikethrough by two tildes alone: the trees of the HTML that cmark-gfm 0.29.0.gfm.6 writes with `--strikethrough-double-tilde`.
use Rattle.std.proofs.Common.{◌≡◌, [], ◌∷◌, refl, codes}
use Rattle.inlinespec.specs.InlineTree.{inlines_of, text, emph, strike, link}
use Rattle.inline_rows.specs.Opened.{inline_words}
use Rattle.inline_rows.specs.Reads.{reads_double_tilde}

one_is_text : reads_double_tilde (codes "~a~ ~~b~~") ≡ inlines_of (text (codes "~a~ ") ∷ strike (inlines_of (text (codes "b") ∷ [])) ∷ [])
unfolding inline_words
one_is_text = refl

worked : reads_double_tilde (codes "~~Hi~~ Hello, ~there~ world!") ≡ inlines_of (strike (inlines_of (text (codes "Hi") ∷ [])) ∷ text (codes " Hello, ~there~ world!") ∷ [])
unfolding inline_words
worked = refl

one_inside_of_two : reads_double_tilde (codes "x ~~a~b~~ y") ≡ inlines_of (text (codes "x ") ∷ strike (inlines_of (text (codes "a~b") ∷ [])) ∷ text (codes " y") ∷ [])
unfolding inline_words
one_inside_of_two = refl

two_behind_one : reads_double_tilde (codes "~a ~~b~ c~~") ≡ inlines_of (text (codes "~a ") ∷ strike (inlines_of (text (codes "b~ c") ∷ [])) ∷ [])
unfolding inline_words
two_behind_one = refl

-- a pair of one is none, and what opens stands behind what closes
one_and_two : reads_double_tilde (codes "~a~~ ~~b~") ≡ inlines_of (text (codes "~a~~ ~~b~") ∷ [])
unfolding inline_words
one_and_two = refl

three_do_nothing : reads_double_tilde (codes "a ~~~b~~~") ≡ inlines_of (text (codes "a ~~~b~~~") ∷ [])
unfolding inline_words
three_do_nothing = refl

one_in_emphasis : reads_double_tilde (codes "*a ~b* ~~c ~d~~") ≡ inlines_of (emph (inlines_of (text (codes "a ~b") ∷ [])) ∷ text (codes " ") ∷ strike (inlines_of (text (codes "c ~d") ∷ [])) ∷ [])
unfolding inline_words
one_in_emphasis = refl

one_in_a_link : reads_double_tilde (codes "[~a~](/u) ~") ≡ inlines_of (link (codes "/u") [] (inlines_of (text (codes "~a~") ∷ [])) ∷ text (codes " ~") ∷ [])
unfolding inline_words
one_in_a_link = refl

one_alone : reads_double_tilde (codes "~") ≡ inlines_of (text (codes "~") ∷ [])
unfolding inline_words
one_alone = refl
