-- Line breaks and text (CommonMark 6.7 to 6.9).
use Rattle.std.proofs.Common.{◌≡◌, [], ◌∷◌, refl, codes}
use Rattle.inlinespec.specs.InlineTree.{inlines_of, text, code, soft, hard, emph}
use Rattle.inline_rows.specs.Opened.{inline_words}
use Rattle.inline_rows.specs.Reads.{reads}

-- spaces beside it are dropped
soft_break : reads (codes "a \n  b") ≡ inlines_of (text (codes "a") ∷ soft ∷ text (codes "b") ∷ [])
unfolding inline_words
soft_break = refl

-- two spaces make it a hard one
hard_by_spaces : reads (codes "a  \n b") ≡ inlines_of (text (codes "a") ∷ hard ∷ text (codes "b") ∷ [])
unfolding inline_words
hard_by_spaces = refl

-- and a backslash
hard_by_backslash : reads (codes "a\\\n  b") ≡ inlines_of (text (codes "a") ∷ hard ∷ text (codes "b") ∷ [])
unfolding inline_words
hard_by_backslash = refl

-- an escaped backslash does not
escaped_backslash_and_break : reads (codes "a\\\\\nb") ≡ inlines_of (text (codes "a\\") ∷ soft ∷ text (codes "b") ∷ [])
unfolding inline_words
escaped_backslash_and_break = refl

-- a tab stays
tab_before_break : reads (codes "a\t\nb") ≡ inlines_of (text (codes "a\t") ∷ soft ∷ text (codes "b") ∷ [])
unfolding inline_words
tab_before_break = refl

-- the end of the text is no break
end_of_text : reads (codes "a  ") ≡ inlines_of (text (codes "a  ") ∷ [])
unfolding inline_words
end_of_text = refl

break_in_emphasis : reads (codes "*a\nb*") ≡ inlines_of (emph (inlines_of (text (codes "a") ∷ soft ∷ text (codes "b") ∷ [])) ∷ [])
unfolding inline_words
break_in_emphasis = refl

worked_breaks : reads (codes "a  \nb\\\nc") ≡ inlines_of (text (codes "a") ∷ hard ∷ text (codes "b") ∷ hard ∷ text (codes "c") ∷ [])
unfolding inline_words
worked_breaks = refl

-- spaces inside a line stay
spaces_inside : reads (codes "a   b") ≡ inlines_of (text (codes "a   b") ∷ [])
unfolding inline_words
spaces_inside = refl

worked_cell_code : reads (codes "b `|` az") ≡ inlines_of (text (codes "b ") ∷ code (codes "|") ∷ text (codes " az") ∷ [])
unfolding inline_words
worked_cell_code = refl

-- what is no definition is text
definition_too_many : reads (codes "[foo]: /url \"title\" ok") ≡ inlines_of (text (codes "[foo]: /url \"title\" ok") ∷ [])
unfolding inline_words
definition_too_many = refl
