-- Code spans (CommonMark 6.1).
use Rattle.std.proofs.Common.{◌≡◌, [], ◌∷◌, refl, codes}
use Rattle.inlinespec.specs.InlineTree.{inlines_of, text, code}
use Rattle.inline_rows.specs.Opened.{inline_words}
use Rattle.inline_rows.specs.Reads.{reads}

code_span : reads (codes "a `b` c") ≡ inlines_of (text (codes "a ") ∷ code (codes "b") ∷ text (codes " c") ∷ [])
unfolding inline_words
code_span = refl

-- the closing string has the opening one's length
longer_strings : reads (codes "``a`b``") ≡ inlines_of (code (codes "a`b") ∷ [])
unfolding inline_words
longer_strings = refl

-- one space goes from both ends
one_space_off : reads (codes "`  a `") ≡ inlines_of (code (codes " a") ∷ [])
unfolding inline_words
one_space_off = refl

-- but not where only one has it
space_at_one_end : reads (codes "` a`") ≡ inlines_of (code (codes " a") ∷ [])
unfolding inline_words
space_at_one_end = refl

-- nor from spaces alone
only_spaces : reads (codes "`  `") ≡ inlines_of (code (codes "  ") ∷ [])
unfolding inline_words
only_spaces = refl

-- a line ending is a space
line_ending_in_code : reads (codes "`a\nb \n`") ≡ inlines_of (code (codes "a b  ") ∷ [])
unfolding inline_words
line_ending_in_code = refl

-- a backslash is itself
no_escape_in_code : reads (codes "`a\\`b") ≡ inlines_of (code (codes "a\\") ∷ text (codes "b") ∷ [])
unfolding inline_words
no_escape_in_code = refl

-- and so is a reference
no_reference_in_code : reads (codes "`&amp;`") ≡ inlines_of (code (codes "&amp;") ∷ [])
unfolding inline_words
no_reference_in_code = refl

-- without a closing string the backticks are text, all of them
not_closed : reads (codes "```a``") ≡ inlines_of (text (codes "```a``") ∷ [])
unfolding inline_words
not_closed = refl

-- code comes before emphasis
code_before_emphasis : reads (codes "*a`*` ") ≡ inlines_of (text (codes "*a") ∷ code (codes "*") ∷ text (codes " ") ∷ [])
unfolding inline_words
code_before_emphasis = refl

-- and before brackets
code_before_brackets : reads (codes "[a`](b)`") ≡ inlines_of (text (codes "[a") ∷ code (codes "](b)") ∷ [])
unfolding inline_words
code_before_brackets = refl
