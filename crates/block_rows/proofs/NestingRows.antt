-- Rows of lines with a container too many, by computation: the limits 1, 2 and 3, as the whole text tells and as a reader does
-- that keeps the summary of the lines so far.
use Rattle.std.specs.Prelude.{replicate}
use Rattle.std.proofs.Common.{ℕ, List, ◌≡◌, [], ◌∷◌, ◌++◌, Option, Some, None, refl, codes}
use Rattle.block_rows.proofs.ReadText.{deep_line, refused}

abbrev deep_lines : List ℕ → List (Option ℕ)
deep_lines text = deep_line 1 text ∷ deep_line 2 text ∷ deep_line 3 text ∷ []

abbrev refused_lines : List ℕ → List (Option ℕ)
refused_lines text = refused 1 text ∷ refused 2 text ∷ refused 3 text ∷ []

abbrev TooDeep : List ℕ → List (Option ℕ) → Type 0
TooDeep text lines = (deep_lines text ≡ lines) × (refused_lines text ≡ lines)

-- no container
no_container : TooDeep (codes "a\n\n# b\n") (None ∷ None ∷ None ∷ [])
unfolding deep_line refused
no_container = (refl, refl)

-- one quote
one_quote : TooDeep (codes "> a\n> b\n") (None ∷ None ∷ None ∷ [])
unfolding deep_line refused
one_quote = (refl, refl)

-- quotes in one another on one line
two_quotes : TooDeep (codes "> > a\n") (Some 0 ∷ None ∷ None ∷ [])
unfolding deep_line refused
two_quotes = (refl, refl)

-- so many on one line, of both kinds
four_on_a_line : TooDeep (codes "> - > 1. a\n") (Some 0 ∷ Some 0 ∷ Some 0 ∷ [])
unfolding deep_line refused
four_on_a_line = (refl, refl)

-- a later item lies in no more than the first
siblings : TooDeep (codes "- a\n- b\n- c\n") (None ∷ None ∷ None ∷ [])
unfolding deep_line refused
siblings = (refl, refl)

-- an item that begins on a later line
item_in_item : TooDeep (codes "- a\n  - b\n    - c\n") (Some 1 ∷ Some 2 ∷ None ∷ [])
unfolding deep_line refused
item_in_item = (refl, refl)

-- behind blank lines
after_blank : TooDeep (codes "> - a\n>\n>   > b\n") (Some 0 ∷ Some 2 ∷ None ∷ [])
unfolding deep_line refused
after_blank = (refl, refl)

-- a quote that ended, and a deeper one
quote_again : TooDeep (codes "> a\n\n> b\n> > c\n") (Some 3 ∷ None ∷ None ∷ [])
unfolding deep_line refused
quote_again = (refl, refl)

-- deep, back, and deeper
back_and_down : TooDeep (codes "- - a\n- b\n  - - c\n") (Some 0 ∷ Some 2 ∷ None ∷ [])
unfolding deep_line refused
back_and_down = (refl, refl)

-- a lazy line begins nothing
lazy_line : TooDeep (codes "> > a\nb\n> > > c\n") (Some 0 ∷ Some 2 ∷ None ∷ [])
unfolding deep_line refused
lazy_line = (refl, refl)

-- an item behind an open paragraph ends the quotes
lazy_marker : TooDeep (codes "> > a\n- b\n  - - c\n") (Some 0 ∷ Some 2 ∷ None ∷ [])
unfolding deep_line refused
lazy_marker = (refl, refl)

-- an item that cannot interrupt a paragraph
not_interrupting : TooDeep (codes "> a\n> 2. b\n> 1. c\n") (Some 2 ∷ None ∷ None ∷ [])
unfolding deep_line refused
not_interrupting = (refl, refl)

-- an item with nothing behind its marker
empty_item : TooDeep (codes "-\n  - a\n") (Some 1 ∷ None ∷ None ∷ [])
unfolding deep_line refused
empty_item = (refl, refl)

-- and one that is over
over_empty_item : TooDeep (codes "-\n\n  - a\n    - b\n") (Some 3 ∷ None ∷ None ∷ [])
unfolding deep_line refused
over_empty_item = (refl, refl)

-- fenced code holds no container
fenced : TooDeep (codes "> ```\n> > a\n> ```\n> > b\n") (Some 3 ∷ None ∷ None ∷ [])
unfolding deep_line refused
fenced = (refl, refl)

-- nor does indented code
indented_code : TooDeep (codes "-     > a\n  > b\n") (Some 1 ∷ None ∷ None ∷ [])
unfolding deep_line refused
indented_code = (refl, refl)

-- nor an HTML block
html : TooDeep (codes "> <div>\n> - a\n>\n> - b\n") (Some 3 ∷ None ∷ None ∷ [])
unfolding deep_line refused
html = (refl, refl)

-- under a heading
heading_above : TooDeep (codes "# a\n> - # b\n>   > c\n") (Some 1 ∷ Some 2 ∷ None ∷ [])
unfolding deep_line refused
heading_above = (refl, refl)

-- a thematic break is no item
break_not_item : TooDeep (codes "> - - -\n> - a\n") (Some 1 ∷ None ∷ None ∷ [])
unfolding deep_line refused
break_not_item = (refl, refl)

-- tabs behind the markers
tab_behind : TooDeep (codes ">\t-\ta\n>\t\t> b\n") (Some 0 ∷ Some 1 ∷ None ∷ [])
unfolding deep_line refused
tab_behind = (refl, refl)

-- ordered items
numbers : TooDeep (codes "1. a\n   2. b\n\n   2. c\n      1. d\n") (Some 3 ∷ Some 4 ∷ None ∷ [])
unfolding deep_line refused
numbers = (refl, refl)

-- a quote ends a table
table_over : TooDeep (codes "| a |\n| - |\n| b |\n> - c\n>   - d\n") (Some 3 ∷ Some 4 ∷ None ∷ [])
unfolding deep_line refused
table_over = (refl, refl)

-- blank lines alone
blank_alone : TooDeep (codes "\n  \n\t\n") (None ∷ None ∷ None ∷ [])
unfolding deep_line refused
blank_alone = (refl, refl)

-- the first of several
second_unit : TooDeep (codes "> > > a\n\n- - - - b\n") (Some 0 ∷ Some 0 ∷ Some 2 ∷ [])
unfolding deep_line refused
second_unit = (refl, refl)

-- the greatest limit that a reader takes
greatest_kept : refused 256 (replicate 256 62 ++ codes "x") ≡ None
unfolding refused
greatest_kept = refl

past_greatest_kept : refused 256 (replicate 257 62 ++ codes "x") ≡ Some 0
unfolding refused
past_greatest_kept = refl
