-- Rows of what an edit reads again, by computation.
use Rattle.std.proofs.Common.{◌≡◌, [], ◌∷◌, ◌++◌, refl, codes}
use Rattle.mdsource.specs.Calls.{edit}
use Rattle.edit_rows.proofs.ReadEdits.{answers, source_of, plain, answer}

-- a fence that is not closed any more takes all behind it
fence_opened : answer plain (source_of (codes "```" ∷ codes "a" ∷ codes "```" ∷ [] ∷ codes "# t" ∷ []) []) (edit 2 1 []) ≡ answers 0 4 0 2 1 [] 0 []
unfolding answer
fence_opened = refl

-- and gives it back
fence_closed : answer plain (source_of (codes "```" ∷ codes "a" ∷ [] ∷ codes "# t" ∷ []) []) (edit 2 0 (codes "```" ∷ [])) ≡ answers 0 5 0 1 2 [] 1 []
unfolding answer
fence_closed = refl

-- two lists become one
lists_joined : answer plain (source_of (codes "- a" ∷ codes "<!-- -->" ∷ codes "- b" ∷ []) []) (edit 1 1 []) ≡ answers 0 2 0 3 1 [] 2 []
unfolding answer
lists_joined = refl

-- and two again
lists_parted : answer plain (source_of (codes "- a" ∷ codes "- b" ∷ []) []) (edit 1 0 (codes "<!-- -->" ∷ [])) ≡ answers 0 3 0 1 3 [] 2 []
unfolding answer
lists_parted = refl

-- a paragraph with a table behind it is one unit: its first line goes
paragraph_over_table : answer plain (source_of (codes "foo" ∷ codes "| a |" ∷ codes "| - |" ∷ codes "| b |" ∷ []) []) (edit 0 1 []) ≡
    answers 0 3 0 1 1 [] 2 []
unfolding answer
paragraph_over_table = refl

-- an underline makes a heading of the line above the edit
underline : answer plain (source_of (codes "foo" ∷ codes "# x" ∷ []) []) (edit 1 0 (codes "---" ∷ [])) ≡ answers 0 2 0 1 1 [] 1 []
unfolding answer
underline = refl

-- a line in the middle: the paragraph above is read too
letter : answer plain (source_of (codes "a" ∷ [] ∷ codes "b" ∷ [] ∷ codes "c" ∷ []) []) (edit 2 1 (codes "bb" ∷ [])) ≡ answers 0 4 0 2 2 [] 2 []
unfolding answer
letter = refl

-- a blank line more
blank_line_in : answer plain (source_of (codes "a" ∷ [] ∷ codes "bb" ∷ [] ∷ codes "c" ∷ []) []) (edit 3 0 ([] ∷ [])) ≡ answers 2 5 1 1 1 [] 1 []
unfolding answer
blank_line_in = refl

-- and one less
blank_line_out : answer plain (source_of (codes "a" ∷ [] ∷ codes "bb" ∷ [] ∷ [] ∷ codes "c" ∷ []) []) (edit 3 1 []) ≡ answers 2 4 1 1 1 [] 1 []
unfolding answer
blank_line_out = refl

-- the blank line between two paragraphs goes
paragraphs_joined : answer plain (source_of (codes "a" ∷ [] ∷ codes "bb" ∷ [] ∷ codes "c" ∷ []) []) (edit 1 1 []) ≡ answers 0 3 0 2 1 [] 1 []
unfolding answer
paragraphs_joined = refl

-- at the front no unit begins above
front : answer plain (source_of (codes "a" ∷ [] ∷ codes "b" ∷ [] ∷ codes "c" ∷ []) []) (edit 0 1 (codes "# a" ∷ [])) ≡ answers 0 2 0 1 1 [] 1 []
unfolding answer
front = refl

-- at the end
end : answer plain (source_of (codes "# a" ∷ [] ∷ codes "b" ∷ [] ∷ codes "c" ∷ []) []) (edit 5 0 ([] ∷ codes "d" ∷ [])) ≡ answers 4 7 2 1 2 [] 2 []
unfolding answer
end = refl

-- all lines go
all_gone : answer plain (source_of (codes "# a" ∷ [] ∷ codes "b" ∷ [] ∷ codes "c" ∷ [] ∷ codes "d" ∷ []) []) (edit 0 7 []) ≡ answers 0 0 0 4 0 [] 0 []
unfolding answer
all_gone = refl

-- an edit of the empty text
empty : answer plain (source_of [] []) (edit 0 0 (codes "a" ∷ [] ∷ codes "b" ∷ [])) ≡ answers 0 3 0 0 2 [] 2 []
unfolding answer
empty = refl

-- an edit that changes nothing
nothing : answer plain (source_of (codes "a" ∷ [] ∷ codes "b" ∷ []) []) (edit 1 0 []) ≡ answers 0 2 0 1 1 [] 1 []
unfolding answer
nothing = refl

-- a line is replaced by itself
same_line : answer plain (source_of (codes "a" ∷ [] ∷ codes "b" ∷ []) []) (edit 0 1 (codes "a" ∷ [])) ≡ answers 0 2 0 1 1 [] 1 []
unfolding answer
same_line = refl

-- indented code that a line of text parts
indented_code : answer plain (source_of (codes "    a" ∷ [] ∷ [] ∷ codes "    b" ∷ []) []) (edit 1 1 (codes "x" ∷ [])) ≡ answers 0 4 0 1 3 [] 1 []
unfolding answer
indented_code = refl

-- a lazy line becomes a paragraph of its own, where a blank line stands before it
lazy : answer plain (source_of (codes "> a" ∷ codes "b" ∷ codes "> c" ∷ []) []) (edit 1 0 ([] ∷ [])) ≡ answers 0 4 0 1 3 [] 3 []
unfolding answer
lazy = refl

-- and lazy again
lazy_again : answer plain (source_of (codes "> a" ∷ [] ∷ codes "b" ∷ codes "> c" ∷ []) []) (edit 1 1 []) ≡ answers 0 3 0 3 1 [] 1 []
unfolding answer
lazy_again = refl

-- an HTML block is gone
html_begins : answer plain (source_of (codes "<div>" ∷ [] ∷ codes "*a*" ∷ []) []) (edit 0 1 (codes "div" ∷ [])) ≡ answers 0 2 0 1 1 [] 1 []
unfolding answer
html_begins = refl

-- a comment that is not closed takes the rest
html_comment : answer plain (source_of (codes "div" ∷ [] ∷ codes "*a*" ∷ []) []) (edit 0 0 (codes "<!--" ∷ [])) ≡ answers 0 4 0 2 1 [] 0 []
unfolding answer
html_comment = refl

-- the number of a list changes
start_number : answer plain (source_of (codes "1. a" ∷ codes "2. b" ∷ []) []) (edit 0 1 (codes "3. a" ∷ [])) ≡ answers 0 2 0 1 1 [] 2 []
unfolding answer
start_number = refl

-- with another delimiter the second item begins a list of its own
delimiter : answer plain (source_of (codes "3. a" ∷ codes "2. b" ∷ []) []) (edit 1 1 (codes "2) b" ∷ [])) ≡ answers 0 2 0 1 2 [] 2 []
unfolding answer
delimiter = refl

-- a blank line between items goes: the list is tight
loose_to_tight : answer plain (source_of (codes "- a" ∷ [] ∷ codes "- b" ∷ codes "- c" ∷ []) []) (edit 1 1 []) ≡ answers 0 3 0 1 1 [] 3 []
unfolding answer
loose_to_tight = refl

-- an item more
item_more : answer plain (source_of (codes "- a" ∷ codes "- b" ∷ codes "- c" ∷ []) []) (edit 3 0 (codes "- d" ∷ [])) ≡ answers 0 4 0 1 1 [] 4 []
unfolding answer
item_more = refl

-- a definition behind an item that begins blank parts the list
blank_item : answer plain (source_of (codes "-" ∷ [] ∷ [] ∷ [] ∷ codes "- b" ∷ []) []) (edit 2 1 (codes "[a]: /u" ∷ [])) ≡
    answers 0 5 0 1 3 [] 1 (codes "a" ∷ [])
unfolding answer
blank_item = refl

-- a heading goes
heading_gone : answer plain (source_of (codes "# a" ∷ codes "# b" ∷ codes "# c" ∷ []) []) (edit 1 1 []) ≡ answers 0 1 0 2 1 [] 1 []
unfolding answer
heading_gone = refl

-- one comes back
heading_in : answer plain (source_of (codes "# a" ∷ codes "# c" ∷ []) []) (edit 1 0 (codes "## b" ∷ [])) ≡ answers 0 2 0 1 2 [] 2 []
unfolding answer
heading_in = refl

-- characters of more bytes than one
other_characters : answer plain (source_of (((195 ∷ 164 ∷ []) ++ codes "*b*") ∷ [] ∷ ((228 ∷ 184 ∷ 173 ∷ 230 ∷ 150 ∷ 135 ∷ [])) ∷ []) []) (edit 0 1 (((195 ∷ 164 ∷ []) ++ codes "**b**" ++ (195 ∷ 182 ∷ [])) ∷ [])) ≡
    answers 0 2 0 1 1 [] 1 []
unfolding answer
other_characters = refl
