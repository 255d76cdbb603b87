-- Rows of the later items of lists, by computation: for each top-level block their lines in it, and how many inline texts stand before each; then with how many definitions do, and with what makes the list loose.
use Rattle.std.proofs.Common.{◌≡◌, true, false, [], ◌∷◌, refl, codes}
use Rattle.edit_rows.proofs.ReadJoins.{joins_read, join, marks_read, mark, own_read}

-- a tight list
tight : joins_read (codes "- a" ∷ codes "- b" ∷ codes "- c" ∷ []) ≡ (join 1 1 ∷ join 2 2 ∷ []) ∷ []
unfolding joins_read
tight = refl

-- a loose one
loose : joins_read (codes "- a" ∷ [] ∷ codes "- b" ∷ [] ∷ codes "- c" ∷ []) ≡ (join 2 1 ∷ join 4 2 ∷ []) ∷ []
unfolding joins_read
loose = refl

-- an ordered one
ordered : joins_read (codes "3. a" ∷ codes "9. b" ∷ codes "2. c" ∷ []) ≡ (join 1 1 ∷ join 2 2 ∷ []) ∷ []
unfolding joins_read
ordered = refl

-- three lists
parted : joins_read (codes "- a" ∷ codes "- b" ∷ codes "* c" ∷ codes "* d" ∷ codes "1. e" ∷ codes "2) f" ∷ []) ≡ (join 1 1 ∷ []) ∷ (join 1 1 ∷ []) ∷ [] ∷ [] ∷ []
unfolding joins_read
parted = refl

-- several texts in an item
texts : joins_read (codes "- a" ∷ [] ∷ codes "  b" ∷ codes "- | c | d |" ∷ codes "  | - | - |" ∷ codes "- e" ∷ []) ≡ (join 3 2 ∷ join 5 4 ∷ []) ∷ []
unfolding joins_read
texts = refl

-- items that give no text
no_texts : joins_read (codes "-" ∷ codes "- ```" ∷ codes "  x" ∷ codes "  ```" ∷ codes "- [a]: /u" ∷ codes "- b" ∷ []) ≡ (join 1 0 ∷ join 4 0 ∷ join 5 0 ∷ []) ∷ []
unfolding joins_read
no_texts = refl

-- lists and quotes in items
nested : joins_read (codes "- a" ∷ codes "  - b" ∷ codes "  - c" ∷ codes "- > d" ∷ codes "  > - e" ∷ codes "- f" ∷ []) ≡ (join 3 3 ∷ join 5 5 ∷ []) ∷ []
unfolding joins_read
nested = refl

-- items in a quote
in_a_quote : joins_read (codes "> - a" ∷ codes "> - b" ∷ []) ≡ [] ∷ []
unfolding joins_read
in_a_quote = refl

-- blocks before and behind
behind_others : joins_read (codes "# h" ∷ [] ∷ codes "x" ∷ [] ∷ codes "- a" ∷ codes "- b" ∷ [] ∷ codes "y" ∷ []) ≡ [] ∷ [] ∷ (join 1 1 ∷ []) ∷ [] ∷ []
unfolding joins_read
behind_others = refl

-- an item of two lines that begins blank
blank_item : joins_read (codes "-" ∷ codes "  a" ∷ codes "- b" ∷ codes "-" ∷ [] ∷ codes "- c" ∷ []) ≡ (join 2 1 ∷ join 3 2 ∷ join 5 2 ∷ []) ∷ []
unfolding joins_read
blank_item = refl

-- ---- texts and definitions before each (CommonMark 4.7)

-- a definition alone in an item, and one before a paragraph
marks_defined : marks_read (codes "- [x]: /u" ∷ codes "- b" ∷ codes "- [y]: /v" ∷ codes "  c" ∷ codes "- d" ∷ []) ≡ mark 1 0 1 false ∷ mark 2 1 1 false ∷ mark 4 2 2 false ∷ []
unfolding marks_read
marks_defined = refl

-- definitions in a quote and in a list of an item, which are its own
marks_nested : marks_read (codes "1. > [x]: /u" ∷ codes "   - [y]: /v" ∷ codes "   - a" ∷ codes "2. b" ∷ codes "3. c" ∷ []) ≡ mark 3 1 2 false ∷ mark 4 2 2 false ∷ []
unfolding marks_read
marks_nested = refl

-- what stands before the list is not of its unit, and each list is counted by itself
marks_parted : marks_read (codes "[x]: /u" ∷ codes "- a" ∷ codes "- [y]: /v" ∷ codes "- b" ∷ codes "* c" ∷ codes "* d" ∷ []) ≡ mark 1 1 0 false ∷ mark 2 1 1 false ∷ mark 1 1 0 false ∷ []
unfolding marks_read
marks_parted = refl

-- a heading, a row of a table and a code block of an item, of which the last gives no text
marks_leaves : marks_read (codes "- # h" ∷ codes "  | q |" ∷ codes "  | - |" ∷ [] ∷ codes "      k" ∷ codes "- a" ∷ []) ≡ mark 5 2 0 true ∷ []
unfolding marks_read
marks_leaves = refl

-- a gap before an item, one between the blocks of an item, and one in a list of an item, which is that list's (CommonMark 5.3)
marks_loose : marks_read (codes "- a" ∷ [] ∷ codes "- b" ∷ codes "- c" ∷ [] ∷ codes "  d" ∷ codes "- e" ∷ codes "- - f" ∷ [] ∷ codes "  - g" ∷ codes "- h" ∷ [])
    ≡ mark 2 1 0 true ∷ mark 3 2 0 false ∷ mark 6 4 0 true ∷ mark 7 5 0 false ∷ mark 10 7 0 false ∷ []
unfolding marks_read
marks_loose = refl

-- ---- unit by unit (CommonMark 5.2)

-- blocks before a list and behind it, and blank lines, which are of the unit before them
own_behind_others : own_read ([] ∷ codes "# h" ∷ [] ∷ codes "- a" ∷ codes "  b" ∷ codes "- c" ∷ [] ∷ codes "y" ∷ []) ≡ [] ∷ (2 ∷ []) ∷ [] ∷ []
unfolding own_read
own_behind_others = refl

-- two lists, of which each is counted from its own first line
own_of_two : own_read (codes "- a" ∷ codes "- b" ∷ [] ∷ codes "* c" ∷ codes "* d" ∷ codes "* e" ∷ []) ≡ (1 ∷ []) ∷ (1 ∷ 2 ∷ []) ∷ []
unfolding own_read
own_of_two = refl
