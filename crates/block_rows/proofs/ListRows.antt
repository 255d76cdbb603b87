-- Rows of lists and their tightness (CommonMark 5.3), by computation.
use Rattle.std.proofs.Common.{◌≡◌, [], ◌∷◌, None, refl, codes, true, false}
use Rattle.blockspec.specs.BlockTree.{bullet, ordered, paragraph, code_block, html_block, block_quote, list, blocks_of, items_of}
use Rattle.block_rows.proofs.ReadText.{units_read, found, defines}

-- no gap
tight : units_read (codes "- foo\n-\n- bar\n") ≡
    found 0 3 (list (bullet 45) true (items_of (blocks_of (paragraph 0 None ∷ []) ∷ blocks_of [] ∷ blocks_of (paragraph 1 None ∷ []) ∷ [])) ∷ []) [] (codes "foo" ∷ codes "bar" ∷ []) ∷ []
unfolding units_read
tight = refl

-- a gap before an item
loose : units_read (codes "- a\n- b\n\n- c\n") ≡
    found 0 4 (list (bullet 45) false (items_of (blocks_of (paragraph 0 None ∷ []) ∷ blocks_of (paragraph 1 None ∷ []) ∷ blocks_of (paragraph 2 None ∷ []) ∷ [])) ∷ []) [] (codes "a" ∷ codes "b" ∷ codes "c" ∷ []) ∷ []
unfolding units_read
loose = refl

-- a gap between the blocks of an item
loose_child : units_read (codes "- a\n\n  b\n- c\n") ≡
    found 0 4 (list (bullet 45) false (items_of (blocks_of (paragraph 0 None ∷ paragraph 1 None ∷ []) ∷ blocks_of (paragraph 2 None ∷ []) ∷ [])) ∷ []) [] (codes "a" ∷ codes "b" ∷ codes "c" ∷ []) ∷ []
unfolding units_read
loose_child = refl

-- a gap behind a list is none of it
gap_after : units_read (codes "- a\n- b\n\nc\n") ≡
    found 0 3 (list (bullet 45) true (items_of (blocks_of (paragraph 0 None ∷ []) ∷ blocks_of (paragraph 1 None ∷ []) ∷ [])) ∷ []) [] (codes "a" ∷ codes "b" ∷ []) ∷ found 3 1 (paragraph 0 None ∷ []) [] (codes "c" ∷ []) ∷ []
unfolding units_read
gap_after = refl

-- a gap in a list inside is none of the outer one
gap_deeper : units_read (codes "- a\n  - b\n\n    c\n- d\n") ≡
    found 0 5 (list (bullet 45) true (items_of (blocks_of (paragraph 0 None ∷ list (bullet 45) false (items_of (blocks_of (paragraph 1 None ∷ paragraph 2 None ∷ []) ∷ [])) ∷ []) ∷ blocks_of (paragraph 3 None ∷ []) ∷ [])) ∷ []) [] (codes "a" ∷ codes "b" ∷ codes "c" ∷ codes "d" ∷ []) ∷ []
unfolding units_read
gap_deeper = refl

-- but one before it is
gap_before_inner : units_read (codes "- a\n\n  - b\n") ≡
    found 0 3 (list (bullet 45) false (items_of (blocks_of (paragraph 0 None ∷ list (bullet 45) true (items_of (blocks_of (paragraph 1 None ∷ []) ∷ [])) ∷ []) ∷ [])) ∷ []) [] (codes "a" ∷ codes "b" ∷ []) ∷ []
unfolding units_read
gap_before_inner = refl

-- and one behind it, before the next item
gap_of_inner : units_read (codes "- a\n  - b\n\n- c\n") ≡
    found 0 4 (list (bullet 45) false (items_of (blocks_of (paragraph 0 None ∷ list (bullet 45) true (items_of (blocks_of (paragraph 1 None ∷ []) ∷ [])) ∷ []) ∷ blocks_of (paragraph 2 None ∷ []) ∷ [])) ∷ []) [] (codes "a" ∷ codes "b" ∷ codes "c" ∷ []) ∷ []
unfolding units_read
gap_of_inner = refl

-- a blank line of a quote inside is no gap
quote_no_gap : units_read (codes "* a\n  > b\n  >\n* c\n") ≡
    found 0 4 (list (bullet 42) true (items_of (blocks_of (paragraph 0 None ∷ block_quote (blocks_of (paragraph 1 None ∷ [])) ∷ []) ∷ blocks_of (paragraph 2 None ∷ []) ∷ [])) ∷ []) [] (codes "a" ∷ codes "b" ∷ codes "c" ∷ []) ∷ []
unfolding units_read
quote_no_gap = refl

-- blank lines of fenced code are no gaps
fence_no_gap : units_read (codes "- a\n- ```\n  b\n\n\n  ```\n- c\n") ≡
    found 0 7 (list (bullet 45) true (items_of (blocks_of (paragraph 0 None ∷ []) ∷ blocks_of (code_block [] [] (codes "b\n\n\n") ∷ []) ∷ blocks_of (paragraph 1 None ∷ []) ∷ [])) ∷ []) [] (codes "a" ∷ codes "c" ∷ []) ∷ []
unfolding units_read
fence_no_gap = refl

-- nor is the last one of a fence that its container ends
fence_open_no_gap : units_read (codes "- ```\n\n- b\n") ≡
    found 0 3 (list (bullet 45) true (items_of (blocks_of (code_block [] [] (codes "\n") ∷ []) ∷ blocks_of (paragraph 0 None ∷ []) ∷ [])) ∷ []) [] (codes "b" ∷ []) ∷ []
unfolding units_read
fence_open_no_gap = refl

-- nor of an HTML block
html_no_gap : units_read (codes "- <!--\n\n- b\n") ≡
    found 0 3 (list (bullet 45) true (items_of (blocks_of (html_block (codes "<!--\n") ∷ []) ∷ blocks_of (paragraph 0 None ∷ []) ∷ [])) ∷ []) [] (codes "b" ∷ []) ∷ []
unfolding units_read
html_no_gap = refl

-- a blank line that ends the container of the fence is one
fence_gap : units_read (codes "- > ```\n\n- b\n") ≡
    found 0 3 (list (bullet 45) false (items_of (blocks_of (block_quote (blocks_of (code_block [] [] [] ∷ [])) ∷ []) ∷ blocks_of (paragraph 0 None ∷ []) ∷ [])) ∷ []) [] (codes "b" ∷ []) ∷ []
unfolding units_read
fence_gap = refl

-- a choice of ours: a definition counts as a child
definition_gap : units_read (codes "- a\n\n  [b]: /u\n- c\n") ≡
    found 0 4 (list (bullet 45) false (items_of (blocks_of (paragraph 0 None ∷ []) ∷ blocks_of (paragraph 1 None ∷ []) ∷ [])) ∷ []) (defines (codes "b") (codes "/u") [] ∷ []) (codes "a" ∷ codes "c" ∷ []) ∷ []
unfolding units_read
definition_gap = refl

-- an empty item, and a gap behind it
empty_gap : units_read (codes "-\n\n- b\n") ≡
    found 0 3 (list (bullet 45) false (items_of (blocks_of [] ∷ blocks_of (paragraph 0 None ∷ []) ∷ [])) ∷ []) [] (codes "b" ∷ []) ∷ []
unfolding units_read
empty_gap = refl

-- another mark begins another list
marks : units_read (codes "- a\n+ b\n* c\n") ≡
    found 0 1 (list (bullet 45) true (items_of (blocks_of (paragraph 0 None ∷ []) ∷ [])) ∷ []) [] (codes "a" ∷ []) ∷ found 1 1 (list (bullet 43) true (items_of (blocks_of (paragraph 0 None ∷ []) ∷ [])) ∷ []) [] (codes "b" ∷ []) ∷ found 2 1 (list (bullet 42) true (items_of (blocks_of (paragraph 0 None ∷ []) ∷ [])) ∷ []) [] (codes "c" ∷ []) ∷ []
unfolding units_read
marks = refl

-- another delimiter too; the number of later items does not matter
delimiters : units_read (codes "3. a\n4. b\n1) c\n9) d\n") ≡
    found 0 2 (list (ordered 46 3) true (items_of (blocks_of (paragraph 0 None ∷ []) ∷ blocks_of (paragraph 1 None ∷ []) ∷ [])) ∷ []) [] (codes "a" ∷ codes "b" ∷ []) ∷ found 2 2 (list (ordered 41 1) true (items_of (blocks_of (paragraph 0 None ∷ []) ∷ blocks_of (paragraph 1 None ∷ []) ∷ [])) ∷ []) [] (codes "c" ∷ codes "d" ∷ []) ∷ []
unfolding units_read
delimiters = refl

-- a bullet and a number
bullets_and_numbers : units_read (codes "- a\n1. b\n") ≡
    found 0 1 (list (bullet 45) true (items_of (blocks_of (paragraph 0 None ∷ []) ∷ [])) ∷ []) [] (codes "a" ∷ []) ∷ found 1 1 (list (ordered 46 1) true (items_of (blocks_of (paragraph 0 None ∷ []) ∷ [])) ∷ []) [] (codes "b" ∷ []) ∷ []
unfolding units_read
bullets_and_numbers = refl

-- anything between them parts two lists
between : units_read (codes "- a\n<!-- -->\n- b\n") ≡
    found 0 1 (list (bullet 45) true (items_of (blocks_of (paragraph 0 None ∷ []) ∷ [])) ∷ []) [] (codes "a" ∷ []) ∷ found 1 1 (html_block (codes "<!-- -->") ∷ []) [] [] ∷ found 2 1 (list (bullet 45) true (items_of (blocks_of (paragraph 0 None ∷ []) ∷ [])) ∷ []) [] (codes "b" ∷ []) ∷ []
unfolding units_read
between = refl

-- blank lines do not
blank_lines : units_read (codes "-\n\n\n\n- b\n") ≡
    found 0 5 (list (bullet 45) false (items_of (blocks_of [] ∷ blocks_of (paragraph 0 None ∷ []) ∷ [])) ∷ []) [] (codes "b" ∷ []) ∷ []
unfolding units_read
blank_lines = refl

-- a definition does
definition_between : units_read (codes "-\n\n[a]: /u\n\n- b\n") ≡
    found 0 2 (list (bullet 45) true (items_of (blocks_of [] ∷ [])) ∷ []) [] [] ∷ found 2 2 [] (defines (codes "a") (codes "/u") [] ∷ []) [] ∷ found 4 1 (list (bullet 45) true (items_of (blocks_of (paragraph 0 None ∷ []) ∷ [])) ∷ []) [] (codes "b" ∷ []) ∷ []
unfolding units_read
definition_between = refl
