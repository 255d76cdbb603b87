-- Rows of units, by computation, as a reader finds them that goes over the lines and keeps nothing but their summary.
use Rattle.std.proofs.Common.{◌≡◌, [], ◌∷◌, Some, None, refl, codes, true, false}
use Rattle.mdscan.specs.declared.delimiter_rows.Align.TheVariants.{Plain, Center}
use Rattle.blockspec.specs.BlockTree.{bullet, ordered, paragraph, heading, thematic_break, code_block, html_block, block_quote, list, table, blocks_of, items_of}
use Rattle.block_rows.proofs.ReadText.{units_kept, found, defines}

-- lines of a paragraph, with indentation and a lazy one
text : units_kept 64 (codes "a\n   b\n       c\n> d\ne\n") ≡
    found 0 3 (paragraph 0 None ∷ []) [] (codes "a\nb\nc" ∷ []) ∷ found 3 2 (block_quote (blocks_of (paragraph 0 None ∷ [])) ∷ []) [] (codes "d\ne" ∷ []) ∷ []
unfolding units_kept
text = refl

-- an underline below several lines, behind a definition
heading_below : units_kept 64 (codes "[x]: /u\na\nb\n===\nc\n") ≡
    found 0 4 (heading 1 0 ∷ []) (defines (codes "x") (codes "/u") [] ∷ []) (codes "a\nb" ∷ []) ∷ found 4 1 (paragraph 0 None ∷ []) [] (codes "c" ∷ []) ∷ []
unfolding units_kept
heading_below = refl

-- an underline below definitions alone is text
definition_alone : units_kept 64 (codes "[x]: /u\n===\n") ≡
    found 0 2 (paragraph 0 None ∷ []) (defines (codes "x") (codes "/u") [] ∷ []) (codes "===" ∷ []) ∷ []
unfolding units_kept
definition_alone = refl

-- an underline is tried before a thematic break
underline_or_break : units_kept 64 (codes "a\n---\n---\n") ≡ found 0 2 (heading 2 0 ∷ []) [] (codes "a" ∷ []) ∷ found 2 1 (thematic_break ∷ []) [] [] ∷ []
unfolding units_kept
underline_or_break = refl

-- a table below a text; a row too short and one too long
table_below : units_kept 64 (codes "t\n[y]: /v\n| a | b |\n| - | :-: |\n| c |\n| d | e | f |\n\ng\n") ≡
    found 0 7 (paragraph 0 None ∷ table (Plain ∷ Center ∷ []) (1 ∷ 2 ∷ []) ((3 ∷ 4 ∷ []) ∷ (5 ∷ 6 ∷ []) ∷ []) ∷ []) [] (codes "t\n[y]: /v" ∷ codes "a" ∷ codes "b" ∷ codes "c" ∷ [] ∷ codes "d" ∷ codes "e" ∷ []) ∷ found 7 1 (paragraph 0 None ∷ []) [] (codes "g" ∷ []) ∷ []
unfolding units_kept
table_below = refl

-- a table of its first line, ended by a heading
table_alone : units_kept 64 (codes "| a |\n|---|\n| b |\n# c\n") ≡
    found 0 3 (table (Plain ∷ []) (0 ∷ []) ((1 ∷ []) ∷ []) ∷ []) [] (codes "a" ∷ codes "b" ∷ []) ∷ found 3 1 (heading 1 0 ∷ []) [] (codes "c" ∷ []) ∷ []
unfolding units_kept
table_alone = refl

-- fenced code up to its closing fence, without the indentation of the opening one
fence_closed : units_kept 64 (codes "  ``` x y\n   a\n b\nc\n  ```\nd\n") ≡
    found 0 5 (code_block (codes "x") (codes "y") (codes " a\nb\nc\n") ∷ []) [] [] ∷ found 5 1 (paragraph 0 None ∷ []) [] (codes "d" ∷ []) ∷ []
unfolding units_kept
fence_closed = refl

-- and up to the end of its container
fence_left_open : units_kept 64 (codes "> ~~~\n> a\n>\n> ```\nb\n") ≡
    found 0 4 (block_quote (blocks_of (code_block [] [] (codes "a\n\n```\n") ∷ [])) ∷ []) [] [] ∷ found 4 1 (paragraph 0 None ∷ []) [] (codes "b" ∷ []) ∷ []
unfolding units_kept
fence_left_open = refl

-- indented code, without the blank lines at its end
code : units_kept 64 (codes "    a\n\n      b\n\t\n\nc\n") ≡
    found 0 5 (code_block [] [] (codes "a\n\n  b\n") ∷ []) [] [] ∷ found 5 1 (paragraph 0 None ∷ []) [] (codes "c" ∷ []) ∷ []
unfolding units_kept
code = refl

-- an HTML block up to the line with its end
html_first : units_kept 64 (codes "<pre>\n\na</pre>b\nc\n") ≡
    found 0 3 (html_block (codes "<pre>\n\na</pre>b") ∷ []) [] [] ∷ found 3 1 (paragraph 0 None ∷ []) [] (codes "c" ∷ []) ∷ []
unfolding units_kept
html_first = refl

-- and before a blank line
html_sixth : units_kept 64 (codes "<div>\n a\n\nb\n") ≡
    found 0 3 (html_block (codes "<div>\n a") ∷ []) [] [] ∷ found 3 1 (paragraph 0 None ∷ []) [] (codes "b" ∷ []) ∷ []
unfolding units_kept
html_sixth = refl

-- items of one list, and of another
tight : units_kept 64 (codes "- a\n- b\n+ c\n") ≡
    found 0 2 (list (bullet 45) true (items_of (blocks_of (paragraph 0 None ∷ []) ∷ blocks_of (paragraph 1 None ∷ []) ∷ [])) ∷ []) [] (codes "a" ∷ codes "b" ∷ []) ∷ found 2 1 (list (bullet 43) true (items_of (blocks_of (paragraph 0 None ∷ []) ∷ [])) ∷ []) [] (codes "c" ∷ []) ∷ []
unfolding units_kept
tight = refl

-- a gap between items, and behind the last
loose : units_kept 64 (codes "- a\n\n- b\n\nc\n") ≡
    found 0 4 (list (bullet 45) false (items_of (blocks_of (paragraph 0 None ∷ []) ∷ blocks_of (paragraph 1 None ∷ []) ∷ [])) ∷ []) [] (codes "a" ∷ codes "b" ∷ []) ∷ found 4 1 (paragraph 0 None ∷ []) [] (codes "c" ∷ []) ∷ []
unfolding units_kept
loose = refl

-- a gap in an item, and one in its list
loose_inside : units_kept 64 (codes "- a\n\n  b\n- c\n  - d\n\n  - e\n") ≡
    found 0 7 (list (bullet 45) false (items_of (blocks_of (paragraph 0 None ∷ paragraph 1 None ∷ []) ∷ blocks_of (paragraph 2 None ∷ list (bullet 45) false (items_of (blocks_of (paragraph 3 None ∷ []) ∷ blocks_of (paragraph 4 None ∷ []) ∷ [])) ∷ []) ∷ [])) ∷ []) [] (codes "a" ∷ codes "b" ∷ codes "c" ∷ codes "d" ∷ codes "e" ∷ []) ∷ []
unfolding units_kept
loose_inside = refl

-- lists in items of a list, and a lazy line
sublists : units_kept 64 (codes "1. a\n   - b\n   - c\nd\n2. e\n") ≡
    found 0 5 (list (ordered 46 1) true (items_of (blocks_of (paragraph 0 None ∷ list (bullet 45) true (items_of (blocks_of (paragraph 1 None ∷ []) ∷ blocks_of (paragraph 2 None ∷ []) ∷ [])) ∷ []) ∷ blocks_of (paragraph 3 None ∷ []) ∷ [])) ∷ []) [] (codes "a" ∷ codes "b" ∷ codes "c\nd" ∷ codes "e" ∷ []) ∷ []
unfolding units_kept
sublists = refl

-- task items
task : units_kept 64 (codes "- [ ] a\n- [x] b\n  c\n") ≡
    found 0 3 (list (bullet 45) true (items_of (blocks_of (paragraph 0 (Some false) ∷ []) ∷ blocks_of (paragraph 1 (Some true) ∷ []) ∷ [])) ∷ []) [] (codes "a" ∷ codes "b\nc" ∷ []) ∷ []
unfolding units_kept
task = refl

-- items with nothing behind their markers
empty_items : units_kept 64 (codes "-\n  a\n-\n\n  b\n- \n") ≡
    found 0 4 (list (bullet 45) true (items_of (blocks_of (paragraph 0 None ∷ []) ∷ blocks_of [] ∷ [])) ∷ []) [] (codes "a" ∷ []) ∷ found 4 2 (heading 2 0 ∷ []) [] (codes "b" ∷ []) ∷ []
unfolding units_kept
empty_items = refl

-- quotes with text, list and code in them
quotes_around : units_kept 64 (codes "> a\n> - b\n>       c\n>\n>       d\n> # e\n") ≡
    found 0 6 (block_quote (blocks_of (paragraph 0 None ∷ list (bullet 45) false (items_of (blocks_of (paragraph 1 None ∷ code_block [] [] (codes "d\n") ∷ []) ∷ [])) ∷ heading 1 2 ∷ [])) ∷ []) [] (codes "a" ∷ codes "b\nc" ∷ codes "e" ∷ []) ∷ []
unfolding units_kept
quotes_around = refl

-- blank lines at the front and between
apart : units_kept 64 (codes "\n\na\n\n\n# b\n***\n\n") ≡
    found 2 3 (paragraph 0 None ∷ []) [] (codes "a" ∷ []) ∷ found 5 1 (heading 1 0 ∷ []) [] (codes "b" ∷ []) ∷ found 6 2 (thematic_break ∷ []) [] [] ∷ []
unfolding units_kept
apart = refl
