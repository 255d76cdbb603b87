-- Rows of block quotes, list items and lazy lines (CommonMark 5.1, 5.2; GFM Task list items (extension)), by computation.
use Rattle.std.proofs.Common.{◌≡◌, [], ◌∷◌, Some, None, refl, codes, true, false}
use Rattle.blockspec.specs.BlockTree.{bullet, ordered, paragraph, heading, thematic_break, code_block, block_quote, list, blocks_of, items_of}
use Rattle.block_rows.proofs.ReadText.{units_read, found, defines}

-- a column behind the marker goes, if there is one; a blank line ends the quote
quotes : units_read (codes "> a\n>b\n   > c\n\n>     d\n") ≡
    found 0 4 (block_quote (blocks_of (paragraph 0 None ∷ [])) ∷ []) [] (codes "a\nb\nc" ∷ []) ∷ found 4 1 (block_quote (blocks_of (code_block [] [] (codes "d\n") ∷ [])) ∷ []) [] [] ∷ []
unfolding units_read
quotes = refl

-- four columns are too many for a marker
quote_far : units_read (codes "    > a\n") ≡ found 0 1 (code_block [] [] (codes "> a\n") ∷ []) [] [] ∷ []
unfolding units_read
quote_far = refl

-- of a tab behind the marker one column goes
quote_tab : units_read (codes ">\t\tfoo\n") ≡ found 0 1 (block_quote (blocks_of (code_block [] [] (codes "  foo\n") ∷ [])) ∷ []) [] [] ∷ []
unfolding units_read
quote_tab = refl

-- a marker alone is a blank line inside
quote_blank : units_read (codes ">\n> a\n>\n> b\n") ≡
    found 0 4 (block_quote (blocks_of (paragraph 0 None ∷ paragraph 1 None ∷ [])) ∷ []) [] (codes "a" ∷ codes "b" ∷ []) ∷ []
unfolding units_read
quote_blank = refl

-- a lazy line goes on with the paragraph
lazy : units_read (codes "> bar\nbaz\n> foo\n") ≡ found 0 3 (block_quote (blocks_of (paragraph 0 None ∷ [])) ∷ []) [] (codes "bar\nbaz\nfoo" ∷ []) ∷ []
unfolding units_read
lazy = refl

-- in containers in containers
lazy_deep : units_read (codes "> 1. > a\nb\n> c\n") ≡
    found 0 3 (block_quote (blocks_of (list (ordered 46 1) true (items_of (blocks_of (block_quote (blocks_of (paragraph 0 None ∷ [])) ∷ []) ∷ [])) ∷ [])) ∷ []) [] (codes "a\nb\nc" ∷ []) ∷ []
unfolding units_read
lazy_deep = refl

-- an underline is not lazy
lazy_underline : units_read (codes "> foo\nbar\n===\n") ≡
    found 0 3 (block_quote (blocks_of (paragraph 0 None ∷ [])) ∷ []) [] (codes "foo\nbar\n===" ∷ []) ∷ []
unfolding units_read
lazy_underline = refl

-- and stays text where a container takes indentation off
lazy_underline_inside : units_read (codes "> - foo\n    ===\n") ≡
    found 0 2 (block_quote (blocks_of (list (bullet 45) true (items_of (blocks_of (paragraph 0 None ∷ []) ∷ [])) ∷ [])) ∷ []) [] (codes "foo\n===" ∷ []) ∷ []
unfolding units_read
lazy_underline_inside = refl

-- a line that begins a block is not lazy
lazy_break : units_read (codes "> foo\n---\n") ≡
    found 0 1 (block_quote (blocks_of (paragraph 0 None ∷ [])) ∷ []) [] (codes "foo" ∷ []) ∷ found 1 1 (thematic_break ∷ []) [] [] ∷ []
unfolding units_read
lazy_break = refl

-- indented code does not interrupt a paragraph lazily
lazy_far : units_read (codes "> a\n    - b\n") ≡ found 0 2 (block_quote (blocks_of (paragraph 0 None ∷ [])) ∷ []) [] (codes "a\n- b" ∷ []) ∷ []
unfolding units_read
lazy_far = refl

-- a choice of ours: nor does it matter there which number an item has, so these are siblings
lazy_number : units_read (codes "1. a\n2. b\n") ≡
    found 0 2 (list (ordered 46 1) true (items_of (blocks_of (paragraph 0 None ∷ []) ∷ blocks_of (paragraph 1 None ∷ []) ∷ [])) ∷ []) [] (codes "a" ∷ codes "b" ∷ []) ∷ []
unfolding units_read
lazy_number = refl

-- or whether something follows its marker
lazy_empty_item : units_read (codes "> a\n-\n") ≡
    found 0 1 (block_quote (blocks_of (paragraph 0 None ∷ [])) ∷ []) [] (codes "a" ∷ []) ∷ found 1 1 (list (bullet 45) true (items_of (blocks_of [] ∷ [])) ∷ []) [] [] ∷ []
unfolding units_read
lazy_empty_item = refl

-- nothing but a paragraph is gone on with
lazy_fence : units_read (codes "> ```\na\n> b\n") ≡
    found 0 1 (block_quote (blocks_of (code_block [] [] [] ∷ [])) ∷ []) [] [] ∷ found 1 1 (paragraph 0 None ∷ []) [] (codes "a" ∷ []) ∷ found 2 1 (block_quote (blocks_of (paragraph 0 None ∷ [])) ∷ []) [] (codes "b" ∷ []) ∷ []
unfolding units_read
lazy_fence = refl

-- no heading either
lazy_heading : units_read (codes "> # a\nb\n") ≡
    found 0 1 (block_quote (blocks_of (heading 1 0 ∷ [])) ∷ []) [] (codes "a" ∷ []) ∷ found 1 1 (paragraph 0 None ∷ []) [] (codes "b" ∷ []) ∷ []
unfolding units_read
lazy_heading = refl

-- a blank line is not lazy
lazy_blank : units_read (codes "> a\n\nb\n") ≡
    found 0 2 (block_quote (blocks_of (paragraph 0 None ∷ [])) ∷ []) [] (codes "a" ∷ []) ∷ found 2 1 (paragraph 0 None ∷ []) [] (codes "b" ∷ []) ∷ []
unfolding units_read
lazy_blank = refl

-- what belongs to an item is indented as its first line
items : units_read (codes "-   a\n\n    b\n\n  c\n") ≡
    found 0 4 (list (bullet 45) false (items_of (blocks_of (paragraph 0 None ∷ paragraph 1 None ∷ []) ∷ [])) ∷ []) [] (codes "a" ∷ codes "b" ∷ []) ∷ found 4 1 (paragraph 0 None ∷ []) [] (codes "c" ∷ []) ∷ []
unfolding units_read
items = refl

-- a tab serves
item_tab : units_read (codes "- foo\n\n\tbar\n") ≡
    found 0 3 (list (bullet 45) false (items_of (blocks_of (paragraph 0 None ∷ paragraph 1 None ∷ []) ∷ [])) ∷ []) [] (codes "foo" ∷ codes "bar" ∷ []) ∷ []
unfolding units_read
item_tab = refl

-- five columns behind the marker are one and indented code
item_code : units_read (codes "-     a\n      b\n") ≡
    found 0 2 (list (bullet 45) true (items_of (blocks_of (code_block [] [] (codes "a\nb\n") ∷ []) ∷ [])) ∷ []) [] [] ∷ []
unfolding units_read
item_code = refl

-- a tab behind the marker, of which columns are left
item_tab_code : units_read (codes "-\t\ta\n") ≡
    found 0 1 (list (bullet 45) true (items_of (blocks_of (code_block [] [] (codes "  a\n") ∷ []) ∷ [])) ∷ []) [] [] ∷ []
unfolding units_read
item_tab_code = refl

-- nothing behind the marker, and then a line
item_empty : units_read (codes "-\n  a\n") ≡
    found 0 2 (list (bullet 45) true (items_of (blocks_of (paragraph 0 None ∷ []) ∷ [])) ∷ []) [] (codes "a" ∷ []) ∷ []
unfolding units_read
item_empty = refl

-- an item begins with one blank line at most
item_empty_blank : units_read (codes "-\n\n  a\n") ≡
    found 0 2 (list (bullet 45) true (items_of (blocks_of [] ∷ [])) ∷ []) [] [] ∷ found 2 1 (paragraph 0 None ∷ []) [] (codes "a" ∷ []) ∷ []
unfolding units_read
item_empty_blank = refl

-- a marker needs a space behind it; nine digits are the most
item_marker : units_read (codes "-a\n1234567890. a\n") ≡ found 0 2 (paragraph 0 None ∷ []) [] (codes "-a\n1234567890. a" ∷ []) ∷ []
unfolding units_read
item_marker = refl

-- the number that a list begins with
item_number : units_read (codes "007) a\n") ≡
    found 0 1 (list (ordered 41 7) true (items_of (blocks_of (paragraph 0 None ∷ []) ∷ [])) ∷ []) [] (codes "a" ∷ []) ∷ []
unfolding units_read
item_number = refl

-- in a paragraph an item needs a text, and the number 1
item_interrupts : units_read (codes "a\n*\nb\n2. c\n1. d\n") ≡
    found 0 4 (paragraph 0 None ∷ []) [] (codes "a\n*\nb\n2. c" ∷ []) ∷ found 4 1 (list (ordered 46 1) true (items_of (blocks_of (paragraph 0 None ∷ []) ∷ [])) ∷ []) [] (codes "d" ∷ []) ∷ []
unfolding units_read
item_interrupts = refl

-- items in items, by tabs
item_in_item : units_read (codes "- a\n\t- b\n\t\t- c\n") ≡
    found 0 3 (list (bullet 45) true (items_of (blocks_of (paragraph 0 None ∷ list (bullet 45) true (items_of (blocks_of (paragraph 1 None ∷ list (bullet 45) true (items_of (blocks_of (paragraph 2 None ∷ []) ∷ [])) ∷ []) ∷ [])) ∷ []) ∷ [])) ∷ []) [] (codes "a" ∷ codes "b" ∷ codes "c" ∷ []) ∷ []
unfolding units_read
item_in_item = refl

-- a quote in an item
item_quote : units_read (codes "10) > a\n    > b\n") ≡
    found 0 2 (list (ordered 41 10) true (items_of (blocks_of (block_quote (blocks_of (paragraph 0 None ∷ [])) ∷ []) ∷ [])) ∷ []) [] (codes "a\nb" ∷ []) ∷ []
unfolding units_read
item_quote = refl

-- task markers, with the spaces behind them
tasks : units_read (codes "- [ ] foo\n- [x] bar\n* [X]\t b\n") ≡
    found 0 2 (list (bullet 45) true (items_of (blocks_of (paragraph 0 (Some false) ∷ []) ∷ blocks_of (paragraph 1 (Some true) ∷ []) ∷ [])) ∷ []) [] (codes "foo" ∷ codes "bar" ∷ []) ∷ found 2 1 (list (bullet 42) true (items_of (blocks_of (paragraph 0 (Some true) ∷ []) ∷ [])) ∷ []) [] (codes "b" ∷ []) ∷ []
unfolding units_read
tasks = refl

-- brackets with nothing behind; no item; a heading
no_tasks : units_read (codes "- [ ]\n- [x]a\n- # [ ] a\n\n[ ] a\n") ≡
    found 0 4 (list (bullet 45) true (items_of (blocks_of (paragraph 0 None ∷ []) ∷ blocks_of (paragraph 1 None ∷ []) ∷ blocks_of (heading 1 2 ∷ []) ∷ [])) ∷ []) [] (codes "[ ]" ∷ codes "[x]a" ∷ codes "[ ] a" ∷ []) ∷ found 4 1 (paragraph 0 None ∷ []) [] (codes "[ ] a" ∷ []) ∷ []
unfolding units_read
no_tasks = refl

-- a choice of ours: the text stands on the same line
task_next_line : units_read (codes "- [ ]\n  a\n") ≡
    found 0 2 (list (bullet 45) true (items_of (blocks_of (paragraph 0 None ∷ []) ∷ [])) ∷ []) [] (codes "[ ]\na" ∷ []) ∷ []
unfolding units_read
task_next_line = refl

-- the first block alone
task_first : units_read (codes "1. [ ] a\n\n   [x] b\n") ≡
    found 0 3 (list (ordered 46 1) false (items_of (blocks_of (paragraph 0 (Some false) ∷ paragraph 1 None ∷ []) ∷ [])) ∷ []) [] (codes "a" ∷ codes "[x] b" ∷ []) ∷ []
unfolding units_read
task_first = refl

-- a choice of ours: definitions before it do not hinder
task_after_definition : units_read (codes "- [a]: /u\n  [x] b\n") ≡
    found 0 2 (list (bullet 45) true (items_of (blocks_of (paragraph 0 (Some true) ∷ []) ∷ [])) ∷ []) (defines (codes "a") (codes "/u") [] ∷ []) (codes "b" ∷ []) ∷ []
unfolding units_read
task_after_definition = refl
