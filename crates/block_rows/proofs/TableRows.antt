-- Rows of tables (GFM Tables (extension)), by computation.
use Rattle.std.proofs.Common.{◌≡◌, [], ◌∷◌, None, refl, codes, true}
use Rattle.mdscan.specs.declared.delimiter_rows.Align.TheVariants.{Plain, Left, Center, Right}
use Rattle.blockspec.specs.BlockTree.{bullet, ordered, paragraph, code_block, block_quote, list, table, blocks_of, items_of}
use Rattle.block_rows.proofs.ReadText.{units_read, found, defines}

-- alignments, a missing cell, excess ones
aligned : units_read (codes "| a | b |\n| :-- | --: |\n| 1 |\n| 2 | 3 | 4 |\n") ≡
    found 0 4 (table (Left ∷ Right ∷ []) (0 ∷ 1 ∷ []) ((2 ∷ 3 ∷ []) ∷ (4 ∷ 5 ∷ []) ∷ []) ∷ []) [] (codes "a" ∷ codes "b" ∷ codes "1" ∷ [] ∷ codes "2" ∷ codes "3" ∷ []) ∷ []
unfolding units_read
aligned = refl

-- outer bars may be left out; a bar after a backslash is no end of a cell
cells : units_read (codes "a\\|b | c\n:-:|-\n`\\|`\n") ≡
    found 0 3 (table (Center ∷ Plain ∷ []) (0 ∷ 1 ∷ []) ((2 ∷ 3 ∷ []) ∷ []) ∷ []) [] (codes "a|b" ∷ codes "c" ∷ codes "`|`" ∷ [] ∷ []) ∷ []
unfolding units_read
cells = refl

-- header and delimiter row must have equally many cells
cells_differ : units_read (codes "| a | b |\n| - |\n") ≡ found 0 2 (paragraph 0 None ∷ []) [] (codes "| a | b |\n| - |" ∷ []) ∷ []
unfolding units_read
cells_differ = refl

-- a choice of ours: a delimiter row holds a bar
delimiters_without_bar : units_read (codes "a\n:-\n") ≡ found 0 2 (paragraph 0 None ∷ []) [] (codes "a\n:-" ∷ []) ∷ []
unfolding units_read
delimiters_without_bar = refl

-- a choice of ours: earlier lines stay a paragraph, in one unit with the table
text_before : units_read (codes "a\nb\n| c |\n| - |\nd\n") ≡
    found 0 5 (paragraph 0 None ∷ table (Plain ∷ []) (1 ∷ []) ((2 ∷ []) ∷ []) ∷ []) [] (codes "a\nb" ∷ codes "c" ∷ codes "d" ∷ []) ∷ []
unfolding units_read
text_before = refl

-- and definitions are looked for in them alone
definitions_before : units_read (codes "[a]: /u\n[b]: /v |\n-|\n") ≡
    found 0 3 (table (Plain ∷ []) (0 ∷ []) [] ∷ []) (defines (codes "a") (codes "/u") [] ∷ []) (codes "[b]: /v" ∷ []) ∷ []
unfolding units_read
definitions_before = refl

-- a choice of ours: a bar directly behind a backslash ends no cell, even if another backslash stands before that
two_backslashes : units_read (codes "a | b\n:-- | -\nc \\\\| d | e\n") ≡
    found 0 3 (table (Left ∷ Plain ∷ []) (0 ∷ 1 ∷ []) ((2 ∷ 3 ∷ []) ∷ []) ∷ []) [] (codes "a" ∷ codes "b" ∷ codes "c \\| d" ∷ codes "e" ∷ []) ∷ []
unfolding units_read
two_backslashes = refl

-- a table ends before a blank line
before_blank : units_read (codes "| a |\n| - |\nb\n\nc\n") ≡
    found 0 4 (table (Plain ∷ []) (0 ∷ []) ((1 ∷ []) ∷ []) ∷ []) [] (codes "a" ∷ codes "b" ∷ []) ∷ found 4 1 (paragraph 0 None ∷ []) [] (codes "c" ∷ []) ∷ []
unfolding units_read
before_blank = refl

-- before a line that begins a block
before_block : units_read (codes "| a |\n| - |\n> b\n") ≡
    found 0 2 (table (Plain ∷ []) (0 ∷ []) [] ∷ []) [] (codes "a" ∷ []) ∷ found 2 1 (block_quote (blocks_of (paragraph 0 None ∷ [])) ∷ []) [] (codes "b" ∷ []) ∷ []
unfolding units_read
before_block = refl

-- any list item too, whatever its number
before_item : units_read (codes "| a |\n| - |\n2. b\n") ≡
    found 0 2 (table (Plain ∷ []) (0 ∷ []) [] ∷ []) [] (codes "a" ∷ []) ∷ found 2 1 (list (ordered 46 2) true (items_of (blocks_of (paragraph 0 None ∷ []) ∷ [])) ∷ []) [] (codes "b" ∷ []) ∷ []
unfolding units_read
before_item = refl

-- and indented code
before_code : units_read (codes "| a |\n| - |\n    b\n") ≡
    found 0 2 (table (Plain ∷ []) (0 ∷ []) [] ∷ []) [] (codes "a" ∷ []) ∷ found 2 1 (code_block [] [] (codes "b\n") ∷ []) [] [] ∷ []
unfolding units_read
before_code = refl

-- a row is never lazy
not_lazy : units_read (codes "> | a |\n> | - |\nb\n") ≡
    found 0 2 (block_quote (blocks_of (table (Plain ∷ []) (0 ∷ []) [] ∷ [])) ∷ []) [] (codes "a" ∷ []) ∷ found 2 1 (paragraph 0 None ∷ []) [] (codes "b" ∷ []) ∷ []
unfolding units_read
not_lazy = refl

-- nor is a delimiter row
delimiters_not_lazy : units_read (codes "> | a |\n| - |\n") ≡
    found 0 2 (block_quote (blocks_of (paragraph 0 None ∷ [])) ∷ []) [] (codes "| a |\n| - |" ∷ []) ∷ []
unfolding units_read
delimiters_not_lazy = refl

-- but the header row may be
header_lazy : units_read (codes "> a\n| b |\n> | - |\n") ≡
    found 0 3 (block_quote (blocks_of (paragraph 0 None ∷ table (Plain ∷ []) (1 ∷ []) [] ∷ [])) ∷ []) [] (codes "a" ∷ codes "b" ∷ []) ∷ []
unfolding units_read
header_lazy = refl

-- a row may look like a delimiter row
row_like_delimiters : units_read (codes "| - |\n| - |\n| - |\n") ≡
    found 0 3 (table (Plain ∷ []) (0 ∷ []) ((1 ∷ []) ∷ []) ∷ []) [] (codes "-" ∷ codes "-" ∷ []) ∷ []
unfolding units_read
row_like_delimiters = refl

-- in an item
in_item : units_read (codes "- | a |\n  | - |\n") ≡
    found 0 2 (list (bullet 45) true (items_of (blocks_of (table (Plain ∷ []) (0 ∷ []) [] ∷ []) ∷ [])) ∷ []) [] (codes "a" ∷ []) ∷ []
unfolding units_read
in_item = refl
