-- Rows of units and of nesting, by computation.
use Rattle.std.specs.Prelude.{replicate}
use Rattle.std.proofs.Common.{◌++◌, ℕ, zero, suc, ◌≡◌, [], ◌∷◌, Some, None, refl, codes, true, false}
use Rattle.mdscan.specs.declared.delimiter_rows.Align.TheVariants.{Plain}
use Rattle.blockspec.specs.BlockTree.{Block, bullet, paragraph, heading, code_block, block_quote, list, table, blocks_of, items_of}
use Rattle.block_rows.proofs.ReadText.{units_read, deep_line, found, defines}
use Rattle.blockspec.specs.BlockUnits.{definitions_of}
use Rattle.blockspec.specs.LinkDefinitions.{first_definition}

-- no line
empty : units_read [] ≡ []
unfolding units_read
empty = refl

-- blank lines alone
blank : units_read (codes "\n \t\n") ≡ []
unfolding units_read
blank = refl

-- a unit reaches to the next one; blank lines at the front are none's
begins : units_read (codes "\n\na\n\n\nb\n# c\n\n") ≡
    found 2 3 (paragraph 0 None ∷ []) [] (codes "a" ∷ []) ∷ found 5 1 (paragraph 0 None ∷ []) [] (codes "b" ∷ []) ∷ found 6 2 (heading 1 0 ∷ []) [] (codes "c" ∷ []) ∷ []
unfolding units_read
begins = refl

-- LF, CR LF and CR
line_endings : units_read (codes "a\r\n\r# b\rc") ≡
    found 0 2 (paragraph 0 None ∷ []) [] (codes "a" ∷ []) ∷ found 2 1 (heading 1 0 ∷ []) [] (codes "b" ∷ []) ∷ found 3 1 (paragraph 0 None ∷ []) [] (codes "c" ∷ []) ∷ []
unfolding units_read
line_endings = refl

-- a whole list is one unit
worked_list : units_read (codes "- a\n\n- b\n\n- c\n") ≡
    found 0 5 (list (bullet 45) false (items_of (blocks_of (paragraph 0 None ∷ []) ∷ blocks_of (paragraph 1 None ∷ []) ∷ blocks_of (paragraph 2 None ∷ []) ∷ [])) ∷ []) [] (codes "a" ∷ codes "b" ∷ codes "c" ∷ []) ∷ []
unfolding units_read
worked_list = refl

-- a fence holds what looks like items
fence_over_items : units_read (codes "- a\n```\n- b\n- c\n") ≡
    found 0 1 (list (bullet 45) true (items_of (blocks_of (paragraph 0 None ∷ []) ∷ [])) ∷ []) [] (codes "a" ∷ []) ∷ found 1 3 (code_block [] [] (codes "- b\n- c\n") ∷ []) [] [] ∷ []
unfolding units_read
fence_over_items = refl

-- and a heading
fence_opened : units_read (codes "```\na\n\n# t\n") ≡ found 0 4 (code_block [] [] (codes "a\n\n# t\n") ∷ []) [] [] ∷ []
unfolding units_read
fence_opened = refl

-- an underline takes the line before
underlined : units_read (codes "foo\n---\n# x\n") ≡
    found 0 2 (heading 2 0 ∷ []) [] (codes "foo" ∷ []) ∷ found 2 1 (heading 1 0 ∷ []) [] (codes "x" ∷ []) ∷ []
unfolding units_read
underlined = refl

-- items with nothing between
items_joined : units_read (codes "- a\n- b\n") ≡
    found 0 2 (list (bullet 45) true (items_of (blocks_of (paragraph 0 None ∷ []) ∷ blocks_of (paragraph 1 None ∷ []) ∷ [])) ∷ []) [] (codes "a" ∷ codes "b" ∷ []) ∷ []
unfolding units_read
items_joined = refl

-- all of one paragraph's lines are one unit
text_and_table : units_read (codes "foo\n| a |\n| - |\n| b |\n") ≡
    found 0 4 (paragraph 0 None ∷ table (Plain ∷ []) (1 ∷ []) ((2 ∷ []) ∷ []) ∷ []) [] (codes "foo" ∷ codes "a" ∷ codes "b" ∷ []) ∷ []
unfolding units_read
text_and_table = refl

-- the same without the text
table_alone : units_read (codes "| a |\n| - |\n| b |\n") ≡
    found 0 3 (table (Plain ∷ []) (0 ∷ []) ((1 ∷ []) ∷ []) ∷ []) [] (codes "a" ∷ codes "b" ∷ []) ∷ []
unfolding units_read
table_alone = refl

-- texts and definitions are numbered in document order
document_order : units_read (codes "> a\n>\n> [b]: /1\n\n- # c\n  | d | e |\n  | - | - |\n  | f | g |\n- h\n") ≡
    found 0 4 (block_quote (blocks_of (paragraph 0 None ∷ [])) ∷ []) (defines (codes "b") (codes "/1") [] ∷ []) (codes "a" ∷ []) ∷ found 4 5 (list (bullet 45) true (items_of (blocks_of (heading 1 0 ∷ table (Plain ∷ Plain ∷ []) (1 ∷ 2 ∷ []) ((3 ∷ 4 ∷ []) ∷ []) ∷ []) ∷ blocks_of (paragraph 5 None ∷ []) ∷ [])) ∷ []) [] (codes "c" ∷ codes "d" ∷ codes "e" ∷ codes "f" ∷ codes "g" ∷ codes "h" ∷ []) ∷ []
unfolding units_read
document_order = refl

-- so many quotes in one another, and a paragraph
abbrev quotes : ℕ → Block
quotes zero = paragraph 0 None
quotes (suc n) = block_quote (blocks_of (quotes n ∷ []))

-- sixty-four containers, and sixty-five
deepest : units_read (replicate 64 62 ++ codes "x") ≡ found 0 1 (quotes 64 ∷ []) [] (codes "x" ∷ []) ∷ []
unfolding units_read
deepest = refl

not_too_deep : deep_line 64 (replicate 64 62 ++ codes "x") ≡ None
unfolding deep_line
not_too_deep = refl

too_deep : deep_line 64 (10 ∷ replicate 65 62 ++ codes "x") ≡ Some 1
unfolding deep_line
too_deep = refl

-- two hundred and fifty-six, the greatest limit that a reader takes, and one more
greatest_limit : deep_line 256 (replicate 256 62 ++ codes "x") ≡ None
unfolding deep_line
greatest_limit = refl

past_greatest : deep_line 256 (replicate 257 62 ++ codes "x") ≡ Some 0
unfolding deep_line
past_greatest = refl

-- the least limit
least_limit : deep_line 1 (codes "> x\n- y\n") ≡ None
unfolding deep_line
least_limit = refl

past_least : deep_line 1 (codes "> x\n- > y\n") ≡ Some 1
unfolding deep_line
past_least = refl

-- the line of the container, where those around it began before it; a list counts nothing
deep_later : deep_line 2 (codes "> a\n>\n> - b\n>   1. c\n") ≡ Some 3
unfolding deep_line
deep_later = refl

deep_enough : deep_line 3 (codes "> a\n>\n> - b\n>   1. c\n") ≡ None
unfolding deep_line
deep_enough = refl

-- of several definitions the first counts
first_counts : first_definition (definitions_of (units_read (codes "[a]: /1\n\n> [A]: /2\n"))) (codes "a") ≡ Some (defines (codes "a") (codes "/1") [])
unfolding units_read
first_counts = refl

no_definition : first_definition (definitions_of (units_read (codes "[a]: /1\n"))) (codes "b") ≡ None
unfolding units_read
no_definition = refl
