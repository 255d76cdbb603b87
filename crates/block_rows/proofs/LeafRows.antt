-- Rows of leaf blocks (CommonMark 4), by computation.
use Rattle.std.proofs.Common.{◌≡◌, [], ◌∷◌, ◌++◌, None, refl, codes}
use Rattle.blockspec.specs.BlockTree.{paragraph, heading, thematic_break, code_block, html_block, block_quote, blocks_of}
use Rattle.block_rows.proofs.ReadText.{units_read, found, defines}

-- three of one mark, with spaces and tabs between; four columns of indentation are too many, and so are two marks for a break
breaks : units_read (codes "_ _ _ _\n*\t*\t*\n   ---\n\n    ***\n\n--\n") ≡
    found 0 1 (thematic_break ∷ []) [] [] ∷ found 1 1 (thematic_break ∷ []) [] [] ∷ found 2 2 (thematic_break ∷ []) [] [] ∷ found 4 2 (code_block [] [] (codes "***\n") ∷ []) [] [] ∷ found 6 1 (paragraph 0 None ∷ []) [] (codes "--" ∷ []) ∷ []
unfolding units_read
breaks = refl

-- a break can interrupt a paragraph, and is tried before a list item
break_interrupts : units_read (codes "a\n* * *\nb\n") ≡
    found 0 1 (paragraph 0 None ∷ []) [] (codes "a" ∷ []) ∷ found 1 1 (thematic_break ∷ []) [] [] ∷ found 2 1 (paragraph 0 None ∷ []) [] (codes "b" ∷ []) ∷ []
unfolding units_read
break_interrupts = refl

-- a closing sequence goes, a hash without a space before it stays; no content; seven hashes, and no space behind
atx_headings : units_read (codes "## two ##\n#\tx#\n# #\n####### seven\n#none\n") ≡
    found 0 1 (heading 2 0 ∷ []) [] (codes "two" ∷ []) ∷ found 1 1 (heading 1 0 ∷ []) [] (codes "x#" ∷ []) ∷ found 2 1 (heading 1 0 ∷ []) [] ([] ∷ []) ∷ found 3 2 (paragraph 0 None ∷ []) [] (codes "####### seven\n#none" ∷ []) ∷ []
unfolding units_read
atx_headings = refl

-- lines of a paragraph and an underline; one hyphen is one
setext_headings : units_read (codes "a\nb\n  ====  \none\n-\n") ≡
    found 0 3 (heading 1 0 ∷ []) [] (codes "a\nb" ∷ []) ∷ found 3 2 (heading 2 0 ∷ []) [] (codes "one" ∷ []) ∷ []
unfolding units_read
setext_headings = refl

-- an underline with four columns of indentation is text
setext_far : units_read (codes "x\n    ===\n") ≡ found 0 2 (paragraph 0 None ∷ []) [] (codes "x\n===" ∷ []) ∷ []
unfolding units_read
setext_far = refl

-- what is only definitions is not underlined: `===` is text of its paragraph
setext_of_definitions : units_read (codes "[a]: /u\n===\nb\n") ≡
    found 0 3 (paragraph 0 None ∷ []) (defines (codes "a") (codes "/u") [] ∷ []) (codes "===\nb" ∷ []) ∷ []
unfolding units_read
setext_of_definitions = refl

-- and `---` is a break
break_after_definitions : units_read (codes "[a]: /u\n---\n") ≡
    found 0 1 [] (defines (codes "a") (codes "/u") [] ∷ []) [] ∷ found 1 1 (thematic_break ∷ []) [] [] ∷ []
unfolding units_read
break_after_definitions = refl

-- definitions stand before the heading
heading_after_definitions : units_read (codes "[a]: /u\nb\n---\n") ≡
    found 0 3 (heading 2 0 ∷ []) (defines (codes "a") (codes "/u") [] ∷ []) (codes "b" ∷ []) ∷ []
unfolding units_read
heading_after_definitions = refl

-- blank lines inside stay with what they have past four columns, those at the end go
indented_code : units_read (codes "    a\n\n      \n      b\n\nc\n") ≡
    found 0 5 (code_block [] [] (codes "a\n\n  \n  b\n") ∷ []) [] [] ∷ found 5 1 (paragraph 0 None ∷ []) [] (codes "c" ∷ []) ∷ []
unfolding units_read
indented_code = refl

-- an indented line does not interrupt a paragraph
indented_text : units_read (codes "a\n    b\n") ≡ found 0 2 (paragraph 0 None ∷ []) [] (codes "a\nb" ∷ []) ∷ []
unfolding units_read
indented_text = refl

-- a tab reaches the next column that is a multiple of four
indented_tabs : units_read (codes "  \ta\n\t\tb\n") ≡ found 0 2 (code_block [] [] (codes "a\n\tb\n") ∷ []) [] [] ∷ []
unfolding units_read
indented_tabs = refl

-- a closing fence is as long and of the same mark
fences : units_read (codes "~~~~ ruby x\na\n~~~\n```\n~~~~~\nb\n") ≡
    found 0 5 (code_block (codes "ruby") (codes "x") (codes "a\n~~~\n```\n") ∷ []) [] [] ∷ found 5 1 (paragraph 0 None ∷ []) [] (codes "b" ∷ []) ∷ []
unfolding units_read
fences = refl

-- content loses as much indentation as the opening fence has
fence_indented : units_read (codes "  ```\n   x\n y\n  ```\n") ≡ found 0 4 (code_block [] [] (codes " x\ny\n") ∷ []) [] [] ∷ []
unfolding units_read
fence_indented = refl

-- a fence that is not closed goes on to the end, blank lines and all
fence_open : units_read (codes "```\na\n\n") ≡ found 0 3 (code_block [] [] (codes "a\n\n") ∷ []) [] [] ∷ []
unfolding units_read
fence_open = refl

-- or to the end of its container
fence_in_quote : units_read (codes "> ```\n> a\nb\n") ≡
    found 0 2 (block_quote (blocks_of (code_block [] [] (codes "a\n") ∷ [])) ∷ []) [] [] ∷ found 2 1 (paragraph 0 None ∷ []) [] (codes "b" ∷ []) ∷ []
unfolding units_read
fence_in_quote = refl

-- a fence can interrupt a paragraph; no backtick stands in the info string of backticks
fence_interrupts : units_read (codes "a\n```\nb\n```\n``` a`b\n") ≡
    found 0 1 (paragraph 0 None ∷ []) [] (codes "a" ∷ []) ∷ found 1 3 (code_block [] [] (codes "b\n") ∷ []) [] [] ∷ found 4 1 (paragraph 0 None ∷ []) [] (codes "``` a`b" ∷ []) ∷ []
unfolding units_read
fence_interrupts = refl

-- escapes and references are replaced in the language, which ends at a space
fence_language : units_read (codes "``` a\\*&amp;b c\n```\n") ≡ found 0 2 (code_block (codes "a*&b") (codes "c") [] ∷ []) [] [] ∷ []
unfolding units_read
fence_language = refl

-- a choice of ours: it ends at a form feed
fence_language_feed : units_read (codes "``` a" ++ (12 ∷ []) ++ codes "b c\nd\n```\n") ≡ found 0 3 (code_block (codes "a") (codes "b c") (codes "d\n") ∷ []) [] [] ∷ []
unfolding units_read
fence_language_feed = refl

-- and at a vertical tab
fence_language_tab : units_read (codes "~~~a" ++ (11 ∷ []) ++ codes "b\n") ≡ found 0 1 (code_block (codes "a") (codes "b") [] ∷ []) [] [] ∷ []
unfolding units_read
fence_language_tab = refl

-- the first kind, in any case, up to the line with an end, whatever stands between
html_raw : units_read (codes "<Script>\n\n# a\n</STYLE> x\nb\n") ≡
    found 0 4 (html_block (codes "<Script>\n\n# a\n</STYLE> x") ∷ []) [] [] ∷ found 4 1 (paragraph 0 None ∷ []) [] (codes "b" ∷ []) ∷ []
unfolding units_read
html_raw = refl

-- a comment: also where it ends in its first line
html_comment : units_read (codes "<!-- a\n\n-->b\n<!-- -->c\nd\n") ≡
    found 0 3 (html_block (codes "<!-- a\n\n-->b") ∷ []) [] [] ∷ found 3 1 (html_block (codes "<!-- -->c") ∷ []) [] [] ∷ found 4 1 (paragraph 0 None ∷ []) [] (codes "d" ∷ []) ∷ []
unfolding units_read
html_comment = refl

-- processing instruction, declaration, CDATA
html_others : units_read (codes "<?\n?>\n<!a\n>\n<![CDATA[\n]]>\nb\n") ≡
    found 0 2 (html_block (codes "<?\n?>") ∷ []) [] [] ∷ found 2 2 (html_block (codes "<!a\n>") ∷ []) [] [] ∷ found 4 2 (html_block (codes "<![CDATA[\n]]>") ∷ []) [] [] ∷ found 6 1 (paragraph 0 None ∷ []) [] (codes "b" ∷ []) ∷ []
unfolding units_read
html_others = refl

-- the sixth kind ends before a blank line, and can interrupt a paragraph
html_named : units_read (codes "a\n</DIV\n*b*\n\nc\n") ≡
    found 0 1 (paragraph 0 None ∷ []) [] (codes "a" ∷ []) ∷ found 1 3 (html_block (codes "</DIV\n*b*") ∷ []) [] [] ∷ found 4 1 (paragraph 0 None ∷ []) [] (codes "c" ∷ []) ∷ []
unfolding units_read
html_named = refl

-- the seventh kind begins with a whole tag
html_tag : units_read (codes "<x-y a='1'>\nb\n\nc\n") ≡
    found 0 3 (html_block (codes "<x-y a='1'>\nb") ∷ []) [] [] ∷ found 3 1 (paragraph 0 None ∷ []) [] (codes "c" ∷ []) ∷ []
unfolding units_read
html_tag = refl

-- it does not interrupt a paragraph
html_tag_text : units_read (codes "a\n<x>\n") ≡ found 0 2 (paragraph 0 None ∷ []) [] (codes "a\n<x>" ∷ []) ∷ []
unfolding units_read
html_tag_text = refl

-- a choice of ours: not lazily either
html_tag_lazy : units_read (codes "> a\n<x>\n") ≡ found 0 2 (block_quote (blocks_of (paragraph 0 None ∷ [])) ∷ []) [] (codes "a\n<x>" ∷ []) ∷ []
unfolding units_read
html_tag_lazy = refl

-- `<pre/>` begins no HTML block, and `</pre>` is of the seventh kind
html_pre : units_read (codes "<pre/>\n\n</pre>\n\nb\n") ≡
    found 0 2 (paragraph 0 None ∷ []) [] (codes "<pre/>" ∷ []) ∷ found 2 2 (html_block (codes "</pre>") ∷ []) [] [] ∷ found 4 1 (paragraph 0 None ∷ []) [] (codes "b" ∷ []) ∷ []
unfolding units_read
html_pre = refl

-- the indentation stays
html_indented : units_read (codes " <?a\n  b\n") ≡ found 0 2 (html_block (codes " <?a\n  b") ∷ []) [] [] ∷ []
unfolding units_read
html_indented = refl

-- indentation goes, and spaces at the end of the last line
paragraphs : units_read (codes "  a  \n\tb \n\n\nc\t\n") ≡
    found 0 4 (paragraph 0 None ∷ []) [] (codes "a  \nb" ∷ []) ∷ found 4 1 (paragraph 0 None ∷ []) [] (codes "c" ∷ []) ∷ []
unfolding units_read
paragraphs = refl
