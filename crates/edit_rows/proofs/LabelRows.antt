-- Rows of edits that change where labels lead, by computation.
use Rattle.std.proofs.Common.{◌≡◌, [], ◌∷◌, ◌++◌, refl, codes}
use Rattle.mdsource.specs.Calls.{edit}
use Rattle.edit_rows.proofs.ReadEdits.{answers, source_of, plain, answer, pieces}

-- a definition at the end is changed; the text that uses it stands far above
definition_changed : answer plain (source_of (codes "[foo]" ∷ [] ∷ codes "x" ∷ [] ∷ codes "[foo]: /a" ∷ []) []) (edit 4 1 (codes "[foo]: /b" ∷ [])) ≡
    answers 2 5 1 2 2 (0 ∷ []) 2 (codes "foo" ∷ [])
unfolding answer
definition_changed = refl

-- a definition in front of another one counts
definition_in_front : answer plain (source_of (codes "[foo]" ∷ [] ∷ codes "x" ∷ [] ∷ codes "[foo]: /a" ∷ []) []) (edit 0 0 (codes "[foo]: /c" ∷ [] ∷ [])) ≡
    answers 0 2 0 0 1 (1 ∷ []) 1 (codes "foo" ∷ [])
unfolding answer
definition_in_front = refl

-- where it goes, the later one counts again
definition_gone : answer plain (source_of (codes "[foo]: /c" ∷ [] ∷ codes "[foo]" ∷ [] ∷ codes "x" ∷ [] ∷ codes "[foo]: /a" ∷ []) []) (edit 0 2 []) ≡
    answers 0 0 0 1 0 (0 ∷ []) 1 (codes "foo" ∷ [])
unfolding answer
definition_gone = refl

-- the pieces behind both
pieces_of_three : pieces plain (source_of (codes "[foo]" ∷ [] ∷ codes "x" ∷ [] ∷ codes "[foo]: /a" ∷ []) []) ≡
    codes "<p><a href=\"/a\">foo</a></p>\n" ∷ codes "<p>x</p>\n" ∷ [] ∷ []
unfolding pieces
pieces_of_three = refl

-- a later definition of the same label changes nothing
second_definition : answer plain (source_of (codes "[foo]" ∷ [] ∷ codes "x" ∷ [] ∷ codes "[foo]: /a" ∷ []) []) (edit 5 0 (codes "[foo]: /z" ∷ [])) ≡
    answers 4 6 2 1 1 [] 0 []
unfolding answer
second_definition = refl

-- nor does its going
second_gone : answer plain (source_of (codes "[foo]" ∷ [] ∷ codes "x" ∷ [] ∷ codes "[foo]: /a" ∷ codes "[foo]: /z" ∷ []) []) (edit 5 1 []) ≡
    answers 4 5 2 1 1 [] 0 []
unfolding answer
second_gone = refl

-- a label that was looked for and not found is defined now
new_label : answer plain (source_of (codes "[foo]" ∷ [] ∷ codes "[bar]" ∷ [] ∷ codes "[foo]: /a" ∷ []) []) (edit 4 0 (codes "[bar]: /b" ∷ [])) ≡
    answers 2 6 1 2 2 [] 1 (codes "bar" ∷ [])
unfolding answer
new_label = refl

-- the full label is asked for, and no shortcut where there is none: the label b is defined
asks_full_label : answer plain (source_of (codes "[a][b]" ∷ [] ∷ codes "x" ∷ []) []) (edit 2 1 (codes "[b]: /u" ∷ [])) ≡
    answers 0 3 0 2 2 [] 1 (codes "b" ∷ [])
unfolding answer
asks_full_label = refl

-- the label a was not asked for
asks_shortcut_no : answer plain (source_of (codes "[a][b]" ∷ [] ∷ codes "[b]: /u" ∷ []) []) (edit 3 0 (codes "[a]: /v" ∷ [])) ≡
    answers 2 4 1 1 1 [] 0 (codes "a" ∷ [])
unfolding answer
asks_shortcut_no = refl

-- two of three texts asked for the label
two_of_three : answer plain (source_of (codes "[a] [b]" ∷ [] ∷ codes "[a]" ∷ [] ∷ codes "[b]" ∷ [] ∷ codes "[a]: /1" ∷ []) []) (edit 6 1 (codes "[a]: /2" ∷ [])) ≡
    answers 4 7 2 2 2 (0 ∷ 1 ∷ []) 3 (codes "a" ∷ [])
unfolding answer
two_of_three = refl

-- a title is part of where a label leads
title_changed : answer plain (source_of (codes "[a] [b]" ∷ [] ∷ codes "[a]" ∷ [] ∷ codes "[b]" ∷ [] ∷ codes "[a]: /2" ∷ []) []) (edit 6 1 (codes "[a]: /2 \"t\"" ∷ [])) ≡
    answers 4 7 2 2 2 (0 ∷ 1 ∷ []) 3 (codes "a" ∷ [])
unfolding answer
title_changed = refl

-- a heading, a quote and a list that asked for it
in_containers : answer plain (source_of (codes "# [x]" ∷ [] ∷ codes "> [x]" ∷ [] ∷ codes "- [x]" ∷ codes "- y" ∷ [] ∷ codes "[x]: /u" ∷ []) []) (edit 7 1 (codes "[x]: /v" ∷ [])) ≡
    answers 4 8 2 2 2 (0 ∷ 1 ∷ []) 4 (codes "x" ∷ [])
unfolding answer
in_containers = refl

-- two cells of a table asked for it, and the others are not read
two_cells : answer plain (source_of (codes "| [x] | y |" ∷ codes "| - | - |" ∷ codes "| z | [x] |" ∷ [] ∷ codes "[x]: /u" ∷ []) []) (edit 4 1 (codes "[x]: /v" ∷ [])) ≡
    answers 0 5 0 2 2 [] 4 (codes "x" ∷ [])
unfolding answer
two_cells = refl

-- labels match by case folding
folded : answer plain (source_of (codes "[SS]" ∷ [] ∷ codes "[ss]: /u" ∷ []) []) (edit 2 1 ((codes "[" ++ (225 ∷ 186 ∷ 158 ∷ []) ++ codes "]: /v") ∷ [])) ≡
    answers 0 3 0 2 2 [] 1 (codes "ss" ∷ [])
unfolding answer
folded = refl
