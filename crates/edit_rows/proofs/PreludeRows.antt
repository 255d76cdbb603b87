-- Rows of preludes, by computation.
use Rattle.std.proofs.Common.{◌≡◌, [], ◌∷◌, refl, codes}
use Rattle.mdsource.specs.Calls.{edit, set_prelude}
use Rattle.mdsource.specs.Refusals.{break_in_line, inline_too_deep, not_definitions}
use Rattle.edit_rows.proofs.ReadEdits.{answers, refused, source_of, limited, plain, answer, pieces}

-- a text that uses a label
uses_nothing : answer plain (source_of [] []) (edit 0 0 (codes "[foo]" ∷ [])) ≡ answers 0 1 0 0 1 [] 1 []
unfolding answer
uses_nothing = refl

-- a prelude defines it
prelude_defines : answer plain (source_of (codes "[foo]" ∷ []) []) (set_prelude (codes "[foo]: /p" ∷ [])) ≡ answers 0 0 0 0 0 (0 ∷ []) 1 (codes "foo" ∷ [])
unfolding answer
prelude_defines = refl

-- the definition in the document counts
document_counts : answer plain (source_of (codes "[foo]" ∷ []) (codes "[foo]: /p" ∷ [])) (edit 1 0 ([] ∷ codes "[foo]: /a" ∷ [])) ≡
    answers 0 3 0 1 2 [] 1 (codes "foo" ∷ [])
unfolding answer
document_counts = refl

-- the prelude goes, and nothing changes
prelude_goes : answer plain (source_of (codes "[foo]" ∷ [] ∷ codes "[foo]: /a" ∷ []) (codes "[foo]: /p" ∷ [])) (set_prelude []) ≡ answers 0 0 0 0 0 [] 0 []
unfolding answer
prelude_goes = refl

-- a text is no prelude
no_definitions : answer plain (source_of (codes "[foo]" ∷ [] ∷ codes "[foo]: /a" ∷ []) []) (set_prelude (codes "x" ∷ [])) ≡ refused (not_definitions 0)
unfolding answer
no_definitions = refl

-- the pieces behind these calls
pieces_behind : pieces plain (source_of (codes "[foo]" ∷ [] ∷ codes "[foo]: /a" ∷ []) []) ≡ codes "<p><a href=\"/a\">foo</a></p>\n" ∷ [] ∷ []
unfolding pieces
pieces_behind = refl

-- two labels of a prelude
two_labels : answer plain (source_of (codes "[a] [b]" ∷ [] ∷ codes "[c]" ∷ []) []) (set_prelude (codes "[a]: /1" ∷ codes "[b]: /2 \"t\"" ∷ [])) ≡
    answers 0 0 0 0 0 (0 ∷ []) 1 (codes "a" ∷ codes "b" ∷ [])
unfolding answer
two_labels = refl

-- of two definitions the first counts
first_counts : answer plain (source_of (codes "[a] [b]" ∷ [] ∷ codes "[c]" ∷ []) (codes "[a]: /1" ∷ codes "[b]: /2 \"t\"" ∷ [])) (set_prelude (codes "[a]: /1" ∷ codes "[a]: /3" ∷ [])) ≡
    answers 0 0 0 0 0 (0 ∷ []) 1 (codes "b" ∷ [])
unfolding answer
first_counts = refl

-- a prelude of blank lines is empty
blank_lines : answer plain (source_of (codes "[a] [b]" ∷ [] ∷ codes "[c]" ∷ []) (codes "[a]: /1" ∷ codes "[a]: /3" ∷ [])) (set_prelude ([] ∷ codes "  " ∷ [])) ≡
    answers 0 0 0 0 0 (0 ∷ []) 1 (codes "a" ∷ [])
unfolding answer
blank_lines = refl

-- a definition in a quote makes a quote, so this is no prelude
in_a_quote : answer plain (source_of (codes "[a] [b]" ∷ [] ∷ codes "[c]" ∷ []) ([] ∷ codes "  " ∷ [])) (set_prelude (codes "[a]: /1" ∷ codes "> [b]: /2" ∷ [])) ≡
    refused (not_definitions 1)
unfolding answer
in_a_quote = refl

-- a line of a prelude holds CR
prelude_break : answer plain (source_of (codes "[a] [b]" ∷ [] ∷ codes "[c]" ∷ []) ([] ∷ codes "  " ∷ [])) (set_prelude (codes "[a]: /1" ∷ codes "\r" ∷ [])) ≡
    refused (break_in_line 1)
unfolding answer
prelude_break = refl

-- a prelude makes a link of a text that is too deep then
prelude_too_deep : answer (limited 64 1) (source_of (codes "*[k]*" ∷ [] ∷ codes "x" ∷ []) []) (set_prelude (codes "[k]: /u" ∷ [])) ≡
    refused (inline_too_deep 0)
unfolding answer
prelude_too_deep = refl

-- a container too many is named before an earlier block
prelude_containers : answer (limited 2 2) (source_of (codes "x" ∷ []) []) (set_prelude (codes "y" ∷ [] ∷ codes "> > > z" ∷ [])) ≡
    refused (not_definitions 2)
unfolding answer
prelude_containers = refl
