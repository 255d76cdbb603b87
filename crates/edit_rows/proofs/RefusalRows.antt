-- Rows of refusals, by computation.
use Rattle.std.proofs.Common.{◌≡◌, [], ◌∷◌, refl, codes}
use Rattle.mdsource.specs.Calls.{edit}
use Rattle.mdsource.specs.Refusals.{out_of_range, break_in_line, nested_too_deep, inline_too_deep}
use Rattle.edit_rows.proofs.ReadEdits.{answers, refused, source_of, limited, plain, answer}

-- at is past the last line
past_the_end : answer plain (source_of (codes "a" ∷ [] ∷ codes "b" ∷ []) []) (edit 9 1 []) ≡ refused (out_of_range 3)
unfolding answer
past_the_end = refl

-- fewer lines stand behind the place than are to go
too_many_gone : answer plain (source_of (codes "a" ∷ [] ∷ codes "b" ∷ []) []) (edit 2 2 []) ≡ refused (out_of_range 3)
unfolding answer
too_many_gone = refl

-- the place behind the last line is one
at_the_end : answer plain (source_of (codes "a" ∷ [] ∷ codes "b" ∷ []) []) (edit 3 0 (codes "c" ∷ [])) ≡ answers 2 4 1 1 1 [] 1 []
unfolding answer
at_the_end = refl

-- five lines, and an edit far behind them
worked_range : answer plain (source_of (codes "[foo]" ∷ [] ∷ codes "x" ∷ [] ∷ codes "[foo]: /a" ∷ []) []) (edit 9 1 []) ≡ refused (out_of_range 5)
unfolding answer
worked_range = refl

-- a carriage return inside a line
worked_break : answer plain (source_of (codes "[foo]" ∷ [] ∷ codes "x" ∷ [] ∷ codes "[foo]: /a" ∷ []) []) (edit 0 0 (codes "a\rb" ∷ [])) ≡
    refused (break_in_line 0)
unfolding answer
worked_break = refl

-- 64 quotes in one another are accepted
worked_fits : answer plain (source_of [] []) (edit 0 0 (codes ">>>>>>>>>>>>>>>>>>>>>>>>>>>>>>>>>>>>>>>>>>>>>>>>>>>>>>>>>>>>>>>>x" ∷ [])) ≡
    answers 0 1 0 0 1 [] 1 []
unfolding answer
worked_fits = refl

-- 65 are not, and the line is named
worked_containers : answer plain (source_of [] []) (edit 0 0 ([] ∷ codes ">>>>>>>>>>>>>>>>>>>>>>>>>>>>>>>>>>>>>>>>>>>>>>>>>>>>>>>>>>>>>>>>>x" ∷ [])) ≡
    refused (nested_too_deep 1)
unfolding answer
worked_containers = refl

-- 64 spans in one another are accepted
worked_spans : answer plain (source_of [] []) (edit 0 0 (codes "*a *a *a *a *a *a *a *a *a *a *a *a *a *a *a *a *a *a *a *a *a *a *a *a *a *a *a *a *a *a *a *a *a *a *a *a *a *a *a *a *a *a *a *a *a *a *a *a *a *a *a *a *a *a *a *a *a *a *a *a *a *a *a *a [k] a* a* a* a* a* a* a* a* a* a* a* a* a* a* a* a* a* a* a* a* a* a* a* a* a* a* a* a* a* a* a* a* a* a* a* a* a* a* a* a* a* a* a* a* a* a* a* a* a* a* a* a* a* a* a* a* a* a* a* a* a* a* a* a*" ∷ [] ∷ codes "x" ∷ [] ∷ [])) ≡
    answers 0 4 0 0 2 [] 2 []
unfolding answer
worked_spans = refl

-- a definition makes a link inside of them
worked_far_text : answer plain (source_of (codes "*a *a *a *a *a *a *a *a *a *a *a *a *a *a *a *a *a *a *a *a *a *a *a *a *a *a *a *a *a *a *a *a *a *a *a *a *a *a *a *a *a *a *a *a *a *a *a *a *a *a *a *a *a *a *a *a *a *a *a *a *a *a *a *a [k] a* a* a* a* a* a* a* a* a* a* a* a* a* a* a* a* a* a* a* a* a* a* a* a* a* a* a* a* a* a* a* a* a* a* a* a* a* a* a* a* a* a* a* a* a* a* a* a* a* a* a* a* a* a* a* a* a* a* a* a* a* a* a* a*" ∷ [] ∷ codes "x" ∷ [] ∷ []) []) (edit 4 0 (codes "[k]: /u" ∷ [])) ≡
    refused (inline_too_deep 0)
unfolding answer
worked_far_text = refl

-- a line that comes holds CR; the first such is named
carriage_return : answer plain (source_of (codes "a" ∷ []) []) (edit 0 0 (codes "x" ∷ codes "y\rz" ∷ codes "\r" ∷ [])) ≡ refused (break_in_line 1)
unfolding answer
carriage_return = refl

-- the place is tested before the lines
range_first : answer plain (source_of (codes "a" ∷ []) []) (edit 7 0 (codes "\r" ∷ [])) ≡ refused (out_of_range 1)
unfolding answer
range_first = refl

-- three containers in one another, where two may be
containers : answer (limited 2 2) (source_of (codes "a" ∷ []) []) (edit 1 0 ([] ∷ codes "> > > b" ∷ [])) ≡ refused (nested_too_deep 2)
unfolding answer
containers = refl

-- two fit
containers_fit : answer (limited 2 2) (source_of (codes "a" ∷ []) []) (edit 1 0 ([] ∷ codes "> - b" ∷ [])) ≡ answers 0 3 0 1 2 [] 2 []
unfolding answer
containers_fit = refl

-- an edit of the line above makes them three
containers_by_edit : answer (limited 2 2) (source_of (codes "a" ∷ [] ∷ codes "> - b" ∷ []) []) (edit 1 2 (codes "- a" ∷ codes "  > - b" ∷ [])) ≡
    refused (nested_too_deep 2)
unfolding answer
containers_by_edit = refl

-- three spans in one another, where two may be: the line of the unit is named
spans : answer (limited 64 2) (source_of (codes "a" ∷ []) []) (edit 1 0 ([] ∷ codes "x" ∷ codes "***y** *z***" ∷ [])) ≡ answers 0 4 0 1 2 [] 2 []
unfolding answer
spans = refl

-- two fit
spans_fit : answer (limited 64 2) (source_of (codes "a" ∷ [] ∷ codes "x" ∷ codes "***y** *z***" ∷ []) []) (edit 1 0 ([] ∷ codes "*y **z***" ∷ [])) ≡
    answers 0 4 0 1 2 [] 2 []
unfolding answer
spans_fit = refl

-- containers are tested before spans
containers_before_spans : answer (limited 64 2) (source_of (codes "a" ∷ [] ∷ codes "*y **z***" ∷ [] ∷ codes "x" ∷ codes "***y** *z***" ∷ []) []) (edit 0 0 (codes "*a **b *c****" ∷ [] ∷ codes "> > > d" ∷ [])) ≡
    refused (inline_too_deep 0)
unfolding answer
containers_before_spans = refl

-- a definition makes a link of a text far above, which is too deep then
far_text : answer (limited 64 1) (source_of (codes "*[k]*" ∷ [] ∷ codes "x" ∷ []) []) (edit 3 0 (codes "[k]: /u" ∷ [])) ≡ answers 2 4 1 1 1 [] 1 []
unfolding answer
far_text = refl

-- where one may be, a quote in a quote is refused
one_container : answer (limited 1 1) (source_of (codes "a" ∷ []) []) (edit 0 1 (codes ">> a" ∷ [])) ≡ refused (nested_too_deep 0)
unfolding answer
one_container = refl

-- a list item alone is not
one_container_fits : answer (limited 1 1) (source_of (codes "a" ∷ []) []) (edit 0 1 (codes "- a" ∷ [])) ≡ answers 0 1 0 1 1 [] 1 []
unfolding answer
one_container_fits = refl

-- the greatest limit
deep_limit : answer (limited 256 256) (source_of (codes "a" ∷ []) []) (edit 0 1 (codes ">>>>>>>>>>>>>>>>>>>> a" ∷ [])) ≡ answers 0 1 0 1 1 [] 1 []
unfolding answer
deep_limit = refl
