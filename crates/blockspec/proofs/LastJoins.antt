-- Whether the last line begins a later item, as the lines that a reader holds and their summary tell.
use Rattle.std.proofs.Common.{◌≡◌, ℕ, suc, ◌<◌, Bool, true, false, not, ◌&&◌, ◌||◌, List, [], ◌∷◌, ◌++◌, length, map, refl, sym, ◌∙◌, ap, arith, length-append}
use Rattle.std.proofs.lemmas.Bool.Decides.{nat_tests}
use Rattle.std.proofs.lemmas.List.{map-append, append-nil}
use Rattle.std.proofs.lemmas.List.Folds.{list_any-append}
use Rattle.std.specs.List.{list_any}
use Rattle.std.specs.Prelude.{◌==◌, if◌then◌else◌}
use Rattle.mdtext.specs.EntityTable.{EntityTable}
use Rattle.blockspec.specs.BlockLine.{BlockLine, document_line}
use Rattle.blockspec.specs.BlankLines.{is_blank_line}
use Rattle.blockspec.specs.BlockStart.{begun}
use Rattle.blockspec.specs.BlockUnits.{depth_of, groups_within}
use Rattle.blockspec.specs.LineSummary.{last_of, summary_within, summary_of, is_apart_after}
use Rattle.blockspec.specs.Meetings.{joins_behind, joins_list}
use Rattle.blockspec.specs.Stretches.{no_lines, cut_by, tip_within}
use Rattle.blockspec.specs.UnitBegin.{begins_unit, list_mark, same_mark, tail_mark}
use Rattle.blockspec.specs.UnitReader.{lines_held}
use Rattle.blockspec.proofs.DocumentLaws.{map_length}
use Rattle.blockspec.proofs.LeafSteps.{cut_made}
use Rattle.blockspec.proofs.LimitLaws.{for_next_line}
use Rattle.blockspec.proofs.ReaderLaws.{summary_deep}
use Rattle.blockspec.proofs.SummaryLaws.{laws, of_apart, tail_marked}
use Rattle.blockspec.specs.Joins.{joins, is_joined}
use Rattle.blockspec.specs.SummaryJoins.{joins_after}
use Rattle.blockspec.proofs.JoinCuts.{joins_cut}
use Rattle.blockspec.proofs.JoinLines.{AreBelow, with_number, joins_in, joins_next, joins_below, joins_deep}

-- ---- by the summary of the lines before it

joins_law : (e : EntityTable) (d : ℕ) (xs : List BlockLine) (l : BlockLine) →
    joins_behind (tip_within d) (cut_by (tip_within d) xs) l ≡ joins_after (summary_within e (suc d) xs) l
unfolding joins_behind joins_after summary_within
joins_law e d xs l =
    let t = (cut_by (tip_within d) xs).tail in
    let last = last_of e (groups_within e d) (summary_within e d) t in
    ap (λ z. z && not (is_blank_line l) && same_mark (tail_mark t) (list_mark (begun l))) (of_apart (laws e d) t l (cut_made (tip_within d) no_lines xs tt))
    ∙ ap (λ z. is_apart_after last l && not (is_blank_line l) && same_mark z (list_mark (begun l))) (tail_marked e d t)

-- Whether a line begins a later item follows from the summary of those before it.
pub summary_joins : (e : EntityTable) (ls : List BlockLine) (l : BlockLine) → joins_list ls l ≡ joins_after (summary_of e ls) l
summary_joins e ls l =
    let d = depth_of ls in
    sym (joins_deep d ls l (omega arith))
    ∙ joins_law e d ls l
    ∙ ap (λ z. joins_after z l) (summary_deep e (suc d) ls (omega arith))

-- ---- by the lines that are held

pub held_joins : (xs ls : List BlockLine) (l : BlockLine) → joins_list (lines_held xs ls) l ≡ joins_list (xs ++ ls) l
unfolding lines_held
held_joins xs [] l = ap (λ z. joins_list z l) (sym (append-nil xs))
held_joins xs (x ∷ ls) l = go (begins_unit xs x) refl (held_joins (x ∷ []) ls l) (held_joins (xs ++ x ∷ []) ls l)
  where
    go : (b : Bool) → begins_unit xs x ≡ b → joins_list (lines_held (x ∷ []) ls) l ≡ joins_list (x ∷ ls) l →
        joins_list (lines_held (xs ++ x ∷ []) ls) l ≡ joins_list ((xs ++ x ∷ []) ++ ls) l →
        joins_list (if b then lines_held (x ∷ []) ls else lines_held (xs ++ x ∷ []) ls) l ≡ joins_list (xs ++ x ∷ ls) l
    go true b new old = new ∙ sym (joins_cut xs x ls l b)
    go false b new old = old ∙ ap (λ z. joins_list z l) (for_next_line xs x ls)

-- ---- the last line of some

not_last : (n : ℕ) (js : List ℕ) → AreBelow n js → list_any (λ j. suc j == suc n) js ≡ false
not_last n [] w = refl
not_last n (j ∷ js) w =
    let less : j < n = w.0 in
    let other : (suc j == suc n) ≡ false = grind (arith, nat_tests, less) in
    ap (λ z. z || list_any (λ k. suc k == suc n) js) other ∙ not_last n js w.1

is_last : (n : ℕ) → (suc n == suc n) ≡ true
is_last n = grind (arith, nat_tests)

numbered : (b : Bool) (n : ℕ) (js : List ℕ) → AreBelow n js → list_any (λ j. suc j == suc n) (with_number b n js) ≡ b
numbered true n js w =
    list_any-append (λ j. suc j == suc n) js (n ∷ []) ∙ ap (λ z. z || list_any (λ j. suc j == suc n) (n ∷ [])) (not_last n js w) ∙ ap (λ z. z || false) (is_last n)
numbered false n js w = not_last n js w

one_more : (ls : List (List ℕ)) (line : List ℕ) → length (ls ++ line ∷ []) ≡ suc (length ls)
one_more ls line = let p = length-append ls (line ∷ []) in omega (arith, p)

-- The last of some lines is told by the lines before it.
pub joined_next : (e : EntityTable) (ls : List (List ℕ)) (line : List ℕ) → is_joined e (ls ++ line ∷ []) ≡ joins_list (map document_line ls) (document_line line)
joined_next e ls line =
    let xs = map document_line ls in
    let x = document_line line in
    let size : length xs ≡ length ls = map_length document_line ls in
    ap (λ z. list_any (λ j. suc j == z) (joins e (ls ++ line ∷ []))) (one_more ls line ∙ ap (λ z. suc z) (sym size))
    ∙ ap (λ z. list_any (λ j. suc j == suc (length xs)) (joins_in e z)) (map-append document_line ls (line ∷ []))
    ∙ ap (λ z. list_any (λ j. suc j == suc (length xs)) z) (joins_next e xs x)
    ∙ numbered (joins_list xs x) (length xs) (joins_in e xs) (joins_below e xs)

-- And by the summary of those before it that are held.
pub joined_behind_held : (e : EntityTable) (ls : List (List ℕ)) (line : List ℕ) →
    is_joined e (ls ++ line ∷ []) ≡ joins_after (summary_of e (lines_held [] (map document_line ls))) (document_line line)
joined_behind_held e ls line =
    let xs = map document_line ls in
    joined_next e ls line ∙ sym (held_joins [] xs (document_line line)) ∙ summary_joins e (lines_held [] xs) (document_line line)
