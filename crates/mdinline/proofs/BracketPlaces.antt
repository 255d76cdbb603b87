-- Brackets that were read before a place.
use Rattle.std.proofs.Common.{◌≡◌, ℕ, ◌+◌, ◌≤◌, List, [], ◌∷◌, ◌++◌, length, length-append, get_or, ap, ◌∙◌, subst, arith}
use Rattle.std.proofs.lemmas.List.{get_or_append_left}
use Rattle.std.proofs.Math.Seq.{get_or-append_seam}
use Rattle.mdscan.specs.Spans.{IsEndAfter}
use Rattle.mdinline.specs.held.Brackets.{IsBehindBracket, AreBracketsOf, IsLinkEnd}
use Rattle.mdinline.specs.declared.bracket_stack.Opening.{Opening}

pub brackets_later : (text : List ℕ) (at end : ℕ) (openings : List Opening) → at ≤ end → AreBracketsOf text at openings → AreBracketsOf text end openings
brackets_later text at end openings le h = λ k d lt. (let b = h k d lt in let before = b.before in record { whole = b.whole; before = omega (arith, before, le) })

-- the end of a link whose text ends at a place
pub link_end : (text : List ℕ) (at end : ℕ) → IsLinkEnd text (at + 1) end → IsEndAfter text at end
link_end text at end h = let from = h.from in record { later = omega (arith, from); within = h.whole.0; whole = h.whole }

-- the nearest one is taken away
pub brackets_left : (text : List ℕ) (at : ℕ) (old new : List Opening) (o : Opening) → old ≡ new ++ o ∷ [] → AreBracketsOf text at old → AreBracketsOf text at new
brackets_left text at old new o e h = λ k d lt.
    subst (λ x. IsBehindBracket text at x.begin) (ap (λ xs. get_or xs k d) e ∙ get_or_append_left new (o ∷ []) d k lt)
    (h k d (let long : length old ≡ length (new ++ o ∷ []) = ap (λ xs. length xs) e in omega (arith, long, length-append new (o ∷ []), lt)))

-- and stands behind the place as well
pub last_bracket : (text : List ℕ) (at : ℕ) (old new : List Opening) (o : Opening) → old ≡ new ++ o ∷ [] → AreBracketsOf text at old → IsBehindBracket text at o.begin
last_bracket text at old new o e h =
    subst (λ x. IsBehindBracket text at x.begin) (ap (λ xs. get_or xs (length new) o) e ∙ get_or-append_seam new o [] o)
    (h (length new) o (let long : length old ≡ length (new ++ o ∷ []) = ap (λ xs. length xs) e in omega (arith, long, length-append new (o ∷ []))))
