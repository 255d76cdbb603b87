use Rattle.std.proofs.Common.{◌≡◌, ℕ, suc, ◌<◌, false, List, ◌∷◌, length, drop, get_or, sym, ap, ◌∙◌, arith, drop-cons}
use Rattle.std.proofs.lemmas.List.{nil_from_length}
use Rattle.htmlspec.specs.Attributes.{begins_with}
use Rattle.mdhtml.proofs.destinations.begins_with.Goals as goal

-- nothing is left, and more is wanted
too_short : (text rest : List ℕ) (i : ℕ) → i < length text → length rest < 1 → begins_with (drop i text) rest ≡ false
too_short text rest i lt none =
    ap (λ t. begins_with t rest) (drop-cons text i 0 lt) ∙ ap (begins_with (get_or text i 0 ∷ drop (suc i) text)) (nil_from_length rest (omega arith))

pub returns-in_default : goal.returns-in_default
returns-in_default c =
    sym (too_short c.args.text.now c.loop-want.rest.now c.loop-want.want-index c.loop-want-test.true c.in_default.len_below) ∙ c.loop-want.invariant
