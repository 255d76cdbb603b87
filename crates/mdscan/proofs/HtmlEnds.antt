-- Where a line holds the end of an HTML block, place by place.
use Rattle.std.proofs.Common.{◌≡◌, ℕ, ◌+◌, ◌-◌, ◌<◌, ◌≤◌, ◌||◌, true, false, List, length, take, drop, drop-cons, add-one, ap, ◌∙◌}
use Rattle.std.proofs.lemmas.List.{take_rest}
use Rattle.std.proofs.Math.ListN.{drop_of_length-le}
use Rattle.mdscan.specs.HtmlBlock.{ends_kind, holds_end}

step : (kind : ℕ) (text : List ℕ) (at : ℕ) → at < length text → holds_end kind (drop at text) ≡ (ends_kind kind (drop at text) || holds_end kind (drop (at + 1) text))
unfolding holds_end
step kind text at inside = rw (add-one, drop-cons text at 0)

-- where the rest of a text is given as a slice of it
pub here : (kind : ℕ) (text : List ℕ) (at : ℕ) → at < length text → ends_kind kind (take (length text - at) (drop at text)) ≡ true → holds_end kind (drop at text) ≡ true
here kind text at inside h = let e = rw (take_rest text at) at h in step kind text at inside ∙ ap (λ b. b || holds_end kind (drop (at + 1) text)) e

pub later : (kind : ℕ) (text : List ℕ) (at : ℕ) → at < length text → ends_kind kind (take (length text - at) (drop at text)) ≡ false → holds_end kind (drop at text) ≡ holds_end kind (drop (at + 1) text)
later kind text at inside h = let e = rw (take_rest text at) at h in step kind text at inside ∙ ap (λ b. b || holds_end kind (drop (at + 1) text)) e

pub none : (kind : ℕ) (text : List ℕ) (at : ℕ) → length text ≤ at → holds_end kind (drop at text) ≡ false
unfolding holds_end
none kind text at past = rw (drop_of_length-le text past)
