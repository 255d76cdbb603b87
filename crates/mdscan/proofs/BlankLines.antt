-- Where a text holds a blank line, place by place.
use Rattle.std.proofs.Common.{◌≡◌, ℕ, ◌+◌, ◌-◌, ◌<◌, ◌||◌, false, Bool, List, length, take, drop, refl, ap, ◌∙◌}
use Rattle.std.proofs.lemmas.List.{take_rest}
use Rattle.mdscan.specs.LinkTitle.{begins_blank_line, holds_blank_line}
use Rattle.mdscan.proofs.Stops.{from_here}

step : (text : List ℕ) (at : ℕ) → at < length text → holds_blank_line (drop at text) ≡ (begins_blank_line (drop at text) || holds_blank_line (drop (at + 1) text))
step text at inside = rw (from_here text at inside) refl

pub no_blank_line_here : (text : List ℕ) (at : ℕ) → at < length text → begins_blank_line (take (length text - at) (drop at text)) ≡ false → holds_blank_line (drop at text) ≡ holds_blank_line (drop (at + 1) text)
no_blank_line_here text at inside h = let e = rw (take_rest text at) at h in step text at inside ∙ ap (λ (b : Bool). b || holds_blank_line (drop (at + 1) text)) e
