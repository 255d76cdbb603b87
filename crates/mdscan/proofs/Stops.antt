-- The bytes before a stop, place by place.
use Rattle.std.specs.Prelude.{if◌then◌else◌}
use Rattle.std.proofs.Common.{◌≡◌, ℕ, ◌+◌, ◌-◌, ◌<◌, true, false, not, ◌&&◌, Bool, List, ◌∷◌, length, take, drop, get_or, drop-cons, add-one, refl, arith}
use Rattle.std.proofs.lemmas.List.{take_rest}
use Rattle.mdscan.specs.BackslashEscapes.{begins_escape, is_one_of, run_after}

pub from_here : (text : List ℕ) (at : ℕ) → at < length text → drop at text ≡ get_or text at 0 ∷ drop (at + 1) text
from_here text at inside = rw add-one (drop-cons text at 0 inside)

chosen : (t : Bool) (a b : ℕ) → elim t [ true ↦ a | false ↦ b ] ≡ (if t then a else b)
chosen true a b = refl
chosen false a b = refl

step : (escaped : Bool) (stops text : List ℕ) (at : ℕ) → at < length text → run_after escaped stops (drop at text)
    ≡ (if not escaped && is_one_of stops (get_or text at 0) then 0 else 1 + run_after (not escaped && begins_escape (drop at text)) stops (drop (at + 1) text))
step escaped stops text at inside =
    rw (from_here text at inside)
    (chosen (not escaped && is_one_of stops (get_or text at 0)) 0
    (1 + run_after (not escaped && begins_escape (get_or text at 0 ∷ drop (at + 1) text)) stops (drop (at + 1) text)))

-- a byte that is no stop is passed
pub past_byte : (escaped : Bool) (stops text : List ℕ) (at all : ℕ) → at < length text → (not escaped && is_one_of stops (get_or text at 0)) ≡ false
    → at + run_after escaped stops (drop at text) ≡ all
    → at + 1 + run_after (not escaped && begins_escape (take (length text - at) (drop at text))) stops (drop (at + 1) text) ≡ all
past_byte escaped stops text at all inside s inv =
    let e = rw s at (step escaped stops text at inside) in rw (take_rest text at) (omega arith)
