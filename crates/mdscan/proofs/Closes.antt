-- Where a text ends that a close ends.
use Rattle.std.proofs.Common.{◌≡◌, ℕ, ◌+◌, ◌-◌, ◌<◌, ◌≤◌, true, nat_eq, List, length, take, drop, get_or, get_or-take, get_or-drop, arith, sym, subst, ap, ◌∙◌, length-drop}
use Rattle.std.specs.Cmp.Lexicographic.{same_text}
use Rattle.std.specs.List.{starts_with, slice_index}
use Rattle.std.proofs.lemmas.List.{take_rest}
use Rattle.mdscan.specs.Spans.{EndsAfterMark}

-- the last byte of a close, where a text begins with the close
last_byte : (rest close : List ℕ) → starts_with nat_eq rest close ≡ true → 0 < length close → get_or rest (length close - 1) 0 ≡ get_or close (length close - 1) 0
last_byte rest close h some =
    let k : ℕ = length close - 1 in
    let before : k < length close = omega arith in
    let same = same_text close (take (length close) rest) (sym h) in
    sym (get_or-take (length close) rest k 0 before) ∙ ap (λ (t : List ℕ). get_or t k 0) (sym same)

-- the close stands at a place after the front
pub close_ends : (text close : List ℕ) (front place : ℕ) → front ≤ length text → place + length close ≤ length (take (length text - front) (drop front text)) → starts_with nat_eq (drop place (take (length text - front) (drop front text))) close ≡ true → 0 < length close → slice_index close (length close - 1) < 128 → EndsAfterMark text 0 (front + place + length close)
close_ends text close front place inside within there some ascii =
    let rest = take_rest text front in
    let w : place + length close ≤ length (drop front text) = subst (λ (t : List ℕ). place + length close ≤ length t) rest within in
    let t = subst (λ (t : List ℕ). starts_with nat_eq (drop place t) close ≡ true) rest there in
    let k : ℕ = length close - 1 in
    let byte = last_byte (drop place (drop front text)) close t some in
    let moved : get_or (drop place (drop front text)) k 0 ≡ get_or text (front + (place + k)) 0 = get_or-drop place (drop front text) k 0 ∙ get_or-drop front text (place + k) 0 in
    let e : front + (place + k) ≡ front + place + length close - 1 = omega arith in
    let last : get_or text (front + place + length close - 1) 0 ≡ get_or close k 0 = ap (λ (i : ℕ). get_or text i 0) (sym e) ∙ (sym moved ∙ byte) in
    record { later = omega arith; within = omega (arith, length-drop front text); mark = subst (λ (b : ℕ). b < 128) (sym last) ascii }
