-- Members that are put into lists, so many at a time.
use Rattle.std.proofs.Common.{◌≡◌, ℕ, ◌+◌, ◌-◌, ◌*◌, ◌<◌, ◌≤◌, List, [], ◌∷◌, ◌++◌, length, take, drop, min, ap, ◌∙◌, arith, append_assoc, suc, zero}
use Rattle.std.specs.List.{All}
use Rattle.std.proofs.lemmas.List.{append-nil, length-drop, length-take, take-append-drop, take_more_set}
use Rattle.std.proofs.lemmas.List.Elements.{All-push}
use Rattle.std.proofs.Math.ListN.{set}
use Rattle.mdchunks.specs.Lists.{IsFilled, joined}
use Rattle.mdchunks.proofs.Joined.{joined-append}

-- one list more
pub packed_more : {A : Type 0} (all rest later chunk : List A) (xss : List (List A)) (used size : ℕ) → joined (take used xss) ++ rest ≡ all → used < length xss →
    chunk ≡ take size rest → later ≡ drop size rest → joined (take (used + 1) (set xss used chunk)) ++ later ≡ all
packed_more all rest later chunk xss used size before here front behind =
    let p = joined (take used xss) in
    let more : joined (take (used + 1) (set xss used chunk)) ≡ p ++ chunk =
    ap joined (take_more_set xss used chunk here) ∙ joined-append (take used xss) (chunk ∷ []) ∙ ap (λ ys. p ++ ys) (append-nil chunk) in
    let whole : chunk ++ later ≡ rest = ap (λ ys. ys ++ later) front ∙ ap (λ ys. take size rest ++ ys) behind ∙ take-append-drop size rest in
    ap (λ ys. ys ++ later) more ∙ append_assoc p chunk later ∙ ap (λ ys. p ++ ys) whole ∙ before

pub filled_more : {A : Type 0} (rest chunk : List A) (xss : List (List A)) (used size : ℕ) → All IsFilled (take used xss) → used < length xss →
    chunk ≡ take size rest → 0 < size → 0 < length rest → All IsFilled (take (used + 1) (set xss used chunk))
filled_more rest chunk xss used size all here front some left =
    let long : length chunk ≡ min size (length rest) = ap length front ∙ length-take size rest in
    let filled : IsFilled chunk = omega (arith, long, some, left) in
    rw (take_more_set xss used chunk here) (All-push IsFilled (take used xss) chunk all filled)

-- a number that is no more than a product that is not 0
pub some_left : (rest size left : ℕ) → 0 < rest → rest ≤ size * left → 0 < left
some_left rest size zero some fits = omega (arith, some, fits)
some_left rest size (suc left) some fits = omega arith

-- room for those that are left
pub room_more : {A : Type 0} (rest later : List A) (size n used : ℕ) → later ≡ drop size rest → length rest ≤ size * (n - used) → used < n → length later ≤ size * (n - (used + 1))
room_more rest later size n used behind fits within =
    let one : n - used ≡ (n - (used + 1)) + 1 = omega (arith, within) in
    let product : size * (n - used) ≡ size * ((n - (used + 1)) + 1) = ap (λ k. size * k) one in
    let long : length later ≡ length rest - size = ap length behind ∙ length-drop size rest in
    omega (arith, product, long, fits)
