-- Sums of weights up to the greatest number.
use Rattle.std.proofs.Common.{◌≡◌, ℕ, ◌+◌, ◌-◌, ◌^◌, ◌<◌, List, [], ◌∷◌, ◌++◌, length, take, drop, get_or, min, ap, sym, ◌∙◌, ◌≤◌, arith}
use Rattle.std.proofs.lemmas.List.{drop_more, length-drop, take_all}
use Rattle.std.proofs.lemmas.List.Sums.{sum_by_more, sum_by-append}
use Rattle.mdchunks.specs.Lists.{joined, weigh}
use Rattle.mdchunks.proofs.Joined.{take_inside}
use Rattle.mdchunks.proofs.Moved.{some_left}

pub weigh_more : {A : Type 0} (w : A → ℕ) (xs : List A) (i : ℕ) (d : A) → i < length xs →
    min (weigh w (take i xs) + w (get_or xs i d)) (2 ^ 64 - 1) ≡ weigh w (take (i + 1) xs)
weigh_more w xs i d here = let e = sum_by_more w xs i d here in omega (arith, e)

pub weigh-append : {A : Type 0} (w : A → ℕ) (xs ys : List A) → min (weigh w xs + weigh w ys) (2 ^ 64 - 1) ≡ weigh w (xs ++ ys)
weigh-append w xs ys = let e = sum_by-append w xs ys in omega (arith, e)

-- what the members in front of a place weigh: those of the lists in front of it, and those of its own list
pub weigh_inside : {A : Type 0} (w : A → ℕ) (xss : List (List A)) (i k at : ℕ) (d : List A) → i < length xss → k ≤ length (get_or xss i d) → length (joined (take i xss)) + k ≡ at →
    min (weigh w (joined (take i xss)) + weigh w (take k (get_or xss i d))) (2 ^ 64 - 1) ≡ weigh w (take at (joined xss))
weigh_inside w xss i k at d here within e =
    weigh-append w (joined (take i xss)) (take k (get_or xss i d)) ∙ ap (weigh w) (sym (take_inside xss i k at d here within e))

-- the member that comes next
pub weigh_next : {A : Type 0} (w : A → ℕ) (xs rest later : List A) (i : ℕ) (x : A) → rest ≡ drop i xs → rest ≡ x ∷ later →
    min (weigh w (take i xs) + w x) (2 ^ 64 - 1) ≡ weigh w (take (i + 1) xs)
weigh_next w xs rest later i x is first =
    let moved : drop i xs ≡ x ∷ later = sym is ∙ first in
    let here = some_left xs later i x moved in
    let more = drop_more xs i x here in
    let head : get_or xs i x ≡ x = cc in
    ap (λ y. min (weigh w (take i xs) + w y) (2 ^ 64 - 1)) (sym head) ∙ weigh_more w xs i x here

-- none comes any more
pub weigh_none : {A : Type 0} (w : A → ℕ) (xs rest : List A) (i n : ℕ) → rest ≡ drop i xs → rest ≡ [] → i ≤ n → weigh w (take i xs) ≡ weigh w (take n xs)
weigh_none w xs rest i n is none low =
    let past = length-drop i xs in
    let empty = ap length (sym is ∙ none) in
    ap (weigh w) (take_all i xs (omega (arith, past, empty)) ∙ sym (take_all n xs (omega (arith, past, empty, low))))
