-- Members exchanged one by one, and the rest behind them.
use Rattle.std.proofs.Common.{◌≡◌, ℕ, ◌+◌, ◌-◌, ◌≤◌, ◌<◌, List, [], ◌∷◌, ◌++◌, length, take, drop, refl, ap, sym, ◌∙◌, arith, append_assoc, get_or, suc}
use Rattle.std.proofs.lemmas.List.{take-append-drop, length-append, length-take-le, take_more_set, drop-set-lt}
use Rattle.std.proofs.Math.Seq.{take-append_seam, drop-append-add, take-suc}
use Rattle.std.proofs.Math.ListN.{set}
use Rattle.std.proofs.Math.Seq.{drop-drop}
use Rattle.std.proofs.lemmas.List.{get_or-drop}
use Rattle.mdchunks.specs.Lists.{replaced}

-- where the first b of the members that go are exchanged already, the rest
pub rest_replaced : {A : Type 0} (xs add : List A) (at del b : ℕ) → at + del ≤ length xs → b ≤ del → b ≤ length add →
    replaced (take at xs ++ take b add ++ drop (at + b) xs) (at + b) (del - b) (drop b add) ≡ replaced xs at del add
rest_replaced xs add at del b within few enough =
    let front = take at xs ++ take b add in
    let back = drop (at + b) xs in
    let la : length (take at xs) ≡ at = length-take-le at xs (omega (arith, within)) in
    let lb : length (take b add) ≡ b = length-take-le b add enough in
    let long : length front ≡ at + b = length-append (take at xs) (take b add) ∙ omega (arith, la, lb) in
    let first : take (at + b) (front ++ back) ≡ front = ap (λ k. take k (front ++ back)) (sym long) ∙ take-append_seam front back in
    let end : at + b + (del - b) ≡ length front + (del - b) = omega (arith, long) in
    let whole : at + b + (del - b) ≡ at + del = omega (arith, few) in
    let last : drop (at + b + (del - b)) (front ++ back) ≡ drop (at + del) xs =
    ap (λ k. drop k (front ++ back)) end ∙ drop-append-add front back (del - b) ∙ drop-drop (del - b) (at + b) xs ∙ ap (λ k. drop k xs) whole in
    let joined : front ++ drop b add ≡ take at xs ++ add = append_assoc (take at xs) (take b add) (drop b add) ∙ ap (λ ys. take at xs ++ ys) (take-append-drop b add) in
    rw (first, last, joined) refl

-- one member more that is exchanged
pub front_swapped : {A : Type 0} (old add xs rest : List A) (at i : ℕ) (x d : A) → at + i < length xs → i < length rest → length rest ≡ length add →
    take (at + i) xs ≡ take at old ++ take i add → drop i rest ≡ drop i add → x ≡ get_or rest i d →
    take (at + (i + 1)) (set xs (at + i) x) ≡ take at old ++ take (i + 1) add
front_swapped old add xs rest at i x d room more same front behind is =
    let one : at + (i + 1) ≡ at + i + 1 = omega arith in
    let next : i + 1 ≡ suc i = omega arith in
    let zero_more : i + 0 ≡ i = omega arith in
    let here : x ≡ get_or add i d =
    is ∙ ap (λ k. get_or rest k d) (sym zero_more) ∙ sym (get_or-drop i rest 0 d) ∙ ap (λ ys. get_or ys 0 d) behind ∙ get_or-drop i add 0 d ∙ ap (λ k. get_or add k d) zero_more in
    let more_add : take (i + 1) add ≡ take i add ++ x ∷ [] =
    ap (λ k. take k add) next ∙ take-suc add i d (omega (arith, more, same)) ∙ ap (λ y. take i add ++ y ∷ []) (sym here) in
    ap (λ k. take k (set xs (at + i) x)) one ∙ take_more_set xs (at + i) x room ∙ ap (λ ys. ys ++ x ∷ []) front
    ∙ append_assoc (take at old) (take i add) (x ∷ []) ∙ ap (λ ys. take at old ++ ys) (sym more_add)

pub back_swapped : {A : Type 0} (xs old : List A) (n i : ℕ) (x : A) → n ≡ i + 1 → drop i xs ≡ drop i old → drop n (set xs i x) ≡ drop n old
back_swapped xs old n i x e same =
    drop-set-lt n xs i x (omega (arith, e)) ∙ ap (λ k. drop k xs) e ∙ sym (drop-drop 1 i xs) ∙ ap (drop 1) same ∙ drop-drop 1 i old ∙ ap (λ k. drop k old) (sym e)
