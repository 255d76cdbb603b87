-- Members that are moved from the front of a list, one by one.
use Rattle.std.proofs.Common.{◌≡◌, ℕ, ◌+◌, ◌<◌, List, [], ◌∷◌, ◌++◌, length, take, drop, get_or, ap, sym, ◌∙◌, arith}
use Rattle.std.proofs.lemmas.List.{drop_more, take_more, length-drop}

pub some_left : {A : Type 0} (xs ys : List A) (n : ℕ) (x : A) → drop n xs ≡ x ∷ ys → n < length xs
some_left xs ys n x e = let h = ap length e in omega (arith, length-drop n xs, h)

pub drop_moved : {A : Type 0} (xs ys : List A) (n : ℕ) (x : A) → drop n xs ≡ x ∷ ys → ys ≡ drop (n + 1) xs
drop_moved xs ys n x e = let more = drop_more xs n x (some_left xs ys n x e) in cc

pub take_moved : {A : Type 0} (xs ys : List A) (n : ℕ) (x : A) → drop n xs ≡ x ∷ ys → take n xs ++ x ∷ [] ≡ take (n + 1) xs
take_moved xs ys n x e =
    let here = some_left xs ys n x e in
    let more = drop_more xs n x here in
    let head : get_or xs n x ≡ x = cc in
    sym (take_more xs n x here ∙ ap (λ y. take n xs ++ y ∷ []) head)
