-- Members of two lists exchanged one by one.
use Rattle.std.proofs.Common.{◌≡◌, ℕ, suc, ◌+◌, ◌<◌, List, [], ◌∷◌, ◌++◌, length, take, drop, append_assoc, ap, sym, ◌∙◌, arith, get_or}
use Rattle.std.proofs.lemmas.List.{drop-set-lt, get_or-drop, take_more_set}
use Rattle.std.proofs.Math.ListN.{set}
use Rattle.std.proofs.Math.Seq.{drop-drop, take-suc}

pub between_swapped : {A : Type 0} (front others xs rest : List A) (j i : ℕ) (x d : A) → j < length xs → i < length rest → length rest ≡ length others →
    take j xs ≡ front ++ take i others → drop i rest ≡ drop i others → x ≡ get_or rest i d → take (j + 1) (set xs j x) ≡ front ++ take (i + 1) others
between_swapped front others xs rest j i x d room more same before behind is =
    let next : i + 1 ≡ suc i = omega arith in
    let zero_more : i + 0 ≡ i = omega arith in
    let here : x ≡ get_or others i d =
    is
    ∙ ap (λ k. get_or rest k d) (sym zero_more)
    ∙ sym (get_or-drop i rest 0 d)
    ∙ ap (λ ys. get_or ys 0 d) behind
    ∙ get_or-drop i others 0 d
    ∙ ap (λ k. get_or others k d) zero_more in
    take_more_set xs j x room
    ∙ ap (λ ys. ys ++ x ∷ []) before
    ∙ append_assoc front (take i others) (x ∷ [])
    ∙ ap (λ y. front ++ (take i others ++ y ∷ [])) here
    ∙ ap (λ ys. front ++ ys) (sym (ap (λ k. take k others) next ∙ take-suc others i d (omega (arith, more, same))))

pub back_swapped : {A : Type 0} (xs old : List A) (n i : ℕ) (x : A) → n ≡ i + 1 → drop i xs ≡ drop i old → drop n (set xs i x) ≡ drop n old
back_swapped xs old n i x e same =
    drop-set-lt n xs i x (omega (arith, e))
    ∙ ap (λ k. drop k xs) e
    ∙ sym (drop-drop 1 i xs)
    ∙ ap (drop 1) same
    ∙ drop-drop 1 i old
    ∙ ap (λ k. drop k old) (sym e)
