-- Lists that are walked over from a place on: what comes next, and what is left.
use Rattle.std.proofs.Common.{◌≡◌, ℕ, ◌+◌, ◌-◌, ◌<◌, ◌≤◌, List, [], ◌∷◌, ◌++◌, Option, Some, None, String, Global, string_bytes, map, length, take, drop, get_or, refl, ap, sym, subst, ◌∙◌, arith, length-append, length-drop}
use Rattle.std.specs.Prelude.{IsSome, MatchOption}
use Rattle.std.specs.List.{drop-map}
use Rattle.std.proofs.lemmas.List.{drop-append-le, drop-drop, drop-take, get_or-drop, length-take-le}
use Rattle.mdview.specs.Lists.{replaced}
use Rattle.mdview.proofs.Sizes.{map_replaced}

-- where something is left, something comes
pub something_comes : {A B : Type 0} (view : A → B) (r : Option A) (old new : List B) → MatchOption r ((old ≡ []) × (new ≡ [])) (λ x. old ≡ view x ∷ new) → 0 < length old → IsSome r
something_comes view (Some x) old new w some = refl
something_comes view None old new w some = let none : length old ≡ 0 = ap (λ xs. length xs) w.0 in absurd (omega (arith, none, some))

-- and that is the first of it
pub first_comes : {A B : Type 0} (view : A → B) (r : Option A) (old new : List B) (x : A) → MatchOption r ((old ≡ []) × (new ≡ [])) (λ x. old ≡ view x ∷ new) → r ≡ Some x → old ≡ view x ∷ new
first_comes view r old new x w is = subst (λ r. MatchOption r ((old ≡ []) × (new ≡ [])) (λ x. old ≡ view x ∷ new)) is w

pub left_at : {A : Type 0} (xs old : List A) (i : ℕ) → old ≡ drop i xs → i < length xs → 0 < length old
left_at xs old i is below = let same = ap (λ z. length z) is in omega (arith, same, below, length-drop i xs)

-- what is left behind the first
pub left_behind : {A : Type 0} (xs old new : List A) (x : A) (i : ℕ) → old ≡ drop i xs → old ≡ x ∷ new → new ≡ drop (i + 1) xs
left_behind xs old new x i is first = ap (drop 1) (sym first ∙ is) ∙ drop-drop 1 i xs

-- the first of what is left
pub first_left : {A : Type 0} (xs old new : List A) (x d : A) (i : ℕ) → old ≡ drop i xs → old ≡ x ∷ new → x ≡ get_or xs i d
first_left xs old new x d i is first =
    let same : i + 0 ≡ i = omega arith in
    ap (λ z. get_or z 0 d) (sym first ∙ is) ∙ get_or-drop i xs 0 d ∙ ap (λ n. get_or xs n d) same

parts_from : {A : Type 0} (xs add : List A) (at del from : ℕ) → from ≤ at → at ≤ length xs → drop from (replaced xs at del add) ≡ take (at - from) (drop from xs) ++ add ++ drop (at + del) xs
parts_from xs add at del from order within =
    let size = length-take-le at xs within in
    let split : from + (at - from) ≡ at = omega (arith, order) in
    drop-append-le from (take at xs ++ add) (drop (at + del) xs) (omega (arith, order, size, length-append (take at xs) add))
    ∙ ap (λ z. z ++ drop (at + del) xs) (drop-append-le from (take at xs) add (omega (arith, order, size)))
    ∙ ap (λ n. (drop from (take n xs) ++ add) ++ drop (at + del) xs) (sym split)
    ∙ ap (λ z. (z ++ add) ++ drop (at + del) xs) (drop-take from (at - from) xs)

-- The lines of an edited text from one on that is not behind the edit.
pub lines_from_is : (lines added : List (String Global)) (at gone from : ℕ) → from ≤ at → at ≤ length lines
    → map string_bytes (take (at - from) (drop from lines) ++ added ++ drop (at + gone) lines) ≡ drop from (replaced (map string_bytes lines) at gone (map string_bytes added))
lines_from_is lines added at gone from order within =
    ap (map string_bytes) (sym (parts_from lines added at gone from order within))
    ∙ sym (drop-map string_bytes from (replaced lines at gone added))
    ∙ ap (drop from) (map_replaced string_bytes lines added at gone)
