-- Lengths and sizes of lines where some are replaced.
use Rattle.std.proofs.Common.{◌≡◌, ℕ, ◌+◌, ◌≤◌, List, ◌++◌, length, take, drop, map, refl, ap, arith, length-append, length-drop}
use Rattle.std.proofs.lemmas.List.{drop-drop, length-take-le, map-append}
use Rattle.std.specs.List.{take-map, drop-map}
use Rattle.std.proofs.lemmas.List.Sums.{sum_by-append, sum_by-take-drop}
use Rattle.mdview.specs.Lists.{replaced}
use Rattle.mdsource.specs.SourceLimits.{size_of}

pub size_part : (ls : List (List ℕ)) (at del : ℕ) → size_of (take at ls) + size_of (take del (drop at ls)) + size_of (drop (at + del) ls) ≡ size_of ls
size_part ls at del =
    let f : List ℕ → ℕ = λ line. length line + 1 in
    let all : size_of (take at ls) + size_of (drop at ls) ≡ size_of ls = sum_by-take-drop f ls at in
    let rest : size_of (take del (drop at ls)) + size_of (drop del (drop at ls)) ≡ size_of (drop at ls) = sum_by-take-drop f (drop at ls) del in
    let same : size_of (drop del (drop at ls)) ≡ size_of (drop (at + del) ls) = ap size_of (drop-drop del at ls) in
    omega arith

pub size_replaced : (ls add : List (List ℕ)) (at del : ℕ) → size_of (replaced ls at del add) + size_of (take del (drop at ls)) ≡ size_of ls + size_of add
size_replaced ls add at del =
    let f : List ℕ → ℕ = λ line. length line + 1 in
    let one : size_of (replaced ls at del add) ≡ size_of (take at ls ++ add) + size_of (drop (at + del) ls) = sum_by-append f (take at ls ++ add) (drop (at + del) ls) in
    let two : size_of (take at ls ++ add) ≡ size_of (take at ls) + size_of add = sum_by-append f (take at ls) add in
    let parts = size_part ls at del in
    omega arith

pub length_replaced : {A : Type 0} (ls add : List A) (at del : ℕ) → at + del ≤ length ls → length (replaced ls at del add) + del ≡ length ls + length add
length_replaced ls add at del within =
    let front = length-take-le at ls (omega arith) in
    omega (arith, length-append (take at ls ++ add) (drop (at + del) ls), length-append (take at ls) add, length-drop (at + del) ls)

pub map_replaced : {A B : Type 0} (f : A → B) (xs add : List A) (at del : ℕ) → map f (replaced xs at del add) ≡ replaced (map f xs) at del (map f add)
map_replaced f xs add at del = rw (map-append f (take at xs ++ add) (drop (at + del) xs), map-append f (take at xs) add, take-map f at xs, drop-map f (at + del) xs) refl
