-- Elements one after the other.
use Rattle.std.proofs.Common.{◌≡◌, ℕ, suc, zero, ◌+◌, ◌-◌, ◌<◌, ◌≤◌, true, List, ◌∷◌, [], length, drop, arith, ap, sym, ◌∙◌, subst, zero-add, refl, nat_lt, length-drop}
use Rattle.std.proofs.lemmas.Bool.Decides.{nat_tests}
use Rattle.std.proofs.lemmas.List.{drop-drop}
use Rattle.mdscan.specs.Repeats.{repeats_after, repeats}

-- after bytes of an element the rest of them is passed
skipped : (element : List ℕ → ℕ) (text : List ℕ) (n : ℕ) → n ≤ length text → repeats_after element n text ≡ n + repeats_after element 0 (drop n text)
skipped element [] zero h = refl
skipped element [] (suc n) h = absurd (omega arith)
skipped element (b ∷ bs) zero h = sym (zero-add (repeats_after element 0 (b ∷ bs)))
skipped element (b ∷ bs) (suc n) h = let rest = skipped element bs n (omega arith) in omega arith

more : (element : List ℕ → ℕ) (text : List ℕ) → 0 < element text → element text ≤ length text → repeats_after element 0 text ≡ element text + repeats_after element 0 (drop (element text) text)
more element [] some within = absurd (omega arith)
more element (b ∷ bs) some within =
    let a : ℕ = element (b ∷ bs) in
    let e : a ≡ suc (a - 1) = omega arith in
    let t : nat_lt 0 a ≡ true = grind (arith, nat_tests) in
    let f : repeats_after element 0 (b ∷ bs) ≡ 1 + repeats_after element (a - 1) bs = rw t refl in
    let s = skipped element bs (a - 1) (omega arith) in
    let d : drop (a - 1) bs ≡ drop a (b ∷ bs) = ap (λ (n : ℕ). drop n (b ∷ bs)) (sym e) in
    let g : 1 + repeats_after element (a - 1) bs ≡ a + repeats_after element 0 (drop (a - 1) bs) = omega arith in
    f ∙ (g ∙ ap (λ (t : List ℕ). a + repeats_after element 0 t) d)

no_more : (element : List ℕ → ℕ) (text : List ℕ) → element text ≡ 0 → repeats_after element 0 text ≡ 0
no_more element [] none = refl
no_more element (b ∷ bs) none = rw none refl

-- one element is passed
pub element_passed : (element : List ℕ → ℕ) (text : List ℕ) (at size all : ℕ) → 0 < size → at + size ≤ length text → size ≡ element (drop at text) → at + repeats element (drop at text) ≡ all → at + size + repeats element (drop (at + size) text) ≡ all
unfolding repeats
element_passed element text at size all some within is whole =
    let rest = more element (drop at text) (omega arith) (omega (arith, length-drop at text)) in
    let e = subst (λ (n : ℕ). repeats_after element 0 (drop at text) ≡ n + repeats_after element 0 (drop n (drop at text))) (sym is) rest in
    let f = ap (λ (t : List ℕ). repeats_after element 0 t) (drop-drop size at text) in
    omega arith

-- no element is left
pub elements_end : (element : List ℕ → ℕ) (text : List ℕ) (at size all : ℕ) → size ≤ 0 → size ≡ element (drop at text) → at + repeats element (drop at text) ≡ all → at ≡ all
unfolding repeats
elements_end element text at size all none is whole = omega (arith, no_more element (drop at text) (omega arith))
