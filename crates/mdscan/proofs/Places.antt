-- The first place of a needle, place by place.
use Rattle.std.proofs.Common.{◌≡◌, ℕ, ◌+◌, ◌-◌, ◌<◌, ◌≤◌, true, false, Bool, List, ◌∷◌, [], length, take, drop, get_or, drop-cons, add-one, ap, refl, ◌∙◌, zero, suc, arith, subst, nat_eq, Some, None, cond}
use Rattle.std.specs.List.{starts_with}
use Rattle.std.proofs.lemmas.List.{take_rest, drop-drop}
use Rattle.std.proofs.Math.ListN.{drop_of_length-le}
use Rattle.mdscan.specs.RawHtml.{place_from, place_of}

step : (needle text : List ℕ) (at : ℕ) → at < length text → place_from at needle (drop at text) ≡ cond (starts_with nat_eq (drop at text) needle) (Some at) (place_from (at + 1) needle (drop (at + 1) text))
step needle text at inside =
    let e : drop at text ≡ get_or text at 0 ∷ drop (at + 1) text = rw add-one (drop-cons text at 0 inside) in
    rw e refl

pub place_here : (needle text : List ℕ) (at : ℕ) → at < length text → starts_with nat_eq (take (length text - at) (drop at text)) needle ≡ true → place_from at needle (drop at text) ≡ Some at
place_here needle text at inside h = let e = rw (take_rest text at) at h in step needle text at inside ∙ ap (λ (b : Bool). cond b (Some at) (place_from (at + 1) needle (drop (at + 1) text))) e

pub place_later : (needle text : List ℕ) (at : ℕ) → at < length text → starts_with nat_eq (take (length text - at) (drop at text)) needle ≡ false → place_from at needle (drop at text) ≡ place_from (at + 1) needle (drop (at + 1) text)
place_later needle text at inside h = let e = rw (take_rest text at) at h in step needle text at inside ∙ ap (λ (b : Bool). cond b (Some at) (place_from (at + 1) needle (drop (at + 1) text))) e

pub no_place : (needle text : List ℕ) (at : ℕ) → length text ≤ at → place_from at needle (drop at text) ≡ None
no_place needle text at past = rw (drop_of_length-le text past)

-- Where a needle stands does not depend on the place that the first byte is given.
none_at : (needle text : List ℕ) (at other : ℕ) → place_from at needle text ≡ None → place_from other needle text ≡ None
none_at needle [] at other h = refl
none_at needle (b ∷ bs) at other h = by (starts_with nat_eq (b ∷ bs) needle) (none_at needle bs (at + 1) (other + 1)) h
  where
    by : (starts : Bool) → (place_from (at + 1) needle bs ≡ None → place_from (other + 1) needle bs ≡ None) → cond starts (Some at) (place_from (at + 1) needle bs) ≡ None → cond starts (Some other) (place_from (other + 1) needle bs) ≡ None
    by true rest e = cc
    by false rest e = rest e

none_in_tail : (needle : List ℕ) (b : ℕ) (bs : List ℕ) → place_from 0 needle (b ∷ bs) ≡ None → place_from 0 needle bs ≡ None
none_in_tail needle b bs h = by (starts_with nat_eq (b ∷ bs) needle) h
  where
    by : (starts : Bool) → cond starts (Some 0) (place_from 1 needle bs) ≡ None → place_from 0 needle bs ≡ None
    by true e = cc
    by false e = none_at needle bs 1 0 e

none_after : (needle text : List ℕ) (k : ℕ) → place_from 0 needle text ≡ None → place_from 0 needle (drop k text) ≡ None
none_after needle text zero h = h
none_after needle [] (suc k) h = refl
none_after needle (b ∷ bs) (suc k) h = none_after needle bs k (none_in_tail needle b bs h)

pub none_from : (needle text : List ℕ) (i j : ℕ) → i ≤ j → place_of needle (drop i text) ≡ None → place_of needle (drop j text) ≡ None
unfolding place_of
none_from needle text i j le h =
    let e : i + (j - i) ≡ j = omega arith in
    subst (λ (t : List ℕ). place_from 0 needle t ≡ None) (drop-drop (j - i) i text ∙ ap (λ (n : ℕ). drop n text) e) (none_after needle (drop i text) (j - i) h)
