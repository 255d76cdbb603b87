-- Members that go, list by list: what is left to do in the lists behind.
use Rattle.std.proofs.Common.{◌≡◌, ℕ, ◌+◌, ◌-◌, ◌<◌, ◌≤◌, ◌⊎◌, List, [], ◌∷◌, ◌++◌, length, take, drop, get_or, min, ap, sym, ◌∙◌, arith, refl, append_assoc, inl, inr}
use Rattle.std.proofs.lemmas.Bool.{cases_lt}
use Rattle.std.proofs.lemmas.List.{append-nil, drop-set-lt, drop_all, drop-append-le, length-append, length-drop, length-take-le, take-append-le, take-append-drop, take_all, take_more_set, drop_more}
use Rattle.std.proofs.Math.ListN.{set}
use Rattle.std.proofs.Math.Seq.{take-append-add, drop-append-add}
use Rattle.mdchunks.specs.Lists.{joined}
use Rattle.mdchunks.proofs.Joined.{joined-append}

-- all that goes lies in the list
cut_in : {A : Type 0} (b r : List A) (at left : ℕ) → at + left ≤ length b →
    take at (b ++ r) ++ drop (at + left) (b ++ r) ≡ (take at b ++ drop (at + left) b) ++ r
cut_in b r at left within =
    let first : take at (b ++ r) ≡ take at b = take-append-le at b r (omega (arith, within)) in
    let last : drop (at + left) (b ++ r) ≡ drop (at + left) b ++ r = drop-append-le (at + left) b r within in
    rw (first, last) (sym (append_assoc (take at b) (drop (at + left) b) r))

-- what goes begins in the list and ends behind it
cut_over : {A : Type 0} (b r : List A) (at end k : ℕ) → at ≤ length b → end ≡ length b + k →
    take at (b ++ r) ++ drop end (b ++ r) ≡ take at b ++ drop k r
cut_over b r at end k within e =
    let first : take at (b ++ r) ≡ take at b = take-append-le at b r within in
    let last : drop end (b ++ r) ≡ drop k r = ap (λ n. drop n (b ++ r)) e ∙ drop-append-add b r k in
    rw (first, last) refl

-- what goes lies behind the list
cut_behind : {A : Type 0} (b r : List A) (at end k m : ℕ) → at ≡ length b + k → end ≡ length b + m →
    take at (b ++ r) ++ drop end (b ++ r) ≡ b ++ (take k r ++ drop m r)
cut_behind b r at end k m e f =
    let first : take at (b ++ r) ≡ b ++ take k r = ap (λ n. take n (b ++ r)) e ∙ take-append-add b r k in
    let last : drop end (b ++ r) ≡ drop m r = ap (λ n. drop n (b ++ r)) f ∙ drop-append-add b r m in
    rw (first, last) (append_assoc b (take k r) (drop m r))

-- one list: what is left of it, and what goes of those behind
cut : {A : Type 0} (b r : List A) (at left from gone : ℕ) → from ≡ min at (length b) → gone ≡ min left (length b - from) → (at < length b) ⊎ (length b ≤ at) → (length b < at + left) ⊎ (at + left ≤ length b) →
    take at (b ++ r) ++ drop (at + left) (b ++ r) ≡ (take from b ++ drop (from + gone) b) ++ (take (at - from) r ++ drop ((at - from) + (left - gone)) r)
cut b r at left from gone f g one (inr end) =
    let here : from ≡ at = omega (arith, f, end) in
    let both : from + gone ≡ at + left = omega (arith, f, g, end) in
    let zero : at - from ≡ 0 = omega (arith, here) in
    let none : (at - from) + (left - gone) ≡ 0 = omega (arith, f, g, end) in
    let rest : take (at - from) r ++ drop ((at - from) + (left - gone)) r ≡ r = rw (none, zero) refl in
    cut_in b r at left end ∙ ap (λ n. (take at b ++ drop n b) ++ r) (sym both) ∙ ap (λ n. (take n b ++ drop (from + gone) b) ++ r) (sym here)
    ∙ ap (λ ys. (take from b ++ drop (from + gone) b) ++ ys) (sym rest)
cut b r at left from gone f g (inl below) (inl over) =
    let here : from ≡ at = omega (arith, f, below) in
    let zero : at - from ≡ 0 = omega (arith, here) in
    let k = (at - from) + (left - gone) in
    let end : at + left ≡ length b + k = omega (arith, f, g, below, over) in
    let gone-all : drop (from + gone) b ≡ [] = drop_all (from + gone) b (omega (arith, f, g, below, over)) in
    cut_over b r at (at + left) k (omega (arith, below)) end
    ∙ ap (λ n. take n b ++ drop k r) (sym here)
    ∙ ap (λ ys. ys ++ drop k r) (sym (append-nil (take from b)))
    ∙ ap (λ ys. (take from b ++ ys) ++ drop k r) (sym gone-all)
    ∙ ap (λ n. (take from b ++ drop (from + gone) b) ++ (take n r ++ drop k r)) (sym zero)
cut b r at left from gone f g (inr behind) (inl over) =
    let all : from ≡ length b = omega (arith, f, behind) in
    let none : gone ≡ 0 = omega (arith, g, all) in
    let kept : take from b ++ drop (from + gone) b ≡ b =
    ap (λ ys. ys ++ drop (from + gone) b) (take_all from b (omega (arith, all))) ∙ ap (λ ys. b ++ ys) (drop_all (from + gone) b (omega (arith, all, none))) ∙ append-nil b in
    cut_behind b r at (at + left) (at - from) ((at - from) + (left - gone)) (omega (arith, all, behind)) (omega (arith, all, behind, none))
    ∙ ap (λ ys. ys ++ (take (at - from) r ++ drop ((at - from) + (left - gone)) r)) (sym kept)

-- the lists up to here are done, and what goes lies behind them
pub record IsCutTo {A : Type 0} (all : List A) (xss : List (List A)) (i at left : ℕ) : Type 0 where
  pub within : at + left ≤ length (joined (drop i xss))
  pub members : all ≡ joined (take i xss) ++ (take at (joined (drop i xss)) ++ drop (at + left) (joined (drop i xss)))

-- nothing goes any more
pub cut_all : {A : Type 0} (all : List A) (xss : List (List A)) (i at left : ℕ) → IsCutTo all xss i at left → left ≡ 0 → joined xss ≡ all
cut_all all xss i at left c none =
    let rest = joined (drop i xss) in
    let end : at + left ≡ at = omega (arith, none) in
    let same : take at rest ++ drop (at + left) rest ≡ rest = ap (λ n. take at rest ++ drop n rest) end ∙ take-append-drop at rest in
    ap joined (sym (take-append-drop i xss)) ∙ joined-append (take i xss) (drop i xss) ∙ ap (λ ys. joined (take i xss) ++ ys) (sym same) ∙ sym c.members

-- one list more
pub cut_more : {A : Type 0} (all : List A) (xss : List (List A)) (i at left from gone : ℕ) (b kept : List A) → IsCutTo all xss i at left → i < length xss → b ≡ get_or xss i b →
    from ≡ min at (length b) → gone ≡ min left (length b - from) → kept ≡ take from b ++ drop (from + gone) b →
    IsCutTo all (set xss i kept) (i + 1) (at - from) (left - gone)
cut_more all xss i at left from gone b kept c here read f g e =
    let p = joined (take i xss) in
    let r = joined (drop (i + 1) xss) in
    let before : joined (drop i xss) ≡ b ++ r = ap joined (drop_more xss i b here) ∙ ap (λ ys. ys ++ r) (sym read) in
    let behind : drop (i + 1) (set xss i kept) ≡ drop (i + 1) xss = drop-set-lt (i + 1) xss i kept (omega arith) in
    let front : joined (take (i + 1) (set xss i kept)) ≡ p ++ kept =
    ap joined (take_more_set xss i kept here) ∙ joined-append (take i xss) (kept ∷ []) ∙ ap (λ ys. p ++ ys) (append-nil kept) in
    let long : length (joined (drop i xss)) ≡ length b + length r = ap length before ∙ length-append b r in
    let fits : (at - from) + (left - gone) ≤ length r = omega (arith, c.within, long, f, g) in
    record {
      within = rw behind fits;
      members =
          c.members
          ∙ ap (λ ys. p ++ (take at ys ++ drop (at + left) ys)) before
          ∙ ap (λ ys. p ++ ys) (cut b r at left from gone f g (cases_lt at (length b)) (cases_lt (length b) (at + left)))
          ∙ ap (λ ys. p ++ (ys ++ (take (at - from) r ++ drop ((at - from) + (left - gone)) r))) (sym e)
          ∙ sym (append_assoc p kept (take (at - from) r ++ drop ((at - from) + (left - gone)) r))
          ∙ ap (λ ys. ys ++ (take (at - from) r ++ drop ((at - from) + (left - gone)) r)) (sym front)
          ∙ ap (λ yss. joined (take (i + 1) (set xss i kept)) ++ (take (at - from) (joined yss) ++ drop ((at - from) + (left - gone)) (joined yss))) (sym behind);
    }

-- some members are left of a list of which not all go
pub some_kept : {A : Type 0} (b kept : List A) (from gone : ℕ) → kept ≡ take from b ++ drop (from + gone) b → from + gone ≤ length b → gone < length b → 0 < length kept
some_kept b kept from gone e within few =
    let long : length kept ≡ length (take from b) + length (drop (from + gone) b) = ap length e ∙ length-append (take from b) (drop (from + gone) b) in
    let first = length-take-le from b (omega (arith, within)) in
    let last = length-drop (from + gone) b in
    omega (arith, long, first, last, within, few)
