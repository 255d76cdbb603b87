-- Lists of lists, joined: where a place lies, and what a changed list leaves of the others.
use Rattle.std.proofs.Common.{◌≡◌, ℕ, ◌+◌, ◌-◌, ◌<◌, ◌≤◌, List, [], ◌∷◌, ◌++◌, length, take, drop, get_or, ap, sym, ◌∙◌, suc, zero, arith, refl, nat_lt, true, remove, append_assoc}
use Rattle.std.proofs.lemmas.List.{take-append-drop, drop_all, drop_more, take_more, append-nil, set_split, length-append, length-drop, take-append-le, drop-append-le, set-append_left, set-append_right, get_or_read}
use Rattle.std.specs.List.{filter}
use Rattle.std.proofs.lemmas.Bool.Decides.{nat_tests}
use Rattle.std.proofs.lemmas.Grind.{flat_map-append}
use Rattle.std.proofs.lemmas.List.Concat.{get_or-flat_map}
use Rattle.std.proofs.Math.ListN.{set}
use Rattle.std.proofs.Math.Seq.{take-append-add, drop-append-add}
use Rattle.mdchunks.specs.Lists.{joined}

pub joined-append : {A : Type 0} (xss yss : List (List A)) → joined (xss ++ yss) ≡ joined xss ++ joined yss
joined-append xss yss = flat_map-append (λ xs. xs) xss yss

-- what lies in front of a list, the list, and what lies behind it
pub joined_split : {A : Type 0} (xss : List (List A)) (i : ℕ) (d : List A) → i < length xss →
    joined xss ≡ joined (take i xss) ++ (get_or xss i d ++ joined (drop (i + 1) xss))
joined_split xss i d here =
    ap joined (sym (take-append-drop i xss)) ∙ joined-append (take i xss) (drop i xss)
    ∙ ap (λ ys. joined (take i xss) ++ joined ys) (drop_more xss i d here)

pub joined_more : {A : Type 0} (xss : List (List A)) (i : ℕ) (d : List A) → i < length xss → joined (take (i + 1) xss) ≡ joined (take i xss) ++ get_or xss i d
joined_more xss i d here =
    ap joined (take_more xss i d here) ∙ joined-append (take i xss) (get_or xss i d ∷ [])
    ∙ ap (λ ys. joined (take i xss) ++ ys) (append-nil (get_or xss i d))

pub length_more : {A : Type 0} (xss : List (List A)) (i : ℕ) (d : List A) → i < length xss →
    length (joined (take (i + 1) xss)) ≡ length (joined (take i xss)) + length (get_or xss i d)
length_more xss i d here = ap length (joined_more xss i d here) ∙ length-append (joined (take i xss)) (get_or xss i d)

-- a front that ends where a list does is no longer than all
pub length_front : {A : Type 0} (xss : List (List A)) (i : ℕ) (d : List A) → i < length xss →
    length (joined (take i xss)) + length (get_or xss i d) ≤ length (joined xss)
length_front xss i d here =
    let p = joined (take i xss) in
    let q = get_or xss i d in
    let r = joined (drop (i + 1) xss) in
    let e : length (joined xss) ≡ length p + length (q ++ r) = ap length (joined_split xss i d here) ∙ length-append p (q ++ r) in
    omega (arith, e, length-append q r)

-- what is left of a list and of those behind it is no longer than all
pub length_rest : {A : Type 0} (xss : List (List A)) (i k : ℕ) (q : List A) → i < length xss → q ≡ get_or xss i q → length (drop k q ++ joined (drop (i + 1) xss)) ≤ length (joined xss)
length_rest xss i k q here read =
    let p = joined (take i xss) in
    let r = joined (drop (i + 1) xss) in
    let all : length (joined xss) ≡ length p + length (q ++ r) =
    ap length (joined_split xss i q here) ∙ length-append p (get_or xss i q ++ r) ∙ ap (λ ys. length p + length (ys ++ r)) (sym read) in
    omega (arith, all, length-append q r, length-append (drop k q) r, length-drop k q)

-- what stands behind the first member of the first list is fewer than all
pub length_behind : {A : Type 0} (xs : List A) (xss : List (List A)) (q : List A) (rest : List (List A)) (x : A) (others : List A) → xss ≡ q ∷ rest → q ≡ x ∷ others →
    length (others ++ joined rest) < length (xs ++ joined xss)
length_behind xs xss q rest x others first member =
    let r = joined rest in
    let all : length (joined xss) ≡ length q + length r = ap (λ yss. length (joined yss)) first ∙ length-append q r in
    omega (arith, all, ap length member, length-append xs (joined xss), length-append others r)

-- those from a place on, in the list in which it lies and behind it; a place behind all lies in none
pub drop_place : {A : Type 0} (xss : List (List A)) (i k at : ℕ) → k ≤ length (get_or xss i []) → length (joined (take i xss)) + k ≡ at →
    drop k (get_or xss i []) ++ joined (drop (i + 1) xss) ≡ drop at (joined xss)
drop_place [] i k at low e =
    ap (λ ys. ys ++ joined (drop (i + 1) [])) (drop_all k [] (omega arith)) ∙ ap joined (drop_all (i + 1) [] (omega arith)) ∙ sym (drop_all at [] (omega arith))
drop_place (q ∷ xss) zero k at low e =
    let same : at ≡ k = omega (arith, e) in
    sym (ap (λ n. drop n (q ++ joined xss)) same ∙ drop-append-le k q (joined xss) low)
drop_place (q ∷ xss) (suc i) k at low e =
    let front = joined (take i xss) in
    let behind : at ≡ length q + (length front + k) = omega (arith, e, length-append q front) in
    let one : suc i + 1 ≡ suc (i + 1) = omega arith in
    ap (λ n. drop k (get_or xss i []) ++ joined (drop n (q ∷ xss))) one ∙ drop_place xss i k (length front + k) low refl ∙ sym (ap (λ n. drop n (q ++ joined xss)) behind ∙ drop-append-add q (joined xss) (length front + k))

pub joined_set : {A : Type 0} (xss : List (List A)) (i : ℕ) (ys : List A) → i < length xss →
    joined (set xss i ys) ≡ joined (take i xss) ++ (ys ++ joined (drop (i + 1) xss))
joined_set xss i ys here =
    let one : suc i ≡ i + 1 = omega arith in
    ap joined (set_split xss i ys here) ∙ joined-append (take i xss) (ys ∷ drop (suc i) xss)
    ∙ ap (λ n. joined (take i xss) ++ (ys ++ joined (drop n xss))) one

pub take_inside : {A : Type 0} (xss : List (List A)) (i k at : ℕ) (d : List A) → i < length xss → k ≤ length (get_or xss i d) → length (joined (take i xss)) + k ≡ at →
    take at (joined xss) ≡ joined (take i xss) ++ take k (get_or xss i d)
take_inside xss i k at d here within e =
    let p = joined (take i xss) in
    let q = get_or xss i d in
    let r = joined (drop (i + 1) xss) in
    ap (λ n. take n (joined xss)) (sym e) ∙ ap (take (length p + k)) (joined_split xss i d here) ∙ take-append-add p (q ++ r) k
    ∙ ap (λ ys. p ++ ys) (take-append-le k q r within)

pub drop_inside : {A : Type 0} (xss : List (List A)) (i k at : ℕ) (d : List A) → i < length xss → k ≤ length (get_or xss i d) → length (joined (take i xss)) + k ≡ at →
    drop at (joined xss) ≡ drop k (get_or xss i d) ++ joined (drop (i + 1) xss)
drop_inside xss i k at d here within e =
    let p = joined (take i xss) in
    let q = get_or xss i d in
    let r = joined (drop (i + 1) xss) in
    ap (λ n. drop n (joined xss)) (sym e) ∙ ap (drop (length p + k)) (joined_split xss i d here) ∙ drop-append-add p (q ++ r) k
    ∙ drop-append-le k q r within

-- without the empty ones
pub joined_filter : {A : Type 0} (xss : List (List A)) → joined (filter (λ xs. nat_lt 0 (length xs)) xss) ≡ joined xss
joined_filter [] = refl
joined_filter ([] ∷ xss) = joined_filter xss
joined_filter ((x ∷ xs) ∷ xss) =
    let some : nat_lt 0 (suc (length xs)) ≡ true = grind (arith, nat_tests) in
    rw some (ap (λ ys. (x ∷ xs) ++ ys) (joined_filter xss))

-- a list with the next one behind it
pub joined_pair : {A : Type 0} (xss : List (List A)) (i : ℕ) (d e : List A) → suc i < length xss →
    joined (set (remove xss (suc i)) i (get_or (remove xss (suc i)) i d ++ get_or xss (suc i) e)) ≡ joined xss
joined_pair [] i d e here = absurd (omega arith)
joined_pair (x ∷ []) zero d e here = absurd (omega arith)
joined_pair (x ∷ y ∷ zss) zero d e here = append_assoc x y (joined zss)
joined_pair (x ∷ xss) (suc i) d e here = ap (λ ys. x ++ ys) (joined_pair xss i d e (omega arith))

-- another member at a place of a list
pub set_inside : {A : Type 0} (xss : List (List A)) (i k at : ℕ) (d : List A) (x : A) → i < length xss → k < length (get_or xss i d) → length (joined (take i xss)) + k ≡ at →
    joined (set xss i (set (get_or xss i d) k x)) ≡ set (joined xss) at x
set_inside xss i k at d x here within e =
    let p = joined (take i xss) in
    let q = get_or xss i d in
    let r = joined (drop (i + 1) xss) in
    let left : at - length p ≡ k = omega (arith, e) in
    joined_set xss i (set q k x) here
    ∙ ap (λ ys. p ++ ys) (sym (set-append_left q r k x within))
    ∙ ap (λ n. p ++ set (q ++ r) n x) (sym left)
    ∙ sym (set-append_right p (q ++ r) (length p) at x refl (omega (arith, e)))
    ∙ ap (λ ys. set ys at x) (sym (joined_split xss i d here))

-- the same of a list that was read
pub member_at : {A : Type 0} (xss : List (List A)) (i k at : ℕ) (q : List A) (x : A) → i < length xss → q ≡ get_or xss i q → k < length (get_or xss i []) →
    length (joined (take i xss)) + k ≡ at → x ≡ get_or q k x → x ≡ get_or (joined xss) at x
member_at xss i k at q x here read within e is =
    let other : q ≡ get_or xss i [] = get_or_read xss i q here read [] in
    let long : length (get_or xss i q) ≡ length (get_or xss i []) = ap length (sym read ∙ other) in
    let flat = get_or-flat_map (λ xs. xs) xss i k q x here (omega (arith, long, within)) in
    is ∙ ap (λ ys. get_or ys k x) read ∙ sym flat ∙ ap (λ n. get_or (joined xss) n x) e

pub set_at : {A : Type 0} (xss : List (List A)) (i k at : ℕ) (q : List A) (x : A) → i < length xss → q ≡ get_or xss i q → k < length (get_or xss i []) →
    length (joined (take i xss)) + k ≡ at → joined (set xss i (set q k x)) ≡ set (joined xss) at x
set_at xss i k at q x here read within e =
    let other : q ≡ get_or xss i [] = get_or_read xss i q here read [] in
    ap (λ ys. joined (set xss i (set ys k x))) other ∙ set_inside xss i k at [] x here within e

pub drop_at : {A : Type 0} (xss : List (List A)) (i k at : ℕ) (q : List A) → i < length xss → q ≡ get_or xss i q → k ≤ length (get_or xss i []) →
    length (joined (take i xss)) + k ≡ at → drop at (joined xss) ≡ drop k q ++ joined (drop (i + 1) xss)
drop_at xss i k at q here read within e =
    let other : q ≡ get_or xss i [] = get_or_read xss i q here read [] in
    drop_inside xss i k at [] here within e ∙ ap (λ ys. drop k ys ++ joined (drop (i + 1) xss)) (sym other)

pub take_at : {A : Type 0} (xss : List (List A)) (i k at : ℕ) (q : List A) → i < length xss → q ≡ get_or xss i q → k ≤ length (get_or xss i []) →
    length (joined (take i xss)) + k ≡ at → take at (joined xss) ≡ joined (take i xss) ++ take k q
take_at xss i k at q here read within e =
    let other : q ≡ get_or xss i [] = get_or_read xss i q here read [] in
    take_inside xss i k at [] here within e ∙ ap (λ ys. joined (take i xss) ++ take k ys) (sym other)

-- what a place reads as, at any default
pub item_at : {A : Type 0} (xss : List (List A)) (i k at : ℕ) (q : List A) (d : A) → i < length xss → q ≡ get_or xss i q → k < length (get_or xss i []) →
    length (joined (take i xss)) + k ≡ at → get_or q k d ≡ get_or (joined xss) at d
item_at xss i k at q d here read within e =
    let other : q ≡ get_or xss i [] = get_or_read xss i q here read [] in
    let long : length (get_or xss i q) ≡ length (get_or xss i []) = ap length (sym read ∙ other) in
    let flat = get_or-flat_map (λ xs. xs) xss i k q d here (omega (arith, long, within)) in
    ap (λ ys. get_or ys k d) read ∙ sym flat ∙ ap (λ n. get_or (joined xss) n d) e

-- another list that is as long
pub length_same : {A : Type 0} (xss : List (List A)) (i : ℕ) (ys d : List A) → i < length xss → length ys ≡ length (get_or xss i d) → length (joined (set xss i ys)) ≡ length (joined xss)
length_same xss i ys d here e =
    let p = joined (take i xss) in
    let q = get_or xss i d in
    let r = joined (drop (i + 1) xss) in
    let new : length (joined (set xss i ys)) ≡ length (p ++ (ys ++ r)) = ap length (joined_set xss i ys here) in
    let old : length (joined xss) ≡ length (p ++ (q ++ r)) = ap length (joined_split xss i d here) in
    omega (arith, new, old, e, length-append p (ys ++ r), length-append ys r, length-append p (q ++ r), length-append q r)

-- where a member lies that stands in front of a located place
pub record StandsAt {A : Type 0} (xss : List (List A)) (chunk k at : ℕ) : Type 0 where
  pub here : chunk < length xss
  pub within : k < length (get_or xss chunk [])
  pub place : length (joined (take chunk xss)) + k ≡ at

pub in_front : {A : Type 0} (xss : List (List A)) (chunk inside at : ℕ) → chunk < length xss → 0 < inside → inside ≤ length (get_or xss chunk []) →
    length (joined (take chunk xss)) + inside ≡ at + 1 → StandsAt xss chunk (inside - 1) at
in_front xss chunk inside at here some long e = record { here = here; within = omega (arith, some, long); place = omega (arith, some, e) }
