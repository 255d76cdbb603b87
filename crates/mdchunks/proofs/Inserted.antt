-- Members that come: into one of some lists, or with its members into others.
use Rattle.std.proofs.Common.{◌≡◌, ℕ, ◌+◌, ◌-◌, ◌<◌, ◌≤◌, List, [], ◌++◌, length, take, drop, get_or, ap, sym, ◌∙◌, arith, append_assoc, refl}
use Rattle.std.specs.List.{All}
use Rattle.std.proofs.lemmas.List.{drop-append-le, drop-set-lt, length-append, length-drop, length-take-le, take-append-le, take-set}
use Rattle.std.proofs.lemmas.List.Elements.{All-append, All-drop, All-take}
use Rattle.std.proofs.Math.ListN.{set}
use Rattle.std.proofs.Math.Seq.{drop-append_seam, take-append_seam}
use Rattle.mdchunks.specs.Lists.{IsFilled, joined, replaced}
use Rattle.mdchunks.proofs.Joined.{drop_at, joined-append, joined_set, take_at}

-- in front, the list with others in it, and behind
parts : {A : Type 0} (xss : List (List A)) (i k at del : ℕ) (q add : List A) → i < length xss → q ≡ get_or xss i q → k + del ≤ length (get_or xss i []) →
    length (joined (take i xss)) + k ≡ at → joined (take i xss) ++ (replaced q k del add ++ joined (drop (i + 1) xss)) ≡ replaced (joined xss) at del add
parts xss i k at del q add here read within e =
    let p = joined (take i xss) in
    let r = joined (drop (i + 1) xss) in
    let end : length p + (k + del) ≡ at + del = omega (arith, e) in
    let front = take_at xss i k at q here read (omega (arith, within)) e in
    let back = drop_at xss i (k + del) (at + del) q here read within end in
    let right : replaced (joined xss) at del add ≡ (p ++ take k q) ++ add ++ (drop (k + del) q ++ r) = rw (front, back) in
    let left : p ++ (replaced q k del add ++ r) ≡ (p ++ take k q) ++ add ++ (drop (k + del) q ++ r) = simp append_assoc in
    left ∙ sym right

pub spliced_at : {A : Type 0} (xss : List (List A)) (i k at del : ℕ) (q add : List A) → i < length xss → q ≡ get_or xss i q → k + del ≤ length (get_or xss i []) →
    length (joined (take i xss)) + k ≡ at → joined (set xss i (replaced q k del add)) ≡ replaced (joined xss) at del add
spliced_at xss i k at del q add here read within e = joined_set xss i (replaced q k del add) here ∙ parts xss i k at del q add here read within e

pub spread_at : {A : Type 0} (xss yss : List (List A)) (i k at : ℕ) (q z add : List A) → i < length xss → q ≡ get_or xss i q → k ≤ length (get_or xss i []) →
    length (joined (take i xss)) + k ≡ at → joined yss ≡ replaced q k 0 add → joined (replaced (set xss i z) i 1 yss) ≡ replaced (joined xss) at 0 add
spread_at xss yss i k at q z add here read within e new =
    let front : take i (set xss i z) ≡ take i xss = take-set xss i z in
    let back : drop (i + 1) (set xss i z) ≡ drop (i + 1) xss = drop-set-lt (i + 1) xss i z (omega arith) in
    let all : joined (take i xss ++ yss ++ drop (i + 1) xss) ≡ joined (take i xss) ++ joined yss ++ joined (drop (i + 1) xss) =
    joined-append (take i xss ++ yss) (drop (i + 1) xss) ∙ ap (λ ys. ys ++ joined (drop (i + 1) xss)) (joined-append (take i xss) yss) in
    ap (λ zss. joined (zss ++ yss ++ drop (i + 1) (set xss i z))) front
    ∙ ap (λ zss. joined (take i xss ++ yss ++ zss)) back
    ∙ all
    ∙ append_assoc (joined (take i xss)) (joined yss) (joined (drop (i + 1) xss))
    ∙ ap (λ ys. joined (take i xss) ++ (ys ++ joined (drop (i + 1) xss))) new
    ∙ parts xss i k at 0 q add here read (omega (arith, within)) e

pub spread_filled : {A : Type 0} (xss yss : List (List A)) (i : ℕ) (z : List A) → All IsFilled xss → All IsFilled yss → All IsFilled (replaced (set xss i z) i 1 yss)
spread_filled xss yss i z all new =
    let front : take i (set xss i z) ≡ take i xss = take-set xss i z in
    let back : drop (i + 1) (set xss i z) ≡ drop (i + 1) xss = drop-set-lt (i + 1) xss i z (omega arith) in
    rw (front, back) (All-append IsFilled (take i xss ++ yss) (drop (i + 1) xss) (All-append IsFilled (take i xss) yss (All-take IsFilled i xss all) new) (All-drop IsFilled (i + 1) xss all))

-- others are put at a place by two turns: they lie in front of the list, and then behind it, and then at the place
pub gathered : {A : Type 0} (add xs : List A) (n at m : ℕ) → n ≡ length add → at ≤ length xs → m ≡ length xs - at →
    (ys : List A) → ys ≡ take 0 (add ++ xs) ++ drop (0 + n) (add ++ xs) ++ take n (drop 0 (add ++ xs)) →
    take at ys ++ drop (at + m) ys ++ take m (drop at ys) ≡ replaced xs at 0 add
gathered add xs n at m e within f ys first =
    let zero : 0 + n ≡ n = omega arith in
    let turned : take 0 (add ++ xs) ++ drop (0 + n) (add ++ xs) ++ take n (drop 0 (add ++ xs)) ≡ xs ++ add =
    rw (zero, e) (ap (λ zs. zs ++ take (length add) (add ++ xs)) (drop-append_seam add xs) ∙ ap (λ zs. xs ++ zs) (take-append_seam add xs)) in
    let is : ys ≡ xs ++ add = first ∙ turned in
    let front : take at (xs ++ add) ≡ take at xs = take-append-le at xs add within in
    let whole : at + m ≡ length xs = omega (arith, f, within) in
    let others : drop (at + m) (xs ++ add) ≡ add = ap (λ k. drop k (xs ++ add)) whole ∙ drop-append_seam xs add in
    let tail : drop at (xs ++ add) ≡ drop at xs ++ add = drop-append-le at xs add within in
    let long : length (drop at xs) ≡ m = length-drop at xs ∙ sym f in
    let last : take m (drop at (xs ++ add)) ≡ drop at xs = ap (take m) tail ∙ ap (λ k. take k (drop at xs ++ add)) (sym long) ∙ take-append_seam (drop at xs) add in
    let none : at + 0 ≡ at = omega arith in
    ap (λ zs. take at zs ++ drop (at + m) zs ++ take m (drop at zs)) is ∙ rw (front, others, last, none) refl

pub some_replaced : {A : Type 0} (xs add : List A) (at del : ℕ) → at + del ≤ length xs → 0 < length xs - del + length add → 0 < length (replaced xs at del add)
some_replaced xs add at del within some =
    let front = length-take-le at xs (omega (arith, within)) in
    omega (arith, some, front, within, length-append (take at xs ++ add) (drop (at + del) xs), length-append (take at xs) add, length-drop (at + del) xs)
