-- What a text of a held unit reads as, by its number.
use Rattle.std.proofs.Common.{◌≡◌, ◌+◌, ◌≤◌, ℕ, zero, suc, Bool, true, false, List, [], ◌∷◌, Option, Some, None, String, map, option_map, string_bytes, refl, sym, subst, ◌∙◌, ap, arith}
use Rattle.std.specs.Prelude.{IfSome, MatchOption, if◌then◌else◌, nat_eq, slice_get, take}
use Rattle.std.specs.Cmp.Lexicographic.{pointwise}
use Rattle.std.proofs.lemmas.Bool.Decides.{nat_tests}
use Rattle.std.specs.Global.{Global}
use Rattle.std.specs.List.{All, list_any}
use Rattle.std.proofs.lemmas.Bool.{and_parts, or_parts}
use Rattle.std.proofs.lemmas.Option.{slice_get-map}
use Rattle.mdview.proofs.MemberChanges.{all_first, all_rest}

same_some : {A : Type 0} (x y : A) → Some x ≡ Some y → x ≡ y
same_some x y h = cc

pub reads_so : {A : Type 0} (f : List ℕ → A) (texts : List (String Global)) (all : List (List ℕ)) (readings : List A) (i : ℕ) (t : String Global) (r : A) → map string_bytes texts ≡ all → readings ≡ map f all →
    slice_get texts i ≡ Some t → slice_get readings i ≡ Some r → r ≡ f (string_bytes t)
reads_so f texts all readings i t r bytes is text reading =
    same_some r (f (string_bytes t))
    (sym reading ∙ ap (λ l. slice_get l i) is ∙ slice_get-map f all i ∙ ap (option_map f) (ap (λ l. slice_get l i) (sym bytes) ∙ slice_get-map string_bytes texts i ∙ ap (option_map string_bytes) text))

pub passes_not : {A : Type 0} (p : A → Bool) (xs : List A) (i : ℕ) (x : A) → list_any p xs ≡ false → slice_get xs i ≡ Some x → p x ≡ false
passes_not p [] i x none at = absurd (let z : ⊥ = cc in z)
passes_not p (y ∷ xs) zero x none at = ap p (sym (same_some y x at)) ∙ (or_parts (p y) (list_any p xs) none).0
passes_not p (y ∷ xs) (suc i) x none at = passes_not p xs i x (or_parts (p y) (list_any p xs) none).1 at

pub of_both : {A : Type 0} (P Q R : A → Type 0) → ((x : A) → P x → Q x → R x) → (o : Option A) → IfSome o P → IfSome o Q → IfSome o R
of_both P Q R f None p q = tt
of_both P Q R f (Some x) p q = f x p q

-- what is told of all members of a walk is told of the next one, and of those behind it
pub next_has : {A B : Type 0} (view : A → B) (P : B → Type 0) (r : Option A) (old new : List B) → MatchOption r (new ≡ old) (λ x. old ≡ view x ∷ new) → All P old → IfSome r (λ x. P (view x))
next_has view P None old new w all = tt
next_has view P (Some x) old new w all = all_first P (view x) new (subst (All P) w all)

pub rest_have : {A B : Type 0} (view : A → B) (P : B → Type 0) (r : Option A) (old new : List B) → MatchOption r (new ≡ old) (λ x. old ≡ view x ∷ new) → All P old → All P new
rest_have view P None old new w all = subst (All P) (sym w) all
rest_have view P (Some x) old new w all = all_rest P (view x) new (subst (All P) w all)

-- of a walk that has ended none is left
pub walk_ends : {A B : Type 0} (view : A → B) (r : Option A) (old new : List B) → MatchOption r ((old ≡ []) × (new ≡ [])) (λ x. old ≡ view x ∷ new) → MatchOption r (new ≡ old) (λ x. old ≡ view x ∷ new)
walk_ends view None old new w = w.1 ∙ sym w.0
walk_ends view (Some x) old new w = w

pub same_texts : (xs ys : List ℕ) → true ≡ pointwise nat_eq xs ys → xs ≡ ys
same_texts [] [] h = refl
same_texts [] (y ∷ ys) h = absurd (let z : ⊥ = cc in z)
same_texts (x ∷ xs) [] h = absurd (let z : ⊥ = cc in z)
same_texts (x ∷ xs) (y ∷ ys) h =
    let p = and_parts (nat_eq x y) (pointwise nat_eq xs ys) (sym h) in
    let e : x ≡ y = grind (arith, nat_tests, p.0) in
    ap (λ z. z ∷ xs) e ∙ ap (λ z. y ∷ z) (same_texts xs ys (sym p.1))

-- ---- texts at the front that a held unit has too

take_grown : {A : Type 0} (n : ℕ) (xs ys : List A) (x : A) → take n xs ≡ take n ys → slice_get xs n ≡ Some x → slice_get ys n ≡ Some x → take (suc n) xs ≡ take (suc n) ys
take_grown zero [] ys x e h k = absurd (let z : ⊥ = cc in z)
take_grown zero (a ∷ xs) [] x e h k = absurd (let z : ⊥ = cc in z)
take_grown zero (a ∷ xs) (b ∷ ys) x e h k = ap (λ z. z ∷ []) (same_some a x h ∙ sym (same_some b x k))
take_grown (suc n) [] ys x e h k = absurd (let z : ⊥ = cc in z)
take_grown (suc n) (a ∷ xs) [] x e h k = absurd (let z : ⊥ = cc in z)
take_grown (suc n) (a ∷ xs) (b ∷ ys) x e h k =
    let first : a ≡ b = cc in
    let rest : take n xs ≡ take n ys = cc in
    ap (λ z. z ∷ take (suc n) xs) first ∙ ap (λ z. b ∷ z) (take_grown n xs ys x rest h k)

pub few_next : (b : Bool) (front i n : ℕ) → front ≤ i → n ≡ (if b then i + 1 else front) → n ≤ i + 1
few_next true front i n low is = omega (arith, is)
few_next false front i n low is = omega (arith, is, low)

pub at_next : (b : Bool) (front i n : ℕ) → n ≡ (if b then i + 1 else front) → b ≡ true → n ≡ i + 1
at_next true front i n is h = is
at_next false front i n is h = absurd (let z : ⊥ = cc in z)

pub fronts_next : {H : Type 0} (view : H → List (List ℕ)) (b : Bool) (front i n : ℕ) (held : Option H) (texts : List (List ℕ)) (x : List ℕ) → n ≡ (if b then i + 1 else front) → slice_get texts i ≡ Some x →
    (b ≡ true → (front ≡ i) × IfSome held (λ u. slice_get (view u) i ≡ Some x)) → IfSome held (λ u. take front texts ≡ take front (view u)) → IfSome held (λ u. take n texts ≡ take n (view u))
fronts_next view b front i n None texts x is at w same = tt
fronts_next view true front i n (Some u) texts x is at w same =
    let e = w refl in
    let grown : suc i ≡ n = omega (arith, is) in
    subst (λ z. take z texts ≡ take z (view u)) grown (take_grown i texts (view u) x (subst (λ z. take z texts ≡ take z (view u)) e.0 same) at e.1)
fronts_next view false front i n (Some u) texts x is at w same = subst (λ z. take z texts ≡ take z (view u)) (sym is) same
