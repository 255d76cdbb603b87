-- Lists of which a member is changed.
use Rattle.std.proofs.Common.{◌≡◌, ℕ, ◌≤◌, ◌<◌, zero, suc, List, [], ◌∷◌, ◌++◌, length, map, get_or, slice_get, refl, ap, arith}
use Rattle.std.proofs.Math.ListN.{set}
use Rattle.std.specs.List.{All}
use Rattle.std.proofs.lemmas.List.Elements.{All-append}
use Rattle.mdview.specs.Update.{map_at}

pub changed_past : {A : Type 0} (f : A → A) (i : ℕ) (xs : List A) → length xs ≤ i → map_at f i xs ≡ xs
unfolding map_at
changed_past f i [] past = refl
changed_past f zero (x ∷ xs) past = absurd (omega arith)
changed_past f (suc i) (x ∷ xs) past = ap (λ ys. x ∷ ys) (changed_past f i xs (omega arith))

pub changed_by_set : {A : Type 0} (f : A → A) (i : ℕ) (xs : List A) (d x : A) → i < length xs → x ≡ f (get_or xs i d) → set xs i x ≡ map_at f i xs
unfolding map_at
changed_by_set f i [] d x below is = absurd (omega arith)
changed_by_set f zero (y ∷ xs) d x below is = ap (λ z. z ∷ xs) is
changed_by_set f (suc i) (y ∷ xs) d x below is = ap (λ ys. y ∷ ys) (changed_by_set f i xs d x (omega arith) is)

-- what the change leaves stays for all members
pub map_changed : {A B : Type 0} (g : A → B) (f : A → A) → ((x : A) → g (f x) ≡ g x) → (i : ℕ) (xs : List A) → map g (map_at f i xs) ≡ map g xs
unfolding map_at
map_changed g f same i [] = refl
map_changed g f same zero (x ∷ xs) = ap (λ y. y ∷ map g xs) (same x)
map_changed g f same (suc i) (x ∷ xs) = ap (λ ys. g x ∷ ys) (map_changed g f same i xs)

-- the other members stay
pub others_stay : {A : Type 0} (f : A → A) (i j : ℕ) (xs : List A) → (i ≡ j → ⊥) → slice_get (map_at f i xs) j ≡ slice_get xs j
unfolding map_at
others_stay f i j [] other = refl
others_stay f zero zero (x ∷ xs) other = absurd (other refl)
others_stay f zero (suc j) (x ∷ xs) other = refl
others_stay f (suc i) zero (x ∷ xs) other = refl
others_stay f (suc i) (suc j) (x ∷ xs) other = others_stay f i j xs (λ e. other (ap suc e))

pub all_single : {A : Type 0} (P : A → Type 0) (x : A) → P x → All P (x ∷ [])
all_single P x px zero d below = px
all_single P x px (suc k) d below = absurd (omega arith)

pub all_more : {A : Type 0} (P : A → Type 0) (xs : List A) (x : A) → All P xs → P x → All P (xs ++ x ∷ [])
all_more P xs x all px = All-append P xs (x ∷ []) all (all_single P x px)

pub all_rest : {A : Type 0} (P : A → Type 0) (x : A) (xs : List A) → All P (x ∷ xs) → All P xs
all_rest P x xs all k d below = all (suc k) d (omega arith)

pub all_first : {A : Type 0} (P : A → Type 0) (x : A) (xs : List A) → All P (x ∷ xs) → P x
all_first P x xs all = all 0 x (omega arith)
