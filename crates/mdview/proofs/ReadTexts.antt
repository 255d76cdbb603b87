-- The texts of a unit one by one: what they read as, in which spans lie too deep, and which asked for a label that leads elsewhere.
use Rattle.std.proofs.Common.{◌≡◌, ℕ, suc, ◌+◌, ◌<◌, ◌≤◌, Bool, true, false, ◌||◌, List, [], ◌∷◌, ◌++◌, String, length, length-append, map, take, drop, get_or, if◌then◌else◌, cond, string_bytes, refl, sym, ◌∙◌, ap, arith}
use Rattle.std.specs.Global.{Global}
use Rattle.std.specs.List.{filter, list_any}
use Rattle.std.proofs.Math.Seq.{drop-cons}
use Rattle.std.proofs.lemmas.List.{get_or-map, length-map, map-append, take-append-drop, drop_all, take_more}
use Rattle.std.proofs.lemmas.Bool.{true≢false}
use Rattle.std.proofs.lemmas.List.Elements.{filter-append}
use Rattle.std.proofs.lemmas.List.Folds.{list_any-append}

-- tests that agree find the same
pub any_same : {A : Type 0} (p q : A → Bool) → ((x : A) → p x ≡ q x) → (xs : List A) → list_any p xs ≡ list_any q xs
any_same p q same [] = refl
any_same p q same (x ∷ xs) = ap (λ b. b || list_any p xs) (same x) ∙ ap (λ b. q x || b) (any_same p q same xs)

-- one member, and those behind it
pub any_here : {A : Type 0} (p : A → Bool) (xs : List A) (i : ℕ) (x : A) → i < length xs → x ≡ get_or xs i x → list_any p (drop i xs) ≡ (p x || list_any p (drop (i + 1) xs))
any_here p xs i x below at =
    let on : suc i ≡ i + 1 = omega arith in
    ap (list_any p) (drop-cons xs i x below) ∙ ap (λ y. p y || list_any p (drop (suc i) xs)) (sym at) ∙ ap (λ n. p x || list_any p (drop n xs)) on

pub none_left : {A : Type 0} (p : A → Bool) (xs : List A) (i : ℕ) → length xs ≤ i → list_any p (drop i xs) ≡ false
none_left p xs i past = ap (list_any p) (drop_all i xs past)

-- these are the bytes of the texts, and this is the text with this number
pub record IsTextAt (texts : List (String Global)) (all : List (List ℕ)) (i : ℕ) (t : String Global) : Type 0 where
  pub bytes : map string_bytes texts ≡ all
  pub below : i < length texts
  pub at : t ≡ get_or texts i t

module _ (texts : List (String Global)) (all : List (List ℕ)) (i : ℕ) (t : String Global) (w : IsTextAt texts all i t) where
  few : i < length all
  few = let low = w.below in let same = sym (length-map texts string_bytes) ∙ ap (λ l. length l) w.bytes in omega (arith, low, same)

  from_here : drop i all ≡ string_bytes t ∷ drop (i + 1) all
  from_here =
      let on : suc i ≡ i + 1 = omega arith in
      drop-cons all i (string_bytes t) few
      ∙ ap (λ x. x ∷ drop (suc i) all) (ap (λ l. get_or l i (string_bytes t)) (sym w.bytes) ∙ get_or-map string_bytes texts i t (string_bytes t) w.below ∙ ap string_bytes (sym w.at))
      ∙ ap (λ k. string_bytes t ∷ drop k all) on

  split : all ≡ take i all ++ string_bytes t ∷ drop (i + 1) all
  split = sym (take-append-drop i all) ∙ ap (λ l. take i all ++ l) from_here

  -- the texts up to this one
  pub taken : take (i + 1) all ≡ take i all ++ string_bytes t ∷ []
  taken =
      take_more all i (string_bytes t) few
      ∙ ap (λ x. take i all ++ x ∷ []) (ap (λ l. get_or l i (string_bytes t)) (sym w.bytes) ∙ get_or-map string_bytes texts i t (string_bytes t) w.below ∙ ap string_bytes (sym w.at))

  module _ {A : Type 0} (f : List ℕ → A) (p : A → Bool) where
    pub taken_next : (xs : List A) (x : A) → xs ≡ map f (take i all) → x ≡ f (string_bytes t) → xs ++ x ∷ [] ≡ map f (take (i + 1) all)
    taken_next xs x h k =
        ap (λ l. l ++ x ∷ []) h ∙ ap (λ y. map f (take i all) ++ y ∷ []) k ∙ sym (map-append f (take i all) (string_bytes t ∷ [])) ∙ ap (map f) (sym taken)

    pub none_next : list_any p (map f (take i all)) ≡ false → p (f (string_bytes t)) ≡ false → list_any p (map f (take (i + 1) all)) ≡ false
    none_next h k =
        ap (λ l. list_any p (map f l)) taken ∙ ap (list_any p) (map-append f (take i all) (string_bytes t ∷ []))
        ∙ list_any-append p (map f (take i all)) (f (string_bytes t) ∷ []) ∙ ap (λ b. b || (p (f (string_bytes t)) || false)) h ∙ ap (λ b. b || false) k

    or_true : (b : Bool) → (b || true) ≡ true
    or_true true = refl
    or_true false = refl

    pub one_passes : p (f (string_bytes t)) ≡ true → list_any p (map f all) ≡ true
    one_passes h =
        ap (λ l. list_any p (map f l)) split ∙ ap (list_any p) (map-append f (take i all) (string_bytes t ∷ drop (i + 1) all))
        ∙ list_any-append p (map f (take i all)) (map f (string_bytes t ∷ drop (i + 1) all))
        ∙ ap (λ b. list_any p (map f (take i all)) || (b || list_any p (map f (drop (i + 1) all)))) h ∙ or_true (list_any p (map f (take i all)))

    pub none_passes : list_any p (map f all) ≡ false → p (f (string_bytes t)) ≡ false
    none_passes h = by (p (f (string_bytes t))) refl
      where
        by : (b : Bool) → p (f (string_bytes t)) ≡ b → p (f (string_bytes t)) ≡ false
        by true is = absurd (true≢false (sym (one_passes is) ∙ h))
        by false is = is

    pub reading_here : (xs : List A) (x : A) → xs ≡ map f all → x ≡ get_or xs i x → x ≡ f (string_bytes t)
    reading_here xs x h at =
        at ∙ ap (λ l. get_or l i x) h ∙ get_or-map f all i (string_bytes t) x few
        ∙ ap f (ap (λ l. get_or l i (string_bytes t)) (sym w.bytes) ∙ get_or-map string_bytes texts i t (string_bytes t) w.below ∙ ap string_bytes (sym w.at))

    one_count : (b : Bool) (x : A) → length (cond b (x ∷ []) []) ≡ (if b then 1 else 0)
    one_count true x = refl
    one_count false x = refl

    pub count_next : length (filter p (map f (take (i + 1) all))) ≡ length (filter p (map f (take i all))) + (if p (f (string_bytes t)) then 1 else 0)
    count_next =
        ap (λ l. length (filter p (map f l))) taken ∙ ap (λ l. length (filter p l)) (map-append f (take i all) (string_bytes t ∷ []))
        ∙ ap (λ l. length l) (filter-append p (map f (take i all)) (f (string_bytes t) ∷ []))
        ∙ length-append (filter p (map f (take i all))) (filter p (f (string_bytes t) ∷ []))
        ∙ ap (λ n. length (filter p (map f (take i all))) + n) (one_count (p (f (string_bytes t))) (f (string_bytes t)))

    pub count_within : length (filter p (map f (take (i + 1) all))) ≤ length (filter p (map f all))
    count_within =
        let whole = ap (λ l. length (filter p (map f l))) (sym (take-append-drop (i + 1) all)) ∙ ap (λ l. length (filter p l)) (map-append f (take (i + 1) all) (drop (i + 1) all))
        ∙ ap (λ l. length l) (filter-append p (map f (take (i + 1) all)) (map f (drop (i + 1) all)))
        ∙ length-append (filter p (map f (take (i + 1) all))) (filter p (map f (drop (i + 1) all))) in
        omega (arith, whole)
