-- The first bytes of a text as a number: texts are in the order of their numbers where these differ.
use Rattle.std.proofs.Common.{◌≡◌, ◌⊎◌, ℕ, zero, suc, ◌+◌, ◌*◌, ◌<◌, ◌≤◌, List, [], ◌∷◌, refl, ap, sym, ◌∙◌, arith, inl, inr}
use Rattle.std.specs.Cmp.{nat_cmp_is}
use Rattle.std.specs.Cmp.Lexicographic.{slice_cmp}
use Rattle.std.specs.Ordering.{nat_cmp, ordering_then}
use Rattle.std.specs.declared.cmp.Ordering.TheVariants.{Less, Equal, Greater}
use Rattle.std.specs.declared.cmp.Ordering.{Ordering}
use Rattle.mdtext.specs.LabelFronts.{worth, digits, AreBytes, IsFrontOf}

-- of two numbers one is the lesser, or they are equal
three : (x y : ℕ) → (x < y) ⊎ ((x ≡ y) ⊎ (y < x))
three zero zero = inr (inl refl)
three zero (suc y) = inl (omega arith)
three (suc x) zero = inr (inr (omega arith))
three (suc x) (suc y) = elim (three x y) [
  | inl less ↦ inl (omega (arith, less))
  | inr (inl same) ↦ inr (inl (ap suc same))
  | inr (inr more) ↦ inr (inr (omega (arith, more)))
]

-- more digits of the same worth
times_le : (a b w : ℕ) → a ≤ b → a * w ≤ b * w
times_le zero b w h = omega arith
times_le (suc a) zero w h = absurd (omega (arith, h))
times_le (suc a) (suc b) w h = let less = times_le a b w (omega (arith, h)) in grind (arith, less)

none : (n : ℕ) → AreBytes n []
none zero = tt
none (suc n) = tt

-- the number of n bytes is less than 256 to the power n
below : (n : ℕ) (bs : List ℕ) → AreBytes n bs → digits n bs < worth n
below zero bs h = omega arith
below (suc n) [] h = let more = below n [] (none n) in omega (arith, more)
below (suc n) (b ∷ bs) (byte, later) =
    let more = below n bs later in
    let most : b * worth n ≤ 255 * worth n = times_le b 255 (worth n) (omega (arith, byte)) in
    omega (arith, more, most)

-- a digit that is the lesser makes the number the lesser
lesser : (n x y : ℕ) (xs ys : List ℕ) → x < y → AreBytes n xs → x * worth n + digits n xs < y * worth n + digits n ys
lesser n x y xs ys less small =
    let more = below n xs small in
    let least : suc x * worth n ≤ y * worth n = times_le (suc x) y (worth n) (omega (arith, less)) in
    grind (arith, more, least)

-- where the numbers differ, the texts are in their order
in_order : (n : ℕ) (xs ys : List ℕ) → AreBytes n xs → AreBytes n ys → digits n xs < digits n ys → (slice_cmp nat_cmp xs ys ≡ Less) × (slice_cmp nat_cmp ys xs ≡ Greater)
in_order zero xs ys p q h = absurd (omega (arith, h))
in_order (suc n) [] [] p q h = absurd (omega (arith, h))
in_order (suc n) [] (y ∷ ys) p q h = (refl, refl)
in_order (suc n) (x ∷ xs) [] p q h = absurd (omega (arith, h))
in_order (suc n) (x ∷ xs) (y ∷ ys) p q h = elim (three x y) [
  | inl less ↦ (
    ap (λ o. ordering_then o (slice_cmp nat_cmp xs ys)) (sym (nat_cmp_is x y Less less)),
    ap (λ o. ordering_then o (slice_cmp nat_cmp ys xs)) (sym (nat_cmp_is y x Greater less)),
  )
  | inr (inl same) ↦
      let later = in_order n xs ys p.1 q.1 (omega (arith, h, ap (λ b. b * worth n) same)) in (
        ap (λ o. ordering_then o (slice_cmp nat_cmp xs ys)) (sym (nat_cmp_is x y Equal same)) ∙ later.0,
        ap (λ o. ordering_then o (slice_cmp nat_cmp ys xs)) (sym (nat_cmp_is y x Equal (sym same))) ∙ later.1,
      )
  | inr (inr more) ↦
      let other = lesser n y x ys xs more q.1 in
      absurd (omega (arith, h, other))
]

pub by_fronts : (xs ys : List ℕ) (a b : ℕ) (r : Ordering) → IsFrontOf xs a → IsFrontOf ys b → r ≡ nat_cmp a b → (r ≡ Equal → ⊥) → r ≡ slice_cmp nat_cmp xs ys
by_fronts xs ys a b r p q is differ = elim (three a b) [
  | inl less ↦ is ∙ sym (nat_cmp_is a b Less less) ∙ sym (in_order 8 xs ys p.1 q.1 (omega (arith, less, p.0, q.0))).0
  | inr (inl same) ↦ absurd (differ (is ∙ sym (nat_cmp_is a b Equal same)))
  | inr (inr more) ↦ is ∙ sym (nat_cmp_is a b Greater more) ∙ sym (in_order 8 ys xs q.1 p.1 (omega (arith, more, p.0, q.0))).1
]
