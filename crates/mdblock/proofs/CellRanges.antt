-- The positions of cells that are handed in one after the other.
use Rattle.std.proofs.Common.{◌≡◌, ℕ, zero, suc, ◌+◌, ◌-◌, ◌≤◌, List, [], ◌∷◌, ◌++◌, ap, ◌∙◌, subst, sym, arith}
use Rattle.std.specs.List.{range_with_len}
use Rattle.mdblock.specs.Positions.{CellsIn}

range_more : (a n : ℕ) → range_with_len a (suc n) ≡ range_with_len a n ++ (a + n) ∷ []
range_more a zero = let e : a ≡ a + 0 = omega arith in ap (λ k. k ∷ []) e
range_more a (suc n) = let e : a + 1 + n ≡ a + suc n = omega arith in ap (λ ks. a ∷ ks) (range_more (a + 1) n ∙ ap (λ k. range_with_len (a + 1) n ++ k ∷ []) e)

pub range_next : (xs : List ℕ) (start at : ℕ) → start ≤ at → xs ≡ range_with_len start (at - start) → xs ++ at ∷ [] ≡ range_with_len start (at + 1 - start)
range_next xs start at le e =
    let here : start + (at - start) ≡ at = omega (arith, le) in
    let more : suc (at - start) ≡ at + 1 - start = omega (arith, le) in
    ap (λ ys. ys ++ at ∷ []) e ∙ ap (λ k. range_with_len start (at - start) ++ k ∷ []) (sym here) ∙ sym (range_more start (at - start)) ∙ ap (range_with_len start) more

cells_in_range : (n start k : ℕ) → start + k ≤ n → CellsIn n (range_with_len start k)
cells_in_range n start zero h = tt
cells_in_range n start (suc k) h = (omega (arith, h), cells_in_range n (start + 1) k (omega (arith, h)))

pub range_within : (xs : List ℕ) (start end : ℕ) → start ≤ end → xs ≡ range_with_len start (end - start) → CellsIn end xs
range_within xs start end le e = subst (CellsIn end) (sym e) (cells_in_range end start (end - start) (omega (arith, le)))
