-- Elements of one kind that stand one after the other, where `element` tells how long such an element is that a text
-- begins with, or 0.
use Rattle.std.specs.Prelude.{ℕ, zero, suc, ◌+◌, ◌-◌, nat_lt, List, [], ◌∷◌, if◌then◌else◌}

-- how long they are, after so many bytes of one
abbrev pub repeats_after : (List ℕ → ℕ) → ℕ → List ℕ → ℕ
repeats_after element inside [] = 0
repeats_after element (suc inside) (_ ∷ bs) = 1 + repeats_after element inside bs
repeats_after element zero (b ∷ bs) = if nat_lt 0 (element (b ∷ bs)) then 1 + repeats_after element (element (b ∷ bs) - 1) bs else 0

unfoldable pub repeats : (List ℕ → ℕ) → List ℕ → ℕ
repeats element text = repeats_after element 0 text
