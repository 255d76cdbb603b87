-- What a patch says of the pieces.
use Rattle.std.specs.Prelude.{◌≡◌, ℕ, ◌+◌, ◌-◌, Bool, ◌||◌, ◌&&◌, not, List, [], ◌∷◌, length, map, if◌then◌else◌, ◌==◌, nat_lt, get_or}
use Rattle.std.specs.List.{list_any, range_with_len}
use Rattle.mdsource.specs.ChangedPieces.{ChangedPieces}

-- whether the piece is one of those that the patch brings
abbrev pub brings : ChangedPieces → ℕ → Bool
brings patch i = (not (nat_lt i patch.first) && nat_lt i (patch.first + patch.added)) || list_any (λ k. k == i) patch.again

-- of a list whose first member has this number, those that the patch brings, each with its number
abbrev pub brought : {A : Type 0} → ChangedPieces → ℕ → List A → List (ℕ × A)
brought patch i [] = []
brought patch i (x ∷ xs) = let later = brought patch (i + 1) xs in if brings patch i then (i, x) ∷ later else later

-- a list after the patch: those members that it brings by t, and the others as they were; d stands where there is none
abbrev pub apply : {A : Type 0} → A → ChangedPieces → List A → (ℕ → A) → List A
apply d patch old t = map (λ i.
    if brings patch i then t i
    else if nat_lt i patch.first then get_or old i d
    else get_or old (i - patch.added + patch.removed) d) (range_with_len 0 (length old - patch.removed + patch.added))

-- the new members of a list are those that the patch brings, and the others stand where the patch says
abbrev pub Brings : {A : Type 0} → ChangedPieces → List A → List A → Type 0
Brings {A} patch old new = (d : A) → apply d patch old (λ i. get_or new i d) ≡ new
