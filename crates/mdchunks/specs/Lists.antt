-- Lists that are joined, replaced in part, and weighed.
use Rattle.std.specs.Prelude.{ℕ, ◌+◌, ◌-◌, ◌^◌, ◌<◌, List, ◌++◌, length, take, drop, min, sum_by}
use Rattle.std.specs.List.{flat_map}

-- the members of all lists in their order
abbrev pub joined : {A : Type 0} → List (List A) → List A
joined xss = flat_map (λ xs. xs) xss

abbrev pub IsFilled : {A : Type 0} → List A → Type 0
IsFilled xs = 0 < length xs

-- the list with del members at a place replaced by others
abbrev pub replaced : {A : Type 0} → List A → ℕ → ℕ → List A → List A
replaced xs at del add = take at xs ++ add ++ drop (at + del) xs

-- the sum of the members' weights, up to the greatest number
abbrev pub weigh : {A : Type 0} → (A → ℕ) → List A → ℕ
weigh w xs = min (sum_by w xs) (2 ^ 64 - 1)
