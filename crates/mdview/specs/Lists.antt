-- Lists with some members replaced.
use Rattle.std.specs.Prelude.{ℕ, ◌+◌, List, ◌++◌, take, drop}

-- the list with del members at a place replaced by others
abbrev pub replaced : {A : Type 0} → List A → ℕ → ℕ → List A → List A
replaced xs at del add = take at xs ++ add ++ drop (at + del) xs
