-- Lines of a text that are read from one on at which the text may be cut.
use Rattle.std.specs.Prelude.{◌≡◌, ◌⊎◌, Contains, List, [], ◌∷◌, ◌++◌, ℕ, length}
use Rattle.mdtext.specs.EntityTable.{EntityTable}
use Rattle.blockspec.specs.BlockUnits.{begins}

-- Behind the front, which is empty or ends where a unit begins, these lines and one more are read; others come later.
pub record IsReadStretch (e : EntityTable) (text front lines : List (List ℕ)) (line : List ℕ) (later : List (List ℕ)) : Type 0 where
  pub order : text ≡ (front ++ (lines ++ line ∷ [])) ++ later
  pub cut : (length front ≡ 0) ⊎ Contains (begins e text) (length front)
