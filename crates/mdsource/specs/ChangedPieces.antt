-- What a patch says.
use Rattle.std.specs.Prelude.{ℕ, List}

pub record ChangedPieces : Type 0 where
  pub first : ℕ
  pub removed : ℕ
  pub added : ℕ
  pub again : List ℕ
