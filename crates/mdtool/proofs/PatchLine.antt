-- The line of a patch, as it is printed.
use Rattle.std.proofs.Common.{◌≡◌, ℕ, [], ◌∷◌, ◌++◌, length, append_assoc}
use Rattle.std.specs.Prelude.{codes, decimal}
use Rattle.mdsource.specs.ChangedPieces.{ChangedPieces}
use Rattle.mdtool.specs.Replies.{patch_line}

pub patch_printed : (patch : ChangedPieces) (again : ℕ) → again ≡ length patch.again
    → codes "ok " ++ (decimal patch.first ++ 32 ∷ (decimal patch.removed ++ 32 ∷ (decimal patch.added ++ 32 ∷ (decimal again ++ 10 ∷ [])))) ≡ patch_line patch
patch_printed patch again e = rw e (simp append_assoc)
