-- The pieces that a patch brings.
use Rattle.std.specs.Prelude.{ℕ, List}
use Rattle.mdsource.specs.ChangedPieces.{ChangedPieces}
use Rattle.mdsource.specs.Patch.{brought}

-- `added` pieces from number `first` on are new, and those of some numbers were made again
abbrev pub changed : (first added : ℕ) → (again : List ℕ) → ChangedPieces
changed first added again = record { first = first; removed = 0; added = added; again = again }

-- of pieces, the first of which has this number, those that are new or were made again, each with its number
abbrev pub changed_pieces : (first added : ℕ) → (again : List ℕ) → ℕ → List (List ℕ) → List (ℕ × List ℕ)
changed_pieces first added again number pieces = brought (changed first added again) number pieces
