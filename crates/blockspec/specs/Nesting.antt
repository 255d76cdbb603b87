-- How deep containers lie in one another: the one place where a limit is known. It is ours, since the standard has none.
use Rattle.std.specs.Prelude.{ℕ, zero, suc, ◌+◌, List, [], ◌∷◌, map, Option, Some, None}
use Rattle.std.specs.Option.{option_or, option_map}
use Rattle.blockspec.specs.BlockLine.{BlockLine, document_line}
use Rattle.blockspec.specs.BlockKinds.{Kind, Holds}
use Rattle.blockspec.specs.BlockUnits.{depth_of}
use Rattle.blockspec.specs.ContainerLines.{inner}
use Rattle.blockspec.specs.Stretches.{Stretch, stretches, cut_within}

-- the first line of a stretch on which a container begins that lies in too many others, where `deeper` tells it of the lines in a container
abbrev pub deep_at : (deeper : List BlockLine → Option ℕ) → Kind → (first : BlockLine) → (later : List BlockLine) → Option ℕ
deep_at deeper (Holds container) first later = deeper (inner container first later)
deep_at deeper kind first later = None

unfoldable pub first_deep : (deeper : List BlockLine → Option ℕ) → List Stretch → Option ℕ
first_deep deeper [] = None
first_deep deeper (s ∷ ss) = option_or (option_map (λ line. s.begin + line) (deep_at deeper s.kind s.first s.later)) (first_deep deeper ss)

-- The first of some lines on which a container begins that lies in `limit` others.
unfoldable pub deep_within : (limit : ℕ) → List BlockLine → Option ℕ
deep_within zero ls = first_deep (λ inside. Some 0) (stretches (cut_within (depth_of ls) ls))
deep_within (suc limit) ls = first_deep (deep_within limit) (stretches (cut_within (depth_of ls) ls))

-- the first line of a document on which a container begins that lies in so many others
abbrev pub first_too_deep : (limit : ℕ) → (lines : List (List ℕ)) → Option ℕ
first_too_deep limit lines = deep_within limit (map document_line lines)
