-- Lines that stand one behind the other, an LF behind each.
use Rattle.std.specs.Prelude.{◌≡◌, ℕ, ◌+◌, ◌<◌, List, [], ◌∷◌, length, take, drop, get_or}

-- the parts of these lengths, one behind the other, with a byte behind each
abbrev pub cut : List ℕ → List ℕ → List (List ℕ)
cut [] bytes = []
cut (len ∷ lens) bytes = take len bytes ∷ cut lens (drop (len + 1) bytes)

-- parts of these lengths, and an LF behind each, are all of the bytes
abbrev pub AreLengths : List ℕ → List ℕ → Type 0
AreLengths [] bytes = bytes ≡ []
AreLengths (len ∷ lens) bytes = (len < length bytes) × (get_or bytes len 0 ≡ 10) × AreLengths lens (drop (len + 1) bytes)
