-- The labels of a map as it is held are those of the map that it shows.
use Rattle.std.proofs.Common.{◌≡◌, ℕ, List, [], ◌∷◌, map, refl, ap}
use Rattle.inlinespec.specs.LabelMap.{LinkTarget, target_of}
use Rattle.mdtext.specs.declared.labels.Target.{Target}

-- the labels of a map of targets
pub keys_shown : (entries : List (List ℕ × Target)) → map (λ (e : List ℕ × LinkTarget). e.0) (map (λ (e : List ℕ × Target). (e.0, target_of e.1)) entries) ≡ map (λ (e : List ℕ × Target). e.0) entries
keys_shown [] = refl
keys_shown (e ∷ entries) = ap (λ ls. e.0 ∷ ls) (keys_shown entries)
