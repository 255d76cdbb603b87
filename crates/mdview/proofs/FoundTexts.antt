-- Of units that were found, the first one in which spans lie too deep.
use Rattle.std.proofs.Common.{◌≡◌, ℕ, true, false, List, ◌∷◌, Some, find, cond, option_map, ap}
use Rattle.mdtext.specs.EntityTable.{EntityTable}
use Rattle.blockspec.specs.UnitTree.{FoundUnit}
use Rattle.inlinespec.specs.LinkTails.{Table}
use Rattle.mdsource.specs.UnitTexts.{deep_found, is_deep_under}

module _ (limit : ℕ) (e : EntityTable) (labels : Table) (one : FoundUnit) (rest : List FoundUnit) where
  pub deep_later : is_deep_under limit e labels one.unit ≡ false → deep_found limit e labels (one ∷ rest) ≡ deep_found limit e labels rest
  deep_later h = ap (λ b. option_map (λ (u : FoundUnit). u.begin) (cond b (Some one) (find (λ (u : FoundUnit). is_deep_under limit e labels u.unit) rest))) h

  pub deep_first : is_deep_under limit e labels one.unit ≡ true → deep_found limit e labels (one ∷ rest) ≡ Some one.begin
  deep_first h = ap (λ b. option_map (λ (u : FoundUnit). u.begin) (cond b (Some one) (find (λ (u : FoundUnit). is_deep_under limit e labels u.unit) rest))) h
