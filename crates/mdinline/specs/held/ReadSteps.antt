-- One part of a text after the other, as the definition reads it (CommonMark 6).
use Rattle.std.specs.Prelude.{◌≡◌, ℕ, false, List, [], ◌∷◌, ◌++◌, drop}
use Rattle.mdtext.specs.EntityTable.{EntityTable}
use Rattle.inlinespec.specs.LinkTails.{Table}
use Rattle.inlinespec.specs.Pieces.{Piece, Made}
use Rattle.inlinespec.specs.TextReading.{Item, asks_of, items_from, pieces_after}

-- the items from a place on, after these pieces
abbrev pub rest_from : EntityTable → Table → List ℕ → ℕ → List Piece → List Item
rest_from entities table text at ps = items_from entities table text at 0 ps (drop at text)

-- From a place on, after these pieces, come items for which these labels are looked up, and then those from another place on, after other pieces.
pub record LeadsTo (entities : EntityTable) (table : Table) (text : List ℕ) (at : ℕ) (ps : List Piece) (labels : List (List ℕ)) (end : ℕ) (next : List Piece) : Type 0 where
  pub pieces : pieces_after (rest_from entities table text at ps) ps ≡ pieces_after (rest_from entities table text end next) next
  pub asks : asks_of (rest_from entities table text at ps) ≡ labels ++ asks_of (rest_from entities table text end next)

-- pieces that are made, in which no link lies
abbrev pub AreLeaves : List Piece → Type 0
AreLeaves [] = Unit {0}
AreLeaves (Made false es ∷ ps) = AreLeaves ps
AreLeaves _ = ⊥
