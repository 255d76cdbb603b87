-- Links and images (CommonMark 6.3, 6.4): the opening bracket that a `]` belongs to, and what both make of the pieces between them.
use Rattle.std.specs.Prelude.{ℕ, Bool, false, ◌||◌, not, List, [], ◌∷◌, Option, Some, None}
use Rattle.inlinespec.specs.LabelMap.{LinkTarget}
use Rattle.inlinespec.specs.InlineEvents.{within}
use Rattle.inlinespec.specs.Pieces.{Piece, Made, Opening}
use Rattle.inlinespec.specs.Emphasis.{settled}
use Rattle.inlinespec.specs.Images.{span_to}

-- Pieces so far are read backwards: the first is the last.

-- the nearest opener that no `]` has used, with the pieces behind it (in the text's order) and those before it
pub record Opened : Type 0 where
  pub image : Bool
  pub begin : ℕ
  pub inside : List Piece
  pub below : List Piece

abbrev pub opened_with : List Piece → List Piece → Option Opened
opened_with inside [] = None
opened_with inside (Opening image begin ∷ below) = Some (record { image = image; begin = begin; inside = inside; below = below })
opened_with inside (p ∷ below) = opened_with (p ∷ inside) below

abbrev pub nearest_opener : List Piece → Option Opened
nearest_opener ps = opened_with [] ps

-- whether a link that brackets made lies in a piece
abbrev pub holds_link : List Piece → Bool
holds_link [] = false
holds_link (Made has_link es ∷ ps) = has_link || holds_link ps
holds_link (_ ∷ ps) = holds_link ps

-- Links may not contain other links (CommonMark 6.3), but images may (CommonMark 6.4).
abbrev pub is_live : Opened → Bool
is_live o = o.image || not (holds_link o.inside)

-- The inside of a link or an image is paired by itself, before the outside.
abbrev pub linked : LinkTarget → List Piece → Option Opened → List Piece
linked target ps None = ps
linked target ps (Some o) =
    Made (not o.image || holds_link o.inside) (within (span_to o.image target) (settled o.inside)) ∷ o.below
