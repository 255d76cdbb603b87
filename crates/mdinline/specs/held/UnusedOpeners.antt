-- The opening brackets among the pieces that no `]` has used, and which of them stand before a link (CommonMark 6.3, 6.4).
use Rattle.std.specs.Prelude.{◌≡◌, ℕ, Bool, true, List, [], ◌∷◌, ◌++◌, length, map, Some}
use Rattle.inlinespec.specs.Pieces.{Piece, Made, Opening}
use Rattle.inlinespec.specs.Links.{Opened, nearest_opener, is_live}
use Rattle.mdinline.specs.declared.bracket_stack.Opening as held
use Rattle.mdinline.specs.declared.bracket_stack.BracketStack.{BracketStack}

-- Pieces so far are read backwards: the first is the last. The openers are in the text's order: whether they are images, and where the text behind
-- them begins.
abbrev pub openers : List Piece → List (Bool × ℕ)
openers [] = []
openers (Opening image begin ∷ below) = openers below ++ (image, begin) ∷ []
openers (_ ∷ below) = openers below

-- how many of them stand before a link that brackets made
abbrev pub before_link : List Piece → ℕ
before_link [] = 0
before_link (Made true es ∷ below) = length (openers below)
before_link (_ ∷ below) = before_link below

-- what is held of a bracket
abbrev pub shown : held.Opening → Bool × ℕ
shown o = (o.is_image, o.begin)

-- what is held is what these pieces leave unused
pub record AreOpenersOf (ps : List Piece) (openings : BracketStack) : Type 0 where
  pub all : map shown openings.unused.items ≡ openers ps
  pub links : openings.before_link ≡ before_link ps

-- a bracket that is taken, with whether it is live, is the nearest unused one
pub record IsTaken (ps : List Piece) (taken : held.Opening × Bool) (o : Opened) : Type 0 where
  pub nearest : nearest_opener ps ≡ Some o
  pub image : taken.0.is_image ≡ o.image
  pub begin : taken.0.begin ≡ o.begin
  pub live : taken.1 ≡ is_live o
