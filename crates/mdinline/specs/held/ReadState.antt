-- What the reader holds of a text, as the definition's pieces so far (CommonMark 6.2, 6.3).
use Rattle.std.specs.Prelude.{◌≡◌, false, List, [], ◌∷◌, ◌++◌, length, replicate}
use Rattle.mdpair.specs.Neighbours.{byte_of}
use Rattle.inlinespec.specs.InlineEvents.{Event, written}
use Rattle.inlinespec.specs.Pieces.{Piece, Made, Run, Opening, bracket_text}
use Rattle.inlinespec.specs.Emphasis.{runs_of}
use Rattle.mdinline.specs.declared.bracket_stack.Opening as held
use Rattle.mdinline.specs.held.ReadMarks.{marks, marks_back}
use Rattle.mdinline.specs.held.UnusedOpeners.{openers}

-- Pieces so far are read backwards: the first is the last.

-- no run can open, and no bracket is unused
abbrev pub AreIdle : List Piece → Type 0
AreIdle [] = Unit {0}
AreIdle (Made has_link es ∷ ps) = AreIdle ps
AreIdle (Run r ∷ ps) = (r.can_open ≡ false) × AreIdle ps
AreIdle (Opening image begin ∷ ps) = ⊥

-- pieces with their runs as text
abbrev pub as_text : List Piece → List Event
as_text [] = []
as_text (Made has_link es ∷ ps) = es ++ as_text ps
as_text (Run r ∷ ps) = written (replicate r.length (byte_of r.delimiter)) ++ as_text ps
as_text (Opening image begin ∷ ps) = bracket_text image ++ as_text ps

-- the same of pieces that are read backwards, in the text's order
abbrev pub text_back : List Piece → List Event
text_back [] = []
text_back (p ∷ ps) = text_back ps ++ as_text (p ∷ [])

-- Of these pieces the front was handed out, and what is shown are those behind it.
pub record IsHanded (handed : List Event) (shown ps : List Piece) : Type 0 where
  pub back : List Piece
  pub front : List Piece
  pub pieces : ps ≡ back ++ front
  pub idle : AreIdle front
  pub events : text_back front ≡ handed
  pub same : marks shown ≡ marks_back back

-- The nearest unused bracket stands behind what is shown before it, and of the pieces between those below it and those inside.
pub record IsOpened (o : held.Opening) (shown ps before after back below : List Piece) : Type 0 where
  pub pieces : ps ≡ back ++ Opening o.is_image o.begin ∷ below
  pub quiet : openers back ≡ []
  pub parts : shown ≡ before ++ Made false (bracket_text o.is_image) ∷ after
  pub place : o.token ≡ length before
  pub runs : o.runs ≡ length (runs_of before)
  pub same : marks after ≡ marks_back back

-- What was handed out and what is shown are these pieces, and the unused brackets, the nearest first, stand where they are said to stand.
abbrev pub Shows : List held.Opening → List Event → List Piece → List Piece → Type 0
Shows [] handed shown ps = (openers ps ≡ []) × IsHanded handed shown ps
Shows (o ∷ os) handed shown ps =
    (before after back below : List Piece) × IsOpened o shown ps before after back below × Shows os handed before below
