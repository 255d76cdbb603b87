-- What the reader does with a leaf (CommonMark 6): it is kept where something is pending before it, and else it is handed out.
use Rattle.std.specs.Prelude.{◌≡◌, ℕ, List, ◌++◌}
use Rattle.mdtext.specs.EntityTable.{EntityTable}
use Rattle.inlinespec.specs.InlineEvents.{Event}
use Rattle.inlinespec.specs.Pieces.{Piece}
use Rattle.mdinline.specs.declared.pending.Pending.{Pending}
use Rattle.mdinline.specs.declared.readers.TextReader.{TextReader}
use Rattle.mdinline.specs.held.ReadMarks.{marks_back, ones}
use Rattle.mdinline.specs.held.ReadPending.{HoldsPieces}
use Rattle.mdinline.specs.held.ReadSteps.{AreLeaves}

-- A leaf is put behind what is held, and these events are handed out.
abbrev pub PutsLeaf : EntityTable → List ℕ → (leaf es : List Event) → (old new : Pending) → Type 0
PutsLeaf entities text leaf es old new =
    (handed : List Event) (ps qs : List Piece) → AreLeaves qs → ones leaf ≡ marks_back qs → HoldsPieces entities text handed old ps →
    HoldsPieces entities text (handed ++ es) new (qs ++ ps)

-- The brackets, what is known of the whole text, and the entities stay.
pub record Stays (old new : TextReader) : Type 0 where
  pub openings : new.pending.openings ≡ old.pending.openings
  pub scanner : new.scanner ≡ old.scanner
  pub entities : new.entities ≡ old.entities
