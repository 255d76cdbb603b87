-- Where the reader of a text stands (CommonMark 6).
use Rattle.std.specs.Prelude.{◌≡◌, ℕ, List}
use Rattle.mdtext.specs.EntityTable.{EntityTable}
use Rattle.inlinespec.specs.InlineEvents.{Event}
use Rattle.inlinespec.specs.Pieces.{Piece}
use Rattle.mdinline.specs.declared.readers.TextReader.{TextReader}
use Rattle.mdinline.specs.held.KnownText.{KnowsText}
use Rattle.mdinline.specs.held.ReadPending.{HoldsPieces}
use Rattle.mdinline.specs.held.UnusedOpeners.{AreOpenersOf}

-- The text is read up to a place, and gave these pieces; of them so much was handed out.
pub record IsReadTo (entities : EntityTable) (text : List ℕ) (at : ℕ) (handed : List Event) (reader : TextReader) (ps : List Piece) : Type 0 where
  pub entities_same : reader.entities.now ≡ entities
  pub knows : KnowsText text at reader.scanner
  pub unused : AreOpenersOf ps reader.pending.openings
  pub pieces : HoldsPieces entities text handed reader.pending ps
