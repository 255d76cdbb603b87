use Rattle.std.proofs.Common.{◌≡◌, ℕ, ◌-◌, [], List, All, length}
use Rattle.std.specs.Str.{IsCharBoundary}
use Rattle.inlinespec.specs.InlineEvents.{Event}
use Rattle.inlinespec.specs.Pieces.{Piece}
use Rattle.mdinline.specs.held.Brackets.{AreBracketsOf}
use Rattle.mdinline.specs.held.LeafEvents.{IsTokenOf}
use Rattle.mdinline.specs.held.ReadSteps.{LeadsTo}
use Rattle.mdinline.specs.held.ReadTo.{IsReadTo}
use Rattle.mdinline.proofs.readers.TextReader.read_all.Given as goal

abbrev pub invariant-loop-at : goal.invariant-loop-at
invariant-loop-at g l = record {
  entities : l.self.entities ≡ l.fn.self.entities;
  whole : IsCharBoundary l.text l.at;
  brackets : AreBracketsOf l.text l.at l.self.pending.openings.unused.items;
  tokens : All (IsTokenOf l.text) l.self.pending.tokens.items;
  reads : (handed : List Event) × (looked : List (List ℕ)) × (ps : List Piece) × g.S.InlineSink.takes l.fn.sink handed l.sink
      × LeadsTo l.fn.self.entities.now (g.L.Labels.target l.labels) l.text 0 [] looked l.at ps × g.A.AsksLabels.asks l.fn.asked looked l.asked
      × IsReadTo l.fn.self.entities.now l.text l.at handed l.self ps;
}

abbrev pub decreases-loop-at : goal.decreases-loop-at
decreases-loop-at g l = length l.text - l.at
