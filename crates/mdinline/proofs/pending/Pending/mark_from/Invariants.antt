use Rattle.std.proofs.Common.{◌≡◌, ℕ, List, All, map, take}
use Rattle.mdtext.specs.EntityTable.{EntityTable}
use Rattle.mdinline.specs.held.LeafEvents.{IsTokenOf}
use Rattle.mdinline.specs.held.ReadMarks.{marked}
use Rattle.mdinline.specs.held.ReadPending.{AreRunsAt, ChangesTokens, HasSpansOf, IsSpanned, paired_piece, shown_by, shown_pieces}
use Rattle.mdinline.proofs.pending.Pending.mark_from.Given as goal

abbrev pub invariant-loop-i : goal.invariant-loop-i
invariant-loop-i l = record {
  same : ChangesTokens l.fn.self l.self;
  tokens : (text : List ℕ) → All (IsTokenOf text) l.fn.self.tokens.items → All (IsTokenOf text) l.self.tokens.items;
  value : (entities : EntityTable) (text : List ℕ) → AreRunsAt entities text l.fn.from l.fn.self →
      shown_by entities text l.fn.self.begun.items l.self.tokens.items ≡ marked (shown_pieces entities text l.fn.self) l.fn.from (map (paired_piece l.fn.self.begun.items) (take l.i l.fn.self.paired.items));
  spans : All (HasSpansOf l.fn.self.begun.items) l.fn.self.paired.items → All (IsSpanned l.fn.self.begun.items) l.fn.self.tokens.items → All (IsSpanned l.fn.self.begun.items) l.self.tokens.items;
}
