use Rattle.std.proofs.Common.{◌≡◌, ◌-◌, ◌≤◌, ℕ, List, length, map}
use Rattle.mdtext.specs.EntityTable.{EntityTable}
use Rattle.blockspec.specs.BlockUnits.{begins}
use Rattle.mdsource.specs.UnitTiles.{IsAhead}
use Rattle.mdview.specs.HeldBlocks.{lines_in}
use Rattle.mdview.specs.HeldItems.{IsCounted}
use Rattle.mdview.proofs.blocks.held_places.UnitCursor.pass.Given as goal

-- the cursor goes on, past units that begin above the line
abbrev pub invariant-loop-self : goal.invariant-loop-self
invariant-loop-self l = record {
  same : l.self.units.now ≡ l.fn.self.units.now;
  forward : l.fn.self.next.unit ≤ l.self.next.unit;
  ahead : (e : EntityTable) (lines : List (List ℕ)) (low : ℕ) → length lines ≤ 1000000 → low ≤ l.line
      → IsAhead (map lines_in l.fn.self.units.now.items) (begins e lines) l.fn.self.next.unit l.fn.self.next.line low
      → IsAhead (map lines_in l.fn.self.units.now.items) (begins e lines) l.self.next.unit l.self.next.line l.line;
  counted : (head : ℕ) → IsCounted head l.fn.self.units.now.items l.fn.self.next → IsCounted head l.fn.self.units.now.items l.self.next;
}

-- the units that are not passed
abbrev pub decreases-loop-self : goal.decreases-loop-self
decreases-loop-self l = length l.self.units.now.items - l.self.next.unit
