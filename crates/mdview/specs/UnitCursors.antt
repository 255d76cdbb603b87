-- How a cursor over the units goes on.
use Rattle.std.specs.Prelude.{◌≡◌, ◌≤◌, ℕ}
use Rattle.mdview.specs.HeldItems.{IsCounted}
use Rattle.mdview.specs.declared.blocks.held_places.UnitCursor.{UnitCursor}

-- It stands over the same units and went no way back, and where its next one begins is told by how many lines those before it have, if that was so.
pub record GoesOn (old new : UnitCursor) : Type 0 where
  pub same : new.units.now ≡ old.units.now
  pub forward : old.next.unit ≤ new.next.unit
  pub counted : (head : ℕ) → IsCounted head old.units.now.items old.next → IsCounted head old.units.now.items new.next
