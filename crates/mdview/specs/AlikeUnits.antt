-- A unit that comes in the place of a held one, of which texts read as those of the other.
use Rattle.std.specs.Prelude.{◌≡◌, ◌≤◌, ◌-◌, List, drop, length, take}
use Rattle.inlinespec.specs.ParsedText.{ParsedText}
use Rattle.mdview.specs.declared.pieces.text_room.Alike.{Alike}

-- so many readings from the front on and from the end on are those of a held unit
pub record AreAlike (readings : List ParsedText) (like : Alike) : Type 0 where
  pub front_within : like.front ≤ length readings
  pub front_within_like : like.front ≤ length like.unit.now.read.readings
  pub front : take like.front readings ≡ take like.front like.unit.now.read.readings
  pub behind_within : like.behind ≤ length readings
  pub behind_within_like : like.behind ≤ length like.unit.now.read.readings
  pub behind : drop (length readings - like.behind) readings ≡ drop (length like.unit.now.read.readings - like.behind) like.unit.now.read.readings
