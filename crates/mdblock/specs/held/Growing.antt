-- What is gathered grows, and names lead where they led.
use Rattle.std.specs.Prelude.{◌≡◌, ◌≤◌, length}
use Rattle.mdblock.specs.declared.gathering.Gathering.{Gathering}

abbrev pub Grows : Gathering → Gathering → Type 0
Grows old new = (length old.texts.items ≤ length new.texts.items) × (new.entities.now ≡ old.entities.now)
