-- The room that is kept from one text to the next.
use Rattle.std.specs.Prelude.{◌≤◌}
use Rattle.mdpair.specs.declared.emphasis.Pairing.{Pairing}
use Rattle.mdpair.specs.Pairings.{KeepsLittle, room_of}

-- each list for the pairing of runs has room for no more than 64
abbrev pub HasSmallRoom : Pairing → Type 0
HasSmallRoom pairing = KeepsLittle pairing × (room_of pairing ≤ 64)
