use Rattle.std.proofs.Common.{◌≡◌, ◌||◌, drop, nat_le}
use Rattle.std.specs.List.{list_any}
use Rattle.mdsource.proofs.limits.has_low_byte.Given as goal

abbrev pub invariant-loop-byte : goal.invariant-loop-byte
invariant-loop-byte l = (l.is_low || list_any (λ byte. nat_le byte 13) (drop l.byte-index l.bytes)) ≡ list_any (λ byte. nat_le byte 13) l.bytes
