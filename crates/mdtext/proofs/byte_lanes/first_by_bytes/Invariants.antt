use Rattle.std.proofs.Common.{◌≡◌, ◌+◌, drop}
use Rattle.std.specs.List.{position_or_len}
use Rattle.mdtext.specs.ByteClass.{in_class}
use Rattle.mdtext.proofs.byte_lanes.first_by_bytes.Given as goal

abbrev pub invariant-loop-i : goal.invariant-loop-i
invariant-loop-i l = l.i + position_or_len (in_class l.class) (drop l.i l.bytes) ≡ position_or_len (in_class l.class) l.bytes
