use Rattle.std.proofs.Common.{◌≡◌, ◌≤◌, ◌<◌, ◌^◌, ◌+◌, ◌-◌, length, drop}
use Rattle.std.specs.List.{position_or_len}
use Rattle.mdtext.specs.ByteClass.{in_class}
use Rattle.mdtext.proofs.byte_lanes.first_of_many.Given as goal

abbrev pub invariant-loop-at : goal.invariant-loop-at
invariant-loop-at l = record {
  small : length l.bytes < 2 ^ 64;
  within : l.at ≤ length l.bytes;
  none_before : l.at + position_or_len (in_class l.class) (drop l.at l.bytes) ≡ position_or_len (in_class l.class) l.bytes;
}

abbrev pub decreases-loop-at : goal.decreases-loop-at
decreases-loop-at l = length l.bytes - l.at
