use Rattle.std.proofs.Common.{◌≡◌, map, take}
use Rattle.std.specs.Simd.Lanes.{mask_l}
use Rattle.mdtext.specs.ByteClass.{in_class}
use Rattle.mdtext.proofs.byte_lanes.half_marks.Given as goal

abbrev pub invariant-loop-byte : goal.invariant-loop-byte
invariant-loop-byte l = l.marks ≡ mask_l (map (in_class (take l.byte-index l.class)) l.block)
