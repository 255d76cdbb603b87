use Rattle.std.proofs.Common.{arith}
use Rattle.mdtext.proofs.Lanes.{length_block, no_place, first_place}
use Rattle.mdtext.proofs.byte_lanes.first_in_half.Goals as goal

pub half_marks-marks-requires : goal.half_marks-marks-requires
half_marks-marks-requires c = length_block c.args.bytes.now c.args.at 16 c.requires

pub returns-then-marks-eq0 : goal.returns-then-marks-eq0
returns-then-marks-eq0 c =
    no_place c.args.class.now c.args.bytes.now c.args.at 16 c.half_marks-marks.result c.requires c.half_marks-marks.ensures c.if-marks-eq0.true

pub returns-else-marks-eq0 : goal.returns-else-marks-eq0
returns-else-marks-eq0 c =
    first_place c.args.class.now c.args.bytes.now c.args.at 16 c.half_marks-marks.result c.requires (omega arith) c.half_marks-marks.ensures
    (omega (arith, c.if-marks-eq0.false))
