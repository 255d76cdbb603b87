use Rattle.mdtext.proofs.Lanes.{no_marks, class_more}
use Rattle.mdtext.proofs.byte_lanes.marks.Goals as goal

pub loop-byte-init : goal.loop-byte-init
loop-byte-init c = no_marks c.args.block

pub loop-byte-preserved : goal.loop-byte-preserved
loop-byte-preserved c =
    class_more c.args.class.now c.args.block c.loop-byte.byte-index _ c.equal-marks.result c.loop-byte-test.true c.loop-byte.invariant c.equal-marks.ensures
