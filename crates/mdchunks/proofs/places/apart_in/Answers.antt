use Rattle.std.proofs.Common.{arith}
use Rattle.std.proofs.lemmas.List.Elements.{All-take}
use Rattle.mdchunks.specs.Marks.{IsApart}
use Rattle.mdchunks.proofs.MarkSums.{apart_by}
use Rattle.mdchunks.proofs.places.apart_in.Goals as goal

pub returns-then-marks-eq0-clause-apart : goal.returns-then-marks-eq0-clause-apart
returns-then-marks-eq0-clause-apart g c =
    let marks = g.T.Weighed.marks in
    All-take (IsApart marks c.args.marks) c.len.result c.args.chunk.now (apart_by marks c.args.chunk.now c.marks.result c.args.marks c.marks.ensures c.if-marks-eq0.true)

pub returns-then-marks-eq0-clause-marked : goal.returns-then-marks-eq0-clause-marked
returns-then-marks-eq0-clause-marked g c d few = absurd (omega (arith, few, c.len.ensures.value))
