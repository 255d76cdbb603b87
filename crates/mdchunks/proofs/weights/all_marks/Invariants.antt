use Rattle.std.proofs.Common.{take}
use Rattle.mdchunks.specs.Marks.{AreMarksOf}
use Rattle.mdchunks.proofs.weights.all_marks.Given as goal

abbrev pub invariant-loop-item : goal.invariant-loop-item
invariant-loop-item g l = AreMarksOf g.T.Weighed.marks (take l.item-index l.items) l.all
