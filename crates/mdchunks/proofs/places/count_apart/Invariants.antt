use Rattle.std.proofs.Common.{take}
use Rattle.std.specs.List.{All}
use Rattle.mdchunks.specs.Marks.{IsApart}
use Rattle.mdchunks.proofs.places.count_apart.Given as goal

-- so many members have none of the marks
abbrev pub invariant-loop-i : goal.invariant-loop-i
invariant-loop-i g l = All (IsApart g.T.Weighed.marks l.marks) (take l.i l.items)
