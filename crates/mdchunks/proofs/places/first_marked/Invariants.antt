use Rattle.std.proofs.Common.{◌≡◌, length, take}
use Rattle.std.specs.List.{All}
use Rattle.mdchunks.specs.Lists.{joined}
use Rattle.mdchunks.specs.Marks.{IsApart}
use Rattle.mdchunks.proofs.places.first_marked.Given as goal

-- no member of the chunks before has one of the marks
abbrev pub invariant-loop-i : goal.invariant-loop-i
invariant-loop-i g l = record {
  before : l.before ≡ length (joined (take l.i l.chunks));
  apart : All (IsApart g.T.Weighed.marks l.marks) (joined (take l.i l.chunks));
}
