use Rattle.std.proofs.Common.{◌≡◌, ◌+◌, ◌++◌, false, take, drop}
use Rattle.std.specs.List.{All}
use Rattle.mdchunks.specs.Lists.{IsFilled, joined}
use Rattle.mdchunks.proofs.Removed.{IsCutTo}
use Rattle.mdchunks.proofs.removals.remove_members.Given as goal

-- the chunks up to here are done
abbrev pub invariant-loop-chunk : goal.invariant-loop-chunk
invariant-loop-chunk g l = record {
  done : IsCutTo (take l.fn.at (joined l.fn.chunks) ++ drop (l.fn.at + l.fn.removed) (joined l.fn.chunks)) l.chunks l.chunk-index l.at l.left;
  filled : l.emptied ≡ false → All IsFilled l.fn.chunks → All IsFilled l.chunks;
}
