use Rattle.std.proofs.Common.{◌≡◌, ◌-◌, ◌^◌, ◌+◌, ◌≤◌, min, drop, map}
use Rattle.mdsource.specs.SourceLimits.{size_of}
use Rattle.mdsource.proofs.limits.plain_size.Given as goal

abbrev pub invariant-loop-line : goal.invariant-loop-line
invariant-loop-line l = record {
  so_far : min (l.size + size_of (map (λ line. line.now) (drop l.line-index l.lines))) (2 ^ 64 - 1) ≡ min (size_of (map (λ line. line.now) l.lines)) (2 ^ 64 - 1);
  fits : l.size ≤ 2 ^ 64 - 1;
}
