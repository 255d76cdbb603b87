use Rattle.std.proofs.Common.{◌≡◌, drop, map}
use Rattle.mdsource.specs.SourceLimits.{first_with_ending}
use Rattle.mdsource.proofs.limits.first_line_break.Given as goal

abbrev pub invariant-loop-i : goal.invariant-loop-i
invariant-loop-i l = first_with_ending l.i (map (λ line. line.now) (drop l.i l.lines)) ≡ first_with_ending 0 (map (λ line. line.now) l.lines)
