use Rattle.std.proofs.Common.{◌≡◌, drop, map}
use Rattle.std.specs.List.{list_any}
use Rattle.mdsource.specs.SourceLimits.{has_special}
use Rattle.mdsource.proofs.limits.are_plain.Given as goal

abbrev pub invariant-loop-line : goal.invariant-loop-line
invariant-loop-line l = list_any has_special (map (λ line. line.now) (drop l.line-index l.lines)) ≡ list_any has_special (map (λ line. line.now) l.lines)
