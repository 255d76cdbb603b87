use Rattle.std.proofs.Common.{◌≡◌, ◌++◌, map, drop, string_bytes}
use Rattle.mdsource.proofs.clean.copied.Given as goal

abbrev pub invariant-loop-line : goal.invariant-loop-line
invariant-loop-line l = map string_bytes l.copied.items ++ map (λ line. line.now) (drop l.line-index l.lines) ≡ map (λ line. line.now) l.lines
