use Rattle.std.proofs.Common.{◌≡◌, ◌++◌, map, drop, string_bytes}
use Rattle.mdtool.proofs.serving.lent.Given as goal

abbrev pub invariant-loop-line : goal.invariant-loop-line
invariant-loop-line l = map (λ line. line.now) l.lent.items ++ map string_bytes (drop l.line-index l.lines) ≡ map string_bytes l.lines
