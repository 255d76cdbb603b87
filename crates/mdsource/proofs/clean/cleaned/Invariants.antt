use Rattle.std.proofs.Common.{◌≡◌, ◌++◌, map, drop, string_bytes}
use Rattle.mdtext.specs.Lines.{without_nul}
use Rattle.mdsource.proofs.clean.cleaned.Given as goal

abbrev pub invariant-loop-line : goal.invariant-loop-line
invariant-loop-line l = map string_bytes l.clean_lines.items ++ map without_nul (map (λ line. line.now) (drop l.line-index l.lines)) ≡ map without_nul (map (λ line. line.now) l.lines)
