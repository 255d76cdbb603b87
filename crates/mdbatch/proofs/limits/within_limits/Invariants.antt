use denote.Shadow.{shadow}
use denote.Text.{Utf8}
use Rattle.std.proofs.Common.{◌≡◌, ◌+◌, ◌-◌, ◌^◌, length, map, min}
use Rattle.mdtext.specs.Lines.{without_nul, split_lines}
use Rattle.mdsource.specs.SourceLimits.{size_of}
use Rattle.mdbatch.proofs.limits.within_limits.Given as goal

-- the lines and bytes so far and those of the rest are all
abbrev pub invariant-loop-rest : goal.invariant-loop-rest
invariant-loop-rest l = record {
  text : shadow (Utf8 l.rest);
  lines : min (l.lines + length (split_lines l.rest)) (2 ^ 64 - 1) ≡ min (length (split_lines l.text)) (2 ^ 64 - 1);
  bytes : min (l.size + size_of (map without_nul (split_lines l.rest))) (2 ^ 64 - 1) ≡ min (size_of (map without_nul (split_lines l.text))) (2 ^ 64 - 1);
}

abbrev pub decreases-loop-rest : goal.decreases-loop-rest
decreases-loop-rest l = length l.rest
