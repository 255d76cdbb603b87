use Rattle.std.proofs.Common.{◌≡◌, ◌-◌, ◌^◌, ◌+◌, ◌≤◌, length, min, drop}
use Rattle.mdtext.specs.Lines.{without_nul}
use Rattle.mdtext.proofs.lines.replaced_len.Given as goal

-- the length so far and that of the rest are that of all
abbrev pub invariant-loop-byte : goal.invariant-loop-byte
invariant-loop-byte l = record {
  so_far : min (l.len + length (without_nul (drop l.byte-index l.line))) (2 ^ 64 - 1) ≡ min (length (without_nul l.line)) (2 ^ 64 - 1);
  fits : l.len ≤ 2 ^ 64 - 1;
}
