-- A count that grows by several lines.
use Rattle.std.proofs.Common.{ℕ, zero, suc, ◌+◌, ◌≤◌, arith}
use Rattle.mdblock.specs.CountedLines.{counted_by}

-- it grows by no more than these
pub counted_within : (lines count : ℕ) → counted_by lines count ≤ count + lines
counted_within zero count = omega arith
counted_within (suc lines) count = let rest = counted_within lines count in omega (arith, rest)
