-- How a count grows by several lines.
use Rattle.std.specs.Prelude.{ℕ, zero, suc}
use Rattle.mdtext.specs.Counted.{counted}

-- a count behind so many lines more
abbrev pub counted_by : (lines count : ℕ) → ℕ
counted_by zero count = count
counted_by (suc lines) count = counted (counted_by lines count)
