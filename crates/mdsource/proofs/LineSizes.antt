-- No line is longer than its text.
use Rattle.std.proofs.Common.{ℕ, ◌+◌, ◌*◌, ◌^◌, ◌≤◌, ◌<◌, List, length, map, get_or, ap, arith, String, Global, string_bytes}
use Rattle.std.proofs.lemmas.List.{get_or-map, length-map}
use Rattle.std.proofs.lemmas.List.Sums.{get_or-le-sum_by}
use Rattle.mdsource.specs.SourceLimits.{size_of}

-- a line is no longer than the text
pub line_fits : (lines : List (String Global)) (i : ℕ) (d : String Global) → i < length lines → size_of (map string_bytes lines) ≤ 16777216 → 4 * length (string_bytes (get_or lines i d)) < 2 ^ 64
line_fits lines i d below small =
    let fits = get_or-le-sum_by (λ (line : List ℕ). length line + 1) (map string_bytes lines) i (string_bytes d) (omega (arith, below, length-map lines string_bytes)) in
    let is = ap length (get_or-map string_bytes lines i d (string_bytes d) below) in
    omega (arith, fits, small, is)
