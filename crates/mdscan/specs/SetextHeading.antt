-- Setext heading underline (CommonMark 4.3): a run of `=` (level 1) or of `-` (level 2), and then only
-- spaces and tabs.
use Rattle.std.specs.Prelude.{ℕ, Bool, ◌&&◌, ◌==◌, nat_lt, List, drop, Option, Some, None, if◌then◌else◌}
use Rattle.std.specs.List.{prefix_len}
use Rattle.mdscan.specs.Blanks.{is_blank_text}

-- a run of the mark, and then only spaces and tabs
unfoldable pub is_run_of : ℕ → List ℕ → Bool
is_run_of mark line = let n = prefix_len (λ b. b == mark) line in nat_lt 0 n && is_blank_text (drop n line)

unfoldable pub underline_level : List ℕ → Option ℕ
underline_level line = if is_run_of 61 line then Some 1 else (if is_run_of 45 line then Some 2 else None)
