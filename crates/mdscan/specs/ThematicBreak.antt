-- Thematic break (CommonMark 4.1): three or more of one of `*`, `-`, `_`, each followed by any number of
-- spaces and tabs, and nothing else.
use Rattle.std.specs.Prelude.{ℕ, Bool, ◌||◌, ◌&&◌, ◌==◌, nat_le, List, count_by}
use Rattle.std.specs.List.{list_all}
use Rattle.mdscan.specs.Blanks.{is_blank, begins_with}

unfoldable pub is_break_of : ℕ → List ℕ → Bool
is_break_of mark line =
    begins_with mark line && list_all (λ b. (b == mark) || is_blank b) line && nat_le 3 (count_by (λ b. b == mark) line)

unfoldable pub is_thematic_break : List ℕ → Bool
is_thematic_break line = is_break_of 42 line || is_break_of 45 line || is_break_of 95 line
