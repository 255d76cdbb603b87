-- Link titles (CommonMark 6.3).
use Rattle.std.specs.Prelude.{ℕ, ◌+◌, Bool, false, not, ◌||◌, ◌&&◌, List, [], ◌∷◌, take, drop, Option, Some, None, if◌then◌else◌}
use Rattle.std.specs.List.{prefix_len}
use Rattle.mdscan.specs.declared.link_destinations.Dest.{Dest}
use Rattle.mdscan.specs.Blanks.{is_blank, begins_with}
use Rattle.mdscan.specs.BackslashEscapes.{run_before}

-- a line ending, spaces and tabs, and a line ending
abbrev pub begins_blank_line : List ℕ → Bool
begins_blank_line text = begins_with 10 text && begins_with 10 (drop (1 + prefix_len is_blank (drop 1 text)) text)

abbrev pub holds_blank_line : List ℕ → Bool
holds_blank_line [] = false
holds_blank_line (b ∷ rest) = begins_blank_line (b ∷ rest) || holds_blank_line rest

-- from a place on: any bytes but the stops that are not escaped, without a blank line, and then the closing mark
unfoldable pub title_to : List ℕ → ℕ → List ℕ → ℕ → Option Dest
title_to text at stops closing =
    let inside = run_before stops (drop (at + 1) text) in
    if begins_with closing (drop (at + 1 + inside) text) && not (holds_blank_line (take inside (drop (at + 1) text)))
    then Some (record { span = record { start = at + 1; end = at + 1 + inside }; end = at + 1 + inside + 1 }) else None

-- A title stands in `"`, in `'`, or in parentheses.
unfoldable pub title_at : List ℕ → ℕ → Option Dest
title_at text at =
    if begins_with 34 (drop at text) then title_to text at (34 ∷ []) 34
    else (if begins_with 39 (drop at text) then title_to text at (39 ∷ []) 39
    else (if begins_with 40 (drop at text) then title_to text at (40 ∷ 41 ∷ []) 41 else None))
