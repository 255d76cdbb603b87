-- Spaces and tabs with at most one line ending (CommonMark 6.3, 6.6).
use Rattle.std.specs.Prelude.{ℕ, ◌+◌, List, drop, if◌then◌else◌}
use Rattle.std.specs.List.{prefix_len}
use Rattle.mdscan.specs.Blanks.{is_blank, begins_with}

-- how long the longest such run is that a text begins with
unfoldable pub spacing_length : List ℕ → ℕ
spacing_length text =
    let first = prefix_len is_blank text in
    if begins_with 10 (drop first text) then first + 1 + prefix_len is_blank (drop (first + 1) text) else first

-- the place after the longest such run that stands at a place
abbrev pub past_spacing : List ℕ → ℕ → ℕ
past_spacing text at = at + spacing_length (drop at text)
