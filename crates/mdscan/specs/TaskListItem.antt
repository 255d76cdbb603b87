-- Task list item marker (GFM Task list items (extension)): `[`, a space, a tab, `x` or `X`, `]`. Then a space or tab at least, and
-- on the same line something else.
use Rattle.std.specs.Prelude.{ℕ, ◌+◌, Bool, false, not, ◌||◌, ◌&&◌, ◌==◌, nat_lt, List, [], ◌∷◌, drop, slice_index, Option, Some, None, if◌then◌else◌}
use Rattle.std.specs.List.{prefix_len}
use Rattle.mdscan.specs.declared.task_list_items.TaskMark.{TaskMark}
use Rattle.mdscan.specs.Blanks.{is_blank}

-- `x` in either case
abbrev pub is_tick : ℕ → Bool
is_tick b = (b == 120) || (b == 88)

-- the brackets with what may stand between them
abbrev pub begins_box : List ℕ → Bool
begins_box (opening ∷ inside ∷ closing ∷ _) = (opening == 91) && (is_blank inside || is_tick inside) && (closing == 93)
begins_box _ = false

-- something on this line
abbrev pub begins_text : List ℕ → Bool
begins_text [] = false
begins_text (b ∷ _) = not (b == 10)

-- The text goes on after the box and the spaces and tabs behind it.
unfoldable pub task_marker : List ℕ → Option TaskMark
task_marker text =
    let blanks = prefix_len is_blank (drop 3 text) in
    if begins_box text && nat_lt 0 blanks && begins_text (drop (3 + blanks) text)
    then Some (record { ticked = is_tick (slice_index text 1); after = 3 + blanks }) else None
