-- Link labels (CommonMark 6.3).
use Rattle.std.specs.Prelude.{ℕ, ◌+◌, Bool, not, ◌||◌, ◌&&◌, ◌==◌, nat_lt, nat_le, List, [], ◌∷◌, take, drop, count_by, Option, Some, None, if◌then◌else◌}
use Rattle.std.specs.List.{list_any}
use Rattle.mdscan.specs.declared.spans.Span.{Span}
use Rattle.mdscan.specs.Blanks.{begins_with}
use Rattle.mdscan.specs.BackslashEscapes.{run_before}

-- a byte with which a character begins
abbrev pub begins_character : ℕ → Bool
begins_character b = nat_lt b 128 || nat_le 192 b

-- neither space, nor tab, nor line ending
abbrev pub is_visible : ℕ → Bool
is_visible b = not ((b == 32) || (b == 9) || (b == 10) || (b == 13))

-- what a label's brackets may hold: at most 999 characters, and not only spaces, tabs and line endings
abbrev pub is_label_text : List ℕ → Bool
is_label_text inside = nat_le (count_by begins_character inside) 999 && list_any is_visible inside

-- the inside of the label whose brackets stand at a place: it holds no bracket that is not escaped
unfoldable pub label_at : List ℕ → ℕ → Option Span
label_at text at =
    let inside = run_before (91 ∷ 93 ∷ []) (drop (at + 1) text) in
    if begins_with 91 (drop at text) && begins_with 93 (drop (at + 1 + inside) text) && is_label_text (take inside (drop (at + 1) text))
    then Some (record { start = at + 1; end = at + 1 + inside }) else None
