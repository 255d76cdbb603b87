-- List markers (CommonMark 5.2): a bullet list marker is one of `-`, `+`, `*`; an ordered list marker is one
-- to nine digits and then `.` or `)`. A space, a tab or the line's end follows.
use Rattle.std.specs.Prelude.{ℕ, ◌+◌, Bool, ◌||◌, ◌&&◌, nat_lt, nat_le, List, take, drop, slice_index, Option, Some, None, if◌then◌else◌}
use Rattle.std.specs.Char.{is_ascii_digit}
use Rattle.std.specs.List.{prefix_len}
use Rattle.std.specs.Str.Parse.{digits_value}
use Rattle.mdscan.specs.declared.list_markers.Marker.{Marker}
use Rattle.mdscan.specs.Blanks.{begins_with, ends_or_blank}

abbrev pub begins_bullet : List ℕ → Bool
begins_bullet text = begins_with 45 text || begins_with 43 text || begins_with 42 text

abbrev pub begins_delimiter : List ℕ → Bool
begins_delimiter text = begins_with 46 text || begins_with 41 text

abbrev pub bullet : List ℕ → Marker
bullet line = record { mark = slice_index line 0; start = None; width = 1 }

-- a marker whose number has so many digits
abbrev pub ordered : ℕ → List ℕ → Marker
ordered digits line =
    record { mark = slice_index line digits; start = Some (digits_value 10 (take digits line)); width = digits + 1 }

-- so many digits, a delimiter, and the end of the marker
abbrev pub is_ordered : ℕ → List ℕ → Bool
is_ordered digits line =
    nat_lt 0 digits && nat_le digits 9 && begins_delimiter (drop digits line) && ends_or_blank (drop (digits + 1) line)

unfoldable pub ordered_marker : List ℕ → Option Marker
ordered_marker line =
    let digits = prefix_len is_ascii_digit line in
    if is_ordered digits line then Some (ordered digits line) else None

unfoldable pub marker : List ℕ → Option Marker
marker line = if begins_bullet line && ends_or_blank (drop 1 line) then Some (bullet line) else ordered_marker line
