-- ATX heading (CommonMark 4.2).
use Rattle.std.specs.Prelude.{ℕ, ◌+◌, ◌-◌, Bool, ◌||◌, ◌&&◌, ◌==◌, nat_lt, nat_le, List, length, take, drop, slice_index, Option, Some, None, if◌then◌else◌}
use Rattle.std.specs.List.{prefix_len, suffix_len}
use Rattle.mdscan.specs.declared.spans.Span.{Span}
use Rattle.mdscan.specs.declared.atx_headings.AtxLine.{AtxLine}
use Rattle.mdscan.specs.Blanks.{is_blank, ends_or_blank}
use Rattle.mdscan.specs.Spans.{part, trimmed_from}

-- An opening sequence is one to six `#`, followed by a space, a tab or the line's end.
abbrev pub is_opening : ℕ → List ℕ → Bool
is_opening level line = nat_lt 0 level && nat_le level 6 && ends_or_blank (drop level line)

-- how long a heading is without the `#` at its end
abbrev pub before_hashes : List ℕ → ℕ
before_hashes body = length body - suffix_len (λ b. b == 35) body

-- The `#` at the end are a closing sequence if they are the whole, or a space or tab stands before them.
abbrev pub is_closed : List ℕ → Bool
is_closed body = (before_hashes body == 0) || is_blank (slice_index body (before_hashes body - 1))

-- how long a heading's content is: without a closing sequence and the spaces and tabs before it
unfoldable pub content_length : List ℕ → ℕ
content_length body =
    if is_closed body then before_hashes body - suffix_len is_blank (take (before_hashes body) body) else length body

-- The content has no spaces and tabs at its ends, and no closing sequence.
unfoldable pub heading_content : List ℕ → ℕ → Span
heading_content line level =
    let inner = trimmed_from line level in
    record { start = inner.start; end = inner.start + content_length (part line inner) }

unfoldable pub atx_heading : List ℕ → Option AtxLine
atx_heading line =
    let level = prefix_len (λ b. b == 35) line in
    if is_opening level line then Some (record { level = level; content = heading_content line level }) else None
