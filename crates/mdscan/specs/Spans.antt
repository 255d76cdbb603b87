-- Parts of a text, by their places in it.
use Rattle.std.specs.Prelude.{ℕ, ◌+◌, ◌-◌, ◌≡◌, ◌<◌, ◌≤◌, List, length, take, drop, slice_index}
use Rattle.std.specs.List.{prefix_len, suffix_len}
use Rattle.std.specs.Str.{IsCharBoundary}
use Rattle.mdscan.specs.declared.spans.Span.{Span}
use Rattle.mdscan.specs.Blanks.{is_blank}

-- a span of a text: its ends are in order, within the text, and no character is cut
pub record IsSpanOf (text : List ℕ) (span : Span) : Type 0 where
  pub ordered : span.start ≤ span.end
  pub within : span.end ≤ length text
  pub starts_whole : IsCharBoundary text span.start
  pub ends_whole : IsCharBoundary text span.end

-- the bytes of a span
abbrev pub part : List ℕ → Span → List ℕ
part text span = take (span.end - span.start) (drop span.start text)

-- the part of a text from a place on, without the spaces and tabs at its ends
abbrev pub trimmed_from : List ℕ → ℕ → Span
trimmed_from text at =
    let start = at + prefix_len is_blank (drop at text) in
    let body = drop start text in
    record { start = start; end = start + (length body - suffix_len is_blank body) }

-- An end of what stands at a place: after the place, within the text, and no character is cut.
pub record IsEndAfter (text : List ℕ) (at end : ℕ) : Type 0 where
  pub later : at < end
  pub within : end ≤ length text
  pub whole : IsCharBoundary text end

-- an end of what stands at a place, just after an ASCII byte
pub record EndsAfterMark (text : List ℕ) (at end : ℕ) : Type 0 where
  pub later : at < end
  pub within : end ≤ length text
  pub mark : slice_index text (end - 1) < 128

-- what stands between two ASCII bytes, the first of which stands at a place
pub record IsEnclosed (text : List ℕ) (at : ℕ) (span : Span) : Type 0 where
  pub opens : slice_index text at < 128
  pub starts : span.start ≡ at + 1
  pub ordered : span.start ≤ span.end
  pub closes : slice_index text span.end < 128
  pub within : span.end < length text
