-- What follows an inline link's text (CommonMark 6.3): `(`, spacing or none, perhaps a destination and, after
-- spacing, perhaps a title, spacing or none, and `)`.
use Rattle.std.specs.Prelude.{ℕ, ◌+◌, nat_lt, List, drop, Option, Some, None, IfSome, if◌then◌else◌}
use Rattle.std.specs.Option.{option_or}
use Rattle.mdscan.specs.declared.spans.Span.{Span}
use Rattle.mdscan.specs.declared.link_destinations.Dest.{Dest}
use Rattle.mdscan.specs.declared.link_tails.Tail.{Tail}
use Rattle.mdscan.specs.Blanks.{begins_with}
use Rattle.mdscan.specs.Spacing.{past_spacing}
use Rattle.mdscan.specs.Spans.{IsSpanOf}
use Rattle.mdscan.specs.LinkDestination.{destination_at}
use Rattle.mdscan.specs.LinkTitle.{title_at}

-- the parts of a tail are spans of the text
pub record AreTailSpans (text : List ℕ) (tail : Tail) : Type 0 where
  pub destination : IfSome tail.destination (λ span. IsSpanOf text span)
  pub title : IfSome tail.title (λ span. IsSpanOf text span)

-- a tail with these parts, where `)` stands at a place
unfoldable pub tail_to : List ℕ → ℕ → Option Span → Option Span → Option Tail
tail_to text at destination title =
    if begins_with 41 (drop at text) then Some (record { destination = destination; title = title; end = at + 1 }) else None

abbrev pub tail_titled : List ℕ → Dest → Option Dest → Option Tail
tail_titled text dest None = None
tail_titled text dest (Some title) = tail_to text (past_spacing text title.end) (Some dest.span) (Some title.span)

-- a title after spacing, if there are both
unfoldable pub titled_tail : List ℕ → Dest → Option Tail
titled_tail text dest =
    let next = past_spacing text dest.end in
    if nat_lt dest.end next then tail_titled text dest (title_at text next) else None

abbrev pub tail_from : List ℕ → Option Dest → Option Tail
tail_from text None = None
tail_from text (Some dest) = option_or (titled_tail text dest) (tail_to text (past_spacing text dest.end) (Some dest.span) None)

-- what follows `(`, from a place on
unfoldable pub tail_inside : List ℕ → ℕ → Option Tail
tail_inside text at = if begins_with 41 (drop at text) then tail_to text at None None else tail_from text (destination_at text at)

unfoldable pub inline_tail_at : List ℕ → ℕ → Option Tail
inline_tail_at text at = if begins_with 40 (drop at text) then tail_inside text (past_spacing text (at + 1)) else None
