-- Link reference definition (CommonMark 4.7): a label, `:`, spacing or none, a destination, and perhaps a title
-- after spacing. Only spaces and tabs follow on the line. Where something else follows the title, and the title
-- stands on a line of its own, the definition has none.
use Rattle.std.specs.Prelude.{ℕ, ◌+◌, ◌==◌, nat_lt, List, length, drop, Option, Some, None, IfSome, if◌then◌else◌}
use Rattle.std.specs.List.{prefix_len}
use Rattle.std.specs.Option.{option_or}
use Rattle.mdscan.specs.declared.spans.Span.{Span}
use Rattle.mdscan.specs.declared.link_destinations.Dest.{Dest}
use Rattle.mdscan.specs.declared.link_definitions.Def.{Def}
use Rattle.mdscan.specs.Blanks.{is_blank, begins_with}
use Rattle.mdscan.specs.Spacing.{past_spacing}
use Rattle.std.specs.Str.{IsCharBoundary}
use Rattle.mdscan.specs.Spans.{IsSpanOf}
use Rattle.mdscan.specs.LinkDestination.{destination_at}
use Rattle.mdscan.specs.LinkLabel.{label_at}
use Rattle.mdscan.specs.LinkTitle.{title_at}

-- the parts of a definition are spans of the text, and its end cuts no character
pub record AreDefSpans (text : List ℕ) (def : Def) : Type 0 where
  pub label : IsSpanOf text def.label
  pub destination : IsSpanOf text def.destination
  pub title : IfSome def.title (λ span. IsSpanOf text span)
  pub whole : IsCharBoundary text def.end

-- after spaces and tabs at a place, where the text ends there or after a line ending
unfoldable pub line_end : List ℕ → ℕ → Option ℕ
line_end text at =
    let next = at + prefix_len is_blank (drop at text) in
    if next == length text then Some next else (if begins_with 10 (drop next text) then Some (next + 1) else None)

abbrev pub def_to : Span → Dest → Option Span → Option ℕ → Option Def
def_to label dest title None = None
def_to label dest title (Some end) = Some (record { label = label; destination = dest.span; title = title; end = end })

abbrev pub def_titled : List ℕ → Span → Dest → Option Dest → Option Def
def_titled text label dest None = None
def_titled text label dest (Some title) = def_to label dest (Some title.span) (line_end text title.end)

-- a title after spacing, if there are both
unfoldable pub titled_def : List ℕ → Span → Dest → Option Def
titled_def text label dest =
    let next = past_spacing text dest.end in
    if nat_lt dest.end next then def_titled text label dest (title_at text next) else None

abbrev pub def_from : List ℕ → Span → Option Dest → Option Def
def_from text label None = None
def_from text label (Some dest) = option_or (titled_def text label dest) (def_to label dest None (line_end text dest.end))

-- what follows a label
unfoldable pub labelled_def : List ℕ → Span → Option Def
labelled_def text label =
    if begins_with 58 (drop (label.end + 1) text) then def_from text label (destination_at text (past_spacing text (label.end + 2))) else None

abbrev pub def_of : List ℕ → Option Span → Option Def
def_of text None = None
def_of text (Some label) = labelled_def text label

unfoldable pub definition_of : List ℕ → Option Def
definition_of text = def_of text (label_at text 0)
