-- What stands behind the `]` of a link's or an image's text, and where it leads (CommonMark 6.3, 6.4).
use Rattle.std.specs.Prelude.{ℕ, ◌+◌, Bool, ◌&&◌, List, [], drop, Option, Some, None, if◌then◌else◌}
use Rattle.mdtext.specs.EntityTable.{EntityTable}
use Rattle.mdtext.specs.Labels.{label_of}
use Rattle.mdtext.specs.Unescaped.{unescaped}
use Rattle.mdscan.specs.declared.spans.Span.{Span}
use Rattle.mdscan.specs.declared.link_tails.Tail.{Tail}
use Rattle.mdscan.specs.Blanks.{begins_with}
use Rattle.mdscan.specs.LinkTail.{inline_tail_at}
use Rattle.mdscan.specs.LinkLabel.{label_at}
use Rattle.mdscan.specs.Spans.{part}
use Rattle.inlinespec.specs.LabelMap.{LinkTarget}

-- where the labels lead that are defined
abbrev pub Table : Type 0
Table = List ℕ → Option LinkTarget

-- A link says where it leads (an inline link), or by which label to look it up; there is none where neither stands behind its `]` and its text is no
-- label. The number is the place behind it.
pub data LinkTail : Type 0 where
  Direct : LinkTarget → ℕ → LinkTail
  ByLabel : List ℕ → ℕ → LinkTail
  NoLabel : LinkTail

abbrev pub by_label : Option (List ℕ) → ℕ → LinkTail
by_label None end = NoLabel
by_label (Some label) end = ByLabel label end

-- a destination or a title with escapes and references replaced (CommonMark 2.4, 2.5); one that is missing is empty
abbrev pub part_text : EntityTable → List ℕ → Option Span → List ℕ
part_text entities text None = []
part_text entities text (Some span) = unescaped entities (part text span)

abbrev pub tail_target : EntityTable → List ℕ → Tail → LinkTarget
tail_target entities text tail = record { url = part_text entities text tail.destination; title = part_text entities text tail.title }

-- whether `[]` stands at a place
abbrev pub empty_brackets_at : List ℕ → ℕ → Bool
empty_brackets_at text at = begins_with 91 (drop at text) && begins_with 93 (drop (at + 1) text)

-- An inline tail comes first; then a label in brackets (a full reference); then the text itself, with `[]` behind it (collapsed) or without
-- (shortcut). Labels are matched by their folded text.
abbrev pub link_tail_by : EntityTable → List ℕ → ℕ → List ℕ → Option Tail → Option Span → LinkTail
link_tail_by entities text after inside (Some tail) label = Direct (tail_target entities text tail) tail.end
link_tail_by entities text after inside None (Some span) = by_label (label_of (part text span)) (span.end + 1)
link_tail_by entities text after inside None None = by_label (label_of inside) (if empty_brackets_at text after then after + 2 else after)

-- what a `]` makes of the text between it and its opener, by what stands from the place behind it on
unfoldable pub link_tail_at : EntityTable → List ℕ → ℕ → List ℕ → LinkTail
link_tail_at entities text after inside =
    link_tail_by entities text after inside (inline_tail_at text after) (label_at text after)
