-- What the parts of an opening are in the line that it was found in.
use Rattle.std.specs.Prelude.{ℕ, List}
use Rattle.mdtext.specs.Columns.{AreMarks}
use Rattle.mdscan.specs.Spans.{IsSpanOf}
use Rattle.mdblock.specs.declared.block_starts.BlockStart.{BlockStart}
use Rattle.mdblock.specs.declared.block_starts.BlockStart.TheVariants as o

-- marks are ASCII characters at the line's front, and the other parts are spans of it
abbrev pub IsStartOf : List ℕ → BlockStart → Type 0
IsStartOf text o.Quote = AreMarks 1 text
IsStartOf text (o.Heading heading) = IsSpanOf text heading.content
IsStartOf text (o.Fence fence) = IsSpanOf text fence.info
IsStartOf text (o.Html kind) = Unit {0}
IsStartOf text o.Break = Unit {0}
IsStartOf text (o.Item marker) = AreMarks marker.width text
IsStartOf text o.Code = Unit {0}
