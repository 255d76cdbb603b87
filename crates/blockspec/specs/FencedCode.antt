-- Fenced code blocks (CommonMark 4.5).
use Rattle.std.specs.Prelude.{Bool, true, false, List, Option}
use Rattle.std.specs.Option.{option_map}
use Rattle.mdscan.specs.CodeFence.{opening_fence}
use Rattle.mdscan.specs.Spans.{part}
use Rattle.blockspec.specs.BlockLine.{BlockLine, indentation, rest, without_last}
use Rattle.blockspec.specs.BlockKinds.{Kind, FencedCode}

abbrev pub begins_fence : BlockLine → Option Kind
begins_fence l =
    option_map (λ fence. FencedCode (indentation l) fence.mark fence.length (part (rest l) fence.info) false) (opening_fence (rest l))

-- The content stands between the opening fence and the closing one, if that came.
abbrev pub fenced_lines : (closed : Bool) → (later : List BlockLine) → List BlockLine
fenced_lines true later = without_last later
fenced_lines false later = later
