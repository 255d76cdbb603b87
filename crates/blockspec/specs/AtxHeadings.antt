-- ATX headings (CommonMark 4.2).
use Rattle.std.specs.Prelude.{Option}
use Rattle.std.specs.Option.{option_map}
use Rattle.mdscan.specs.AtxHeading.{atx_heading}
use Rattle.mdscan.specs.Spans.{part}
use Rattle.blockspec.specs.BlockLine.{BlockLine, rest}
use Rattle.blockspec.specs.BlockKinds.{Kind, AtxHeading}

abbrev pub begins_atx : BlockLine → Option Kind
begins_atx l = option_map (λ heading. AtxHeading heading.level (part (rest l) heading.content)) (atx_heading (rest l))
