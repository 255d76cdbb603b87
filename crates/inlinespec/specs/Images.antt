-- Images (CommonMark 6.4): made as links are, from an opening bracket behind `!`.
use Rattle.std.specs.Prelude.{Bool, true, false}
use Rattle.inlinespec.specs.LabelMap.{LinkTarget}
use Rattle.inlinespec.specs.InlineEvents.{InlineSpan, LinkTo, ImageOf}

abbrev pub span_to : (image : Bool) → LinkTarget → InlineSpan
span_to true target = ImageOf target
span_to false target = LinkTo target
