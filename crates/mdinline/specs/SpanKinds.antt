-- The spans that delimiter runs make (CommonMark 6.2; GFM Strikethrough (extension)).
use Rattle.inlinespec.specs.InlineEvents.{InlineSpan, Emphasis, StrongEmphasis, Strikethrough}
use Rattle.mdinline.specs.declared.sinks.SpanKind.{SpanKind}
use Rattle.mdinline.specs.declared.sinks.SpanKind.TheVariants.{Emph, Strong, Strike}

abbrev pub span_of : SpanKind → InlineSpan
span_of Emph = Emphasis
span_of Strong = StrongEmphasis
span_of Strike = Strikethrough
