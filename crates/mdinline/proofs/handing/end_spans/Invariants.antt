use Rattle.std.proofs.Common.{replicate}
use Rattle.inlinespec.specs.InlineEvents.{Leave}
use Rattle.mdinline.proofs.handing.end_spans.Given as goal

abbrev pub invariant-loop : goal.invariant-loop
invariant-loop g l = g.S.InlineSink.takes l.fn.sink (replicate l.counter Leave) l.sink
