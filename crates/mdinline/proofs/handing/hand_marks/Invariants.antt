use Rattle.std.proofs.Common.{replicate}
use Rattle.inlinespec.specs.InlineEvents.{written}
use Rattle.mdpair.specs.Neighbours.{byte_of}
use Rattle.mdinline.proofs.handing.hand_marks.Given as goal

abbrev pub invariant-loop : goal.invariant-loop
invariant-loop g l = g.S.InlineSink.takes l.fn.sink (written (replicate l.counter (byte_of l.delimiter))) l.sink
