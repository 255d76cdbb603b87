use Rattle.std.proofs.Common.{◌≡◌, ◌-◌, ◌++◌, List}
use Rattle.inlinespec.specs.InlineEvents.{Event}
use Rattle.mdinline.specs.held.LeafEvents.{begun_events}
use Rattle.mdinline.proofs.handing.begin_spans.Given as goal

abbrev pub invariant-loop : goal.invariant-loop
invariant-loop g l =
    (es : List Event) × g.S.InlineSink.takes l.fn.sink es l.sink
    × (es ++ begun_events l.source.begun.now (l.end - l.counter) l.place ≡ begun_events l.source.begun.now l.fn.run.begins l.fn.run.outermost)
