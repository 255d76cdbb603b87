use Rattle.std.proofs.Common.{◌≡◌, ◌++◌, List, drop}
use Rattle.inlinespec.specs.InlineEvents.{Event}
use Rattle.mdinline.specs.held.LeafEvents.{tokens_events}
use Rattle.mdinline.proofs.handing.hand_out.Given as goal

-- the events so far and those of the rest are all
abbrev pub invariant-loop-token : goal.invariant-loop-token
invariant-loop-token g l =
    let events = tokens_events l.source.entities.now l.source.text.now l.source.begun.now in
    (es : List Event) × g.S.InlineSink.takes l.fn.sink es l.sink × (es ++ events (drop l.token-index l.tokens) ≡ events l.tokens)
