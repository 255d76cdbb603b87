use Rattle.std.proofs.Common.{[]}
use Rattle.mdinline.specs.held.LeafEvents.{tokens_events}
use Rattle.mdinline.proofs.ReadHolding.{holds_flushed, holds_still, no_items_both}
use Rattle.mdinline.proofs.readers.TextReader.flush_if_idle.Goals as goal

pub returns-then-is_idle-clause-takes : goal.returns-then-is_idle-clause-takes
returns-then-is_idle-clause-takes g c =
    let entities = c.args.self.now.entities.now in
    let text = c.args.text.now in
    let old = c.args.self.now.pending in
    let now = c.in_ok-flush.ensures in
    let none = no_items_both old.runs.items old.openings.unused.items c.is_idle.result c.is_idle.ensures c.if-is_idle.true in (
      tokens_events entities text old.begun.items old.tokens.items,
      now.handed,
      λ handed ps h. holds_flushed entities text handed old ps h c.flush.new.self.pending none.0 none.1 now.tokens now.runs now.places now.openings,
    )

pub returns-clause-takes : goal.returns-clause-takes
returns-clause-takes g c = (
  [],
  g.met.S.InlineSink.takes_none c.args.sink.now,
  λ handed ps h. holds_still c.args.self.now.entities.now c.args.text.now handed c.args.self.now.pending ps h,
)
