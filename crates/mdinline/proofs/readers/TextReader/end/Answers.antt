use Rattle.std.proofs.Common.{[]}
use Rattle.mdinline.specs.held.LeafEvents.{tokens_events}
use Rattle.mdinline.proofs.ReadHolding.{holds_all, holds_no_more, no_items}
use Rattle.mdinline.proofs.readers.TextReader.end.Goals as goal

pub returns-then-is_empty-clause-takes : goal.returns-then-is_empty-clause-takes
returns-then-is_empty-clause-takes g c = (
  [],
  g.met.S.InlineSink.takes_none c.args.sink.now,
  λ handed ps h.
      holds_no_more c.args.self.now.entities.now c.args.text.now handed c.args.self.now.pending ps h
      (no_items c.args.self.now.pending.tokens.items c.is_empty.result c.is_empty.ensures c.if-is_empty.true),
)

pub flush-requires : goal.flush-requires
flush-requires g c = c.in_ok-settle.ensures.tokens c.args.text.now c.requires

pub returns-clause-takes : goal.returns-clause-takes
returns-clause-takes g c =
    let entities = c.args.self.now.entities.now in
    let text = c.args.text.now in
    let settled = c.settle.new.self in (
      tokens_events entities text settled.begun.items settled.tokens.items,
      c.in_ok-flush.ensures.handed,
      λ handed ps h. holds_all entities text handed c.args.self.now.pending ps h settled (c.in_ok-settle.ensures.pieces entities text h.kept),
    )
