use Rattle.std.proofs.Common.{[], refl}
use Rattle.mdinline.specs.held.LeafEvents.{leaf_events}
use Rattle.mdinline.proofs.ReadHolding.{leaf_handed, leaf_kept}
use Rattle.mdinline.proofs.readers.TextReader.put.Goals as goal

pub returns-then-not-is_empty-clause-takes : goal.returns-then-not-is_empty-clause-takes
returns-then-not-is_empty-clause-takes g c = (
  [],
  g.met.S.InlineSink.takes_none c.args.sink.now,
  leaf_kept c.args.self.now.entities.now c.args.text.now c.args.token c.args.self.now.pending c.leaf.new.self c.in_ok-leaf.ensures.pieces,
)

pub returns-clause-takes : goal.returns-clause-takes
returns-clause-takes g c =
    let entities = c.args.self.now.entities.now in
    let text = c.args.text.now in
    let es = leaf_events entities text c.args.token in (
      es,
      c.in_ok-hand_leaf.ensures,
      λ leaf. leaf_handed entities text es es c.args.self.now.pending c.is_empty.result c.is_empty.ensures c.if-not-is_empty.false refl,
    )
